-- The definition goes through both texts in step, as the pairs do where both are as long.
use Rattle.std.proofs.Common.{◌∙◌}
use Rattle.time.specs.Time.{form}
use Rattle.time.proofs.Forms.{has_form_zip}
use Rattle.time.proofs.form.has_form.Goals as goal

pub returns : goal.returns
returns c = c.is_all_asked.ensures ∙ has_form_zip form c.args.text.now (cc)
