-- The whole samples of document 01, read back.
use mathlib.Core.Path.{◌≡◌, refl}
use mathlib.Core.Bool.{true}
use mathlib.Core.List.{[], ◌∷◌}
use mathlib.Core.Option.{none}
use Rattle.text.specs.Answers.{gives}
use Rattle.text.specs.Parts.{starts_with}
use Rattle.sheet.specs.Sheet.{all_name_bytes, holds_cdata_end, is_name, is_parts, fits_packet, in_range}
use Rattle.sheet.specs.Sentence.{sentence}
use Rattle.sheet.specs.Reading.{sheet_of}
use Rattle.sheet.specs.Answers.{read_back}
use Rattle.sheet.specs.Demand.{sentences, all_in_range}
use Rattle.sheet.specs.Samples.{kiln_alert, kiln_cancel, warn_cancel}
use Rattle.sheet.proofs.ReadSentence.{sheet_of_whole}
use Rattle.sheet.proofs.ReadAll.{reads}

alert_range : in_range kiln_alert ≡ true
unfolding starts_with all_name_bytes holds_cdata_end is_name is_parts in_range
alert_range = refl

cancel_range : in_range kiln_cancel ≡ true
unfolding starts_with all_name_bytes holds_cdata_end is_name is_parts in_range
cancel_range = refl

warn_range : in_range warn_cancel ≡ true
unfolding fits_packet in_range
warn_range = refl

pub read_alert : sheet_of (sentence kiln_alert) ≡ kiln_alert
read_alert = sheet_of_whole kiln_alert alert_range

pub read_cancel : sheet_of (sentence kiln_cancel) ≡ kiln_cancel
read_cancel = sheet_of_whole kiln_cancel cancel_range

pub read_warn : sheet_of (sentence warn_cancel) ≡ warn_cancel
read_warn = sheet_of_whole warn_cancel warn_range

-- the three in one text: asked for 0, the reader gives their number
pub read_count : read_back (sentences (kiln_alert ∷ kiln_cancel ∷ warn_cancel ∷ [])) 0 ≡ gives (3, none)
unfolding all_in_range starts_with all_name_bytes holds_cdata_end is_name is_parts fits_packet in_range
read_count = (reads (kiln_alert ∷ kiln_cancel ∷ warn_cancel ∷ []) refl).count
