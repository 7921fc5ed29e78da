-- Each word is read where the definition reads it.
use mathlib.Core.Path.{◌≡◌}
use native.Mathlib.Omega.{arith}
use lib.ListN.{length-drop}
use Rattle.sheet.specs.Reading.{after_word, from_status, from_scope, from_sender, from_name, from_parts, cap_of}
use Rattle.sheet.proofs.ReadSentence.{rest_le, sender_rest, name_rest}
use Rattle.reader.proofs.cap.cap_at.Goals as goal

pub returns : goal.returns
unfolding cap_of from_status from_scope from_sender from_name from_parts after_word
returns c = cc

pub span_at-requires : goal.span_at-requires
unfolding from_status from_scope from_sender after_word
span_at-requires c = let s = c.skip-start.result.now in
    let e : c.after-sender.result.now ≡ from_sender s = cc in
    (rw e (rest_le _ _ (sender_rest s)), rw c.skip-start.ensures (omega (arith, length-drop c.args.at c.args.t.now, c.ranges.at)))

pub span_at-requires-2 : goal.span_at-requires-2
unfolding from_status from_scope from_sender from_name after_word
span_at-requires-2 c = let s = c.skip-start.result.now in
    let e : c.after-name.result.now ≡ from_name s = cc in
    (rw e (rest_le _ _ (name_rest s)), rw c.skip-start.ensures (omega (arith, length-drop c.args.at c.args.t.now, c.ranges.at)))
