use Rattle.std.specs.List.{slice_range}
use Rattle.std.proofs.Common.{take_all, length-drop, drop, List, ℕ, sym, ◌∙◌, ◌≡◌, length, arith}
use Rattle.text.specs.Bytes.{is_digit, number_from}
use Rattle.text.proofs.Runs as runs
use Rattle.coordinates.proofs.Runs.{run_past, run_read, run_long, more_is, more_lt}
use Rattle.coordinates.proofs.scan.digits_at.Goals as goal

-- what the loop goes over
rest_is : (s : List ℕ) {rest : List ℕ} (at : ℕ) → rest ≡ slice_range s at (length s) → rest ≡ drop at s
rest_is s at e = e ∙ take_all _ _ (omega (arith, length-drop at s))

pub returns-in_default : goal.returns-in_default
returns-in_default c = run_past _ _ _ (omega (arith, rw c.in_default.is at c.get.ensures.lookup.0))

pub loop-i-init : goal.loop-i-init
unfolding number_from
loop-i-init c = record { few = omega arith; run = omega arith; value = omega arith; small = omega arith }

pub returns-then-not-is_digit : goal.returns-then-not-is_digit
returns-then-not-is_digit c =
    let inv = c.loop-i.invariant in
    let all = runs.run_stop is_digit c.in-Some.rest.now c.loop-i.i _ inv.run c.loop-i-test.true c.is_digit.ensures c.if-not-is_digit.true in
    rw (← rest_is _ _ c.in-Some.ensures.lookup.0.2) (run_read _ _ _ inv.value _ _ inv.run inv.few all)

pub returns-then-i-most : goal.returns-then-i-most
returns-then-i-most c =
    let inv = c.loop-i.invariant in
    let digit = sym c.is_digit.ensures ∙ c.if-not-is_digit.false in
    rw (← rest_is _ _ c.in-Some.ensures.lookup.0.2) (run_long _ _ _ inv.value _ _ inv.run c.loop-i-test.true c.if-i-most.true digit)

pub loop-i-preserved : goal.loop-i-preserved
loop-i-preserved c =
    let inv = c.loop-i.invariant in
    let digit = sym c.is_digit.ensures ∙ c.if-not-is_digit.false in
    rw c.from.ensures (record {
      few = omega arith;
      run = runs.run_on is_digit c.in-Some.rest.now c.loop-i.i _ inv.run c.loop-i-test.true c.is_digit.ensures c.if-not-is_digit.false;
      value = more_is _ _ _ inv.value c.loop-i-test.true;
      small = more_lt _ _ _ inv.small digit;
    })

pub returns : goal.returns
returns c =
    let inv = c.loop-i.invariant in
    let all = runs.run_end is_digit c.in-Some.rest.now c.loop-i.i _ inv.run c.loop-i-test.false in
    let end : c.loop-i.i ≡ length c.in-Some.rest.now = omega arith in
    rw (← rest_is _ _ c.in-Some.ensures.lookup.0.2, ← end) (run_read _ _ _ inv.value _ _ inv.run inv.few all)
