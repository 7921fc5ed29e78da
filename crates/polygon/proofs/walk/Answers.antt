use Rattle.std.proofs.Common.{rules, arith, sym, ap, ◌∙◌, ◌≡◌, refl, Some, None, Ok, Err}
use Rattle.std.specs.Result.{result_ok}
use Rattle.polygon.specs.Next.{Next, not_pair}
use Rattle.polygon.proofs.Rings.{walks_next, walks_end, walks_fault, whole_next, whole_none, whole_fault}
use Rattle.polygon.proofs.Tokens.{next_further, next_within}
use Rattle.polygon.proofs.walk.Goals.{in_default-via-in-Ok+in_default, in_default-via-in_default}
use Rattle.polygon.proofs.walk.Goals as goal

-- what `next_pair` answered, from what `ok` made of it
fault : (r : Next) → result_ok r ≡ None → r ≡ not_pair
fault (Ok x) e = cc
fault (Err n) e = refl

given : (r : Next) {x : _} → result_ok r ≡ Some x → r ≡ Ok x
given (Ok x) e = cc
given (Err n) e = cc

pub returns-in_default : goal.returns-in_default
returns-in_default g c h s = elim c.in_default.branch [
  | in_default-via-in-Ok+in_default w ↦ whole_none h _ _ (search rules)
  | in_default-via-in_default w ↦ whole_fault h _ _ (sym c.next_pair.ensures ∙ w.in_default.is)
]

pub loop-step-init : goal.loop-step-init
loop-step-init g c =
    let n = sym c.next_pair.ensures ∙ c.in-Ok-Some.is ∙ ap Ok c.in-Ok-Some.field-0-is in
    record { few = next_further _ _ _ _ n; within = next_within _ _ _ _ n; same = λ h s. whole_next h _ _ _ _ n }

pub returns-in_err-vertex : goal.returns-in_err-vertex
returns-in_err-vertex g c h s =
    let n = sym c.next_pair-in-loop-step.ensures ∙ fault _ (sym c.ok.ensures.value ∙ c.in_err-vertex.was) in
    rw c.from_residual.ensures (walks_fault h _ _ _ _ _ _ _ (c.loop-step.invariant.same h s) n)

pub loop-step-smaller : goal.loop-step-smaller
loop-step-smaller g c =
    let n = sym c.next_pair-in-loop-step.ensures ∙ given _ (sym c.ok.ensures.value ∙ c.in_ok-vertex.was) ∙ ap Ok c.in-Some.is in
    omega (arith, next_further _ _ _ _ n, next_within _ _ _ _ n)

pub loop-step-preserved : goal.loop-step-preserved
loop-step-preserved g c =
    let n = sym c.next_pair-in-loop-step.ensures ∙ given _ (sym c.ok.ensures.value ∙ c.in_ok-vertex.was) ∙ ap Ok c.in-Some.is in
    record {
      few = omega (arith, next_further _ _ _ _ n);
      within = next_within _ _ _ _ n;
      same = λ h s. walks_next h _ _ _ _ _ _ _ (c.loop-step.invariant.same h s) _ _ n (s _ _ _ _ c.step-sum.ensures);
    }

pub returns-then-is_closed : goal.returns-then-is_closed
returns-then-is_closed g c h s =
    let n = sym c.next_pair-in-loop-step.ensures ∙ given _ (sym c.ok.ensures.value ∙ c.in_ok-vertex.was) ∙ ap Ok c.in_default-2.is in
    rw c.if-is_closed.true at (walks_end h _ _ _ _ _ _ _ (c.loop-step.invariant.same h s) n c.is_closed.ensures)

pub returns : goal.returns
returns g c h s =
    let n = sym c.next_pair-in-loop-step.ensures ∙ given _ (sym c.ok.ensures.value ∙ c.in_ok-vertex.was) ∙ ap Ok c.in_default-2.is in
    rw c.if-is_closed.false at (walks_end h _ _ _ _ _ _ _ (c.loop-step.invariant.same h s) n c.is_closed.ensures)
