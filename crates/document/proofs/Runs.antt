-- The document's definition unfolds step by step.
use mathlib.Core.Path.{◌≡◌, refl, ap}
use mathlib.Core.List.{List}
use Prim.Native.Nat.{ℕ, zero, suc, ◌-◌, ◌<◌}
use native.Mathlib.Omega.{arith}
use lib.Dec.{ltb}
use lib.ListN.{length}
use Rattle.std.specs.Prelude.{Result, Ok, Err}
use Rattle.text.specs.Logic.{cond_cases}
use Rattle.xml.specs.declared.PrologError.{PrologError}
use Rattle.xml.specs.Opening as opening
use Rattle.xml.proofs.Bounds.{prolog_fault}
use Rattle.document.specs.declared.Mode.{Mode}
use Rattle.document.specs.declared.Event.TheVariants.{Silent}
use Rattle.document.specs.Steps.{Step, Next, Done, Refused}
use Rattle.document.specs.Elements.{given}
use Rattle.document.specs.Constructs.{step_of}
use Rattle.document.specs.Documents.{elements_of, begin, prolog_step, max_length, first_step, after, run, read_from}
use Rattle.document.proofs.Events.{Refusal, onward}

-- what holds of a refusal in the document and of a step to any offset holds of the first step
pub first_holds :
    (l : List ℕ) (P : Step → Type 0) → ((n p : ℕ) → Refusal l n p → P (Refused n p)) → ((at : ℕ) → P (Next (begin at) Silent)) → P (first_step l)
unfolding first_step
first_holds l P stop on =
    cond_cases P (ltb max_length (length l)) _ _ (λ e. stop 14 0 (omega arith, tt)) (λ e. go (opening.prolog l) refl)
  where
    go : (r : Result ℕ PrologError) → opening.prolog l ≡ r → P (prolog_step r)
    go (Ok at) q = on at
    go (Err e) q = stop 15 e.offset (prolog_fault l e q, tt)

-- two numbers of constructs above the number of bytes that are left are all one
same_run : (l : List ℕ) (f g : ℕ) (m : Mode) → length l - m.at < f → length l - m.at < g → run f l m ≡ run g l m
unfolding run
same_run l zero g m h k = absurd (omega arith)
same_run l (suc f) zero m h k = absurd (omega arith)
same_run l (suc f) (suc g) m h k = go (step_of l m) refl (same_run l f g)
  where
    go :
        (r : Step) → step_of l m ≡ r
        → ((m' : Mode) → length l - m'.at < f → length l - m'.at < g → run f l m' ≡ run g l m')
        → after l (run f l) r ≡ after l (run g l) r
    go (Next m' e) p rest =
        let o = onward l m m' e p in
        ap (given (elements_of l e)) (rest m' (omega (arith, o.later, o.within)) (omega (arith, o.later, o.within)))
    go Done p rest = refl
    go (Refused n q) p rest = refl

-- reading is a step and then the rest
pub read_step : (l : List ℕ) (m : Mode) → read_from l m ≡ after l (read_from l) (step_of l m)
unfolding run
read_step l m = go (step_of l m) refl
  where
    go : (r : Step) → step_of l m ≡ r → after l (run (length l) l) r ≡ after l (read_from l) r
    go (Next m' e) p =
        let o = onward l m m' e p in
        let h : length l - m'.at < length l = omega (arith, o.later, o.within) in
        ap (given (elements_of l e)) (same_run l (length l) (suc (length l)) m' h (omega arith))
    go Done p = refl
    go (Refused n q) p = refl
