-- The one loop over a document: a step whose text keeps to its rule leads on, and an event adds one element at most and takes a byte.
use mathlib.Core.Path.{◌≡◌}
use mathlib.Core.List.{List}
use Prim.Native.Nat.{ℕ, ◌+◌, ◌<◌, ◌≤◌}
use native.Mathlib.Omega.{arith}
use lib.Dec.{eqb}
use Rattle.std.specs.Prelude.{Option, Some, Ok}
use Rattle.text.specs.Parts.{part}
use Rattle.text.specs.Answers.{gives}
use Rattle.text.specs.Logic.{by_test, clash}
use Rattle.document.specs.declared.Mode.{Mode}
use Rattle.document.specs.declared.Event.{Event}
use Rattle.document.specs.declared.Event.TheVariants.{Silent, Opened, Text, Closed}
use Rattle.document.specs.Steps.{Next, step_answer}
use Rattle.document.specs.Elements.{Element, opened, text, closed, fold}
use Rattle.document.specs.Documents.{elements_of, first_step}
use Rattle.document.specs.Tested.{event_rule, tested}
use Rattle.document.proofs.Loops.{left, first_left}
use Rattle.parts.specs.Reading.{event_answer, most}

-- ---- a step and its event's text

module _ (l : List ℕ) (m : Mode) (e : Event) where
  tested_on : gives tt ≡ event_answer l e → tested l (Next m e) ≡ Next m e
  tested_on h = by_test (eqb (event_rule l e) 0) (λ q. rw q) (λ q. clash (let k = rw q at h in cc))

  -- the step that the code holds leads on
  pub step_on : (o : Option (Mode × Event)) → o ≡ Some (m, e) → gives tt ≡ event_answer l e → tested l (step_answer (Ok o)) ≡ Next m e
  step_on o q h = rw q (tested_on h)

-- ---- what holds of facts that so many events gathered

-- where so many bytes are left
abbrev pub Bounded : {F : Type 0} → (ℕ → F → Type 0) → ℕ → F → Type 0
Bounded Within k f = (n : ℕ) × (Within n f × (n + k ≤ most))

module _ {F : Type 0} (note : ℕ → F → Element → F) (Within : ℕ → F → Type 0)
    (more : (n k : ℕ) (f : F) (x : Element) → Within n f → Within (n + 1) (note k f x))
    (wider : (n m : ℕ) (f : F) → n ≤ m → Within n f → Within m f) where
  event_more : (n k : ℕ) (f : F) (l : List ℕ) (e : Event) → Within n f → Within (n + 1) (fold (note k) f (elements_of l e))
  unfolding fold
  event_more n k f l Silent h = wider n (n + 1) f (omega arith) h
  event_more n k f l (Opened c q) h = more n k f (opened c q) h
  event_more n k f l (Text c from until) h = more n k f (text c from (part l from until)) h
  event_more n k f l (Closed c) h = more n k f (closed c) h

  pub bounded_first : (l : List ℕ) (f : F) → Within 0 f → Bounded Within (left l (first_step l)) f
  bounded_first l f h = (0, (h, omega (arith, first_left l)))

  pub bounded_next :
      (k : ℕ) (l : List ℕ) (e : Event) (i j : ℕ) (f g : F)
      → Bounded Within i f → j < i → g ≡ fold (note k) f (elements_of l e) → Bounded Within j g
  bounded_next k l e i j f g b h q = (b.0 + 1, (rw q (event_more b.0 k f l e b.1.0), omega (arith, h, b.1.1)))

  pub bounded_most : (k : ℕ) (f : F) → Bounded Within k f → Within most f
  bounded_most k f b = wider b.0 most f (omega (arith, b.1.1)) b.1.0
