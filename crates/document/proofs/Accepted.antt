-- What holds of every document's verdict, from what holds of every step: one induction over its constructs.
use mathlib.Core.Path.{◌≡◌, refl, subst}
use mathlib.Core.List.{List, [], ◌∷◌, ◌++◌}
use Prim.Native.Nat.{ℕ, zero, suc, ◌≤◌}
use native.Mathlib.Omega.{arith}
use lib.ListN.{length}
use types.Run.{OneOf, hit}
use Rattle.text.specs.Answers.{Answer, gives, refuses}
use Rattle.document.specs.declared.Mode.{Mode}
use Rattle.document.specs.declared.Event.{Event}
use Rattle.document.specs.declared.Event.TheVariants.{Silent}
use Rattle.document.specs.Steps.{Step, Next, Done, Refused}
use Rattle.document.specs.Elements.{Element, given}
use Rattle.document.specs.Constructs.{step_of}
use Rattle.document.specs.Documents.{elements_of, begin, first_step, after, run, read_from, document_of}
use Rattle.document.proofs.Numbers.{document_numbers}
use Rattle.document.proofs.Events.{Refusal, refusal}
use Rattle.document.proofs.Runs.{first_holds}

-- something that holds where the document is done, and before each step if it holds after it
module _ (l : List ℕ) (Q : Mode → List Element → Type 0)
    (last : (m : Mode) → step_of l m ≡ Done → Q m [])
    (front : (m m' : Mode) (e : Event) (es : List Element) → step_of l m ≡ Next m' e → Q m' es → Q m (elements_of l e ++ es)) where
  -- of a verdict from a mode on: of its elements, or of a refusal
  abbrev VerdictHolds : Mode → Answer (List Element) → Type 0
  VerdictHolds m (gives es) = Q m es
  VerdictHolds m (refuses n p) = Refusal l n p

  given_holds : (m m' : Mode) (e : Event) (v : Answer (List Element)) → step_of l m ≡ Next m' e → VerdictHolds m' v → VerdictHolds m (given (elements_of l e) v)
  given_holds m m' e (gives es) p h = front m m' e es p h
  given_holds m m' e (refuses n q) p h = h

  run_holds : (n : ℕ) (m : Mode) → VerdictHolds m (run n l m)
  unfolding run
  run_holds zero m = (omega arith, tt)
  run_holds (suc n) m = go (step_of l m) refl (run_holds n)
    where
      go : (r : Step) → step_of l m ≡ r → ((m' : Mode) → VerdictHolds m' (run n l m')) → VerdictHolds m (after l (run n l) r)
      go (Next m' e) p rest = given_holds m m' e (run n l m') p (rest m')
      go Done p rest = last m p
      go (Refused a b) p rest = refusal l m a b p

  -- of the whole document, whose first construct may stand anywhere
  abbrev DocumentHolds : Answer (List Element) → Type 0
  DocumentHolds (gives es) = (at : ℕ) × ((first_step l ≡ Next (begin at) Silent) × Q (begin at) es)
  DocumentHolds (refuses n p) = Refusal l n p

  document_holds : DocumentHolds (document_of l)
  unfolding document_of
  document_holds =
      first_holds l (λ (r : Step). first_step l ≡ r → DocumentHolds (after l (read_from l) r)) (λ n p h q. h)
      (λ at q. go at q (read_from l (begin at)) (run_holds (suc (length l)) (begin at)))
      refl
    where
      go :
          (at : ℕ) → first_step l ≡ Next (begin at) Silent → (v : Answer (List Element)) → VerdictHolds (begin at) v → DocumentHolds (given [] v)
      go at q (gives es) h = (at, (q, h))
      go at q (refuses n p) h = h

  pub accepted_holds : (es : List Element) → document_of l ≡ gives es → (at : ℕ) × ((first_step l ≡ Next (begin at) Silent) × Q (begin at) es)
  accepted_holds es d = subst DocumentHolds d document_holds

document_refusal : (l : List ℕ) (n p : ℕ) → document_of l ≡ refuses n p → Refusal l n p
document_refusal l n p d =
    let All : Mode → List Element → Type 0 = λ m es. Prim.Unit in
    subst (DocumentHolds l All (λ m q. tt) (λ m m' e es q h. tt)) d (document_holds l All (λ m q. tt) (λ m m' e es q h. tt))

-- every refusal's offset lies in the document or at its length
pub offset_within : (l : List ℕ) (n p : ℕ) → document_of l ≡ refuses n p → p ≤ length l
offset_within l n p d = (document_refusal l n p d).0

-- its number is one of 14 to 19 and 22
pub refusal_numbers : (l : List ℕ) (n p : ℕ) → document_of l ≡ refuses n p → OneOf document_numbers n
refusal_numbers l n p d = hit document_numbers n (document_refusal l n p d).1

-- ---- every element

module _ (P : Element → Type 0) where
  abbrev pub Every : List Element → Type 0
  Every [] = Prim.Unit
  Every (x ∷ xs) = P x × Every xs

  every_append : (xs ys : List Element) → Every xs → Every ys → Every (xs ++ ys)
  every_append [] ys h k = k
  every_append (x ∷ xs) ys h k = (h.0, every_append xs ys h.1 k)

  -- what holds of the element of every step holds of every element of an accepted document
  pub accepted_every :
      (l : List ℕ) → ((m m' : Mode) (e : Event) → step_of l m ≡ Next m' e → Every (elements_of l e))
      → (es : List Element) → document_of l ≡ gives es → Every es
  accepted_every l each es q =
      (accepted_holds l (λ (m : Mode) (xs : List Element). Every xs) (λ m p. tt)
      (λ m m' e xs p h. every_append (elements_of l e) xs (each m m' e p) h)
      es q).1.1
