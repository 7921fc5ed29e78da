-- The search and the decision come to `table_outcome`, over entries of any number.
use mathlib.Core.Path.{◌≡◌, refl, sym, ◌∙◌, ap}
use mathlib.Core.Bool.{Bool, true, false, cond}
use mathlib.Core.List.{List}
use Prim.Native.Nat.{ℕ, ◌<◌}
use borrow.Author.Tests.{ltb-true}
use lib.Dec.{ltb}
use lib.ListN.{length, set}
use Rattle.std.specs.Prelude.{Result, Ok, Err}
use Rattle.text.specs.Logic.{clash}
use Rattle.text.specs.Answers.{gives, refuses, answer_and_then}
use Rattle.packet.specs.Packet.{packet_of}
use Rattle.events.specs.declared.Entry.{Entry}
use Rattle.events.specs.declared.New.{New}
use Rattle.events.specs.declared.Refusal.{Refusal}
use Rattle.events.specs.declared.Refusal.TheVariants.{NotAbove, Full}
use Rattle.events.specs.Table.{Outcome, outcome, again, anew, table_outcome, checked, answered, received, refusal_number}
use Rattle.events.specs.Steps.{checked_answer, decided}
use Rattle.events.proofs.Search.{decided_is}

-- an outcome as its answer and its entries
pub answer_and_entries : {o q : Outcome} → o ≡ q → (o.answer ≡ q.answer) × (o.entries ≡ q.entries)
answer_and_entries e = (ap (λ (o : Outcome). o.answer) e, ap (λ (o : Outcome). o.entries) e)

-- a decision carried out
abbrev pub carried_out : Result (ℕ × Entry) Refusal → List Entry → Outcome
carried_out (Ok p) es = outcome (gives tt) (set es p.0 p.1)
carried_out (Err r) es = outcome (refuses (refusal_number r) 0) es

module _ (es : List Entry) (new : New) where
  carried_cases : (k j : ℕ) (x y : Entry) (t u w : Bool)
      → carried_out (cond t (cond u (Ok (k, x)) (Err NotAbove)) (cond w (Ok (j, y)) (Err Full))) es
      ≡ cond t (cond u (outcome (gives tt) (set es k x)) (outcome (refuses 10 0) es)) (cond w (outcome (gives tt) (set es j y)) (outcome (refuses 11 0) es))
  carried_cases k j x y true true w = refl
  carried_cases k j x y true false w = refl
  carried_cases k j x y false u true = refl
  carried_cases k j x y false u false = refl

  pub carried_is : carried_out (decided new es) es ≡ table_outcome new es
  unfolding table_outcome again anew
  carried_is = rw (decided_is new es) (carried_cases _ _ _ _ _ _ _)

  pub stored_is : (i : ℕ) (x : Entry) → decided new es ≡ Ok (i, x) → outcome (gives tt) (set es i x) ≡ table_outcome new es
  stored_is i x e = sym (ap (λ (r : Result (ℕ × Entry) Refusal). carried_out r es) e) ∙ carried_is

  pub refused_is : (r : Refusal) → decided new es ≡ Err r → outcome (refuses (refusal_number r) 0) es ≡ table_outcome new es
  refused_is r e = sym (ap (λ (d : Result (ℕ × Entry) Refusal). carried_out d es) e) ∙ carried_is

  -- where a decision stores
  index_in_it : Result (ℕ × Entry) Refusal → ℕ
  index_in_it (Ok p) = p.0
  index_in_it (Err r) = 0

  -- it is within the entries
  pub store_within : (i : ℕ) (x : Entry) → decided new es ≡ Ok (i, x) → i < length es
  unfolding index_in_it
  store_within i x = rw (decided_is new es) (cases _ _ _ _ (ltb _ (length es)) _ (ltb _ (length es)) refl refl)
    where
      cases : (k j : ℕ) (y z : Entry) (t u w : Bool) → ltb k (length es) ≡ t → ltb j (length es) ≡ w
          → ◌≡◌ {A = Result (ℕ × Entry) Refusal} (cond t (cond u (Ok (k, y)) (Err NotAbove)) (cond w (Ok (j, z)) (Err Full))) (Ok (i, x)) → i < length es
      cases k j y z true true w e f g = let q : k ≡ i = ap index_in_it g in rw (← q) (ltb-true k (length es) e)
      cases k j y z true false w e f g = clash (cc)
      cases k j y z false u true e f g = let q : j ≡ i = ap index_in_it g in rw (← q) (ltb-true j (length es) f)
      cases k j y z false u false e f g = clash (cc)

-- what is received, by what was checked
module _ (es : List Entry) (p keys : List ℕ) (verdict : Bool) (clock : ℕ) (c : Result New Refusal)
    (e : checked_answer c ≡ answer_and_then (packet_of p) (checked keys verdict clock)) where
  pub received_is : answered es (checked_answer c) ≡ received es p keys verdict clock
  unfolding received
  received_is = ap (answered es) e
