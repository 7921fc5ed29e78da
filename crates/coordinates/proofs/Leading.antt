-- A byte at an offset of a text.
use mathlib.Core.Path.{◌≡◌, sym, ◌∙◌}
use mathlib.Core.Bool.{true, false, false≢true}
use mathlib.Core.List.{List}
use Prim.Native.Nat.{ℕ, ◌≤◌, ◌<◌}
use borrow.Author.Tests.{ltb-true, ltb-false}
use lib.Dec.{eqb, ltb}
use lib.ListN.{length, get_or, drop, drop_of_length-le}
use lib.Seq.{drop-cons}
use Rattle.text.specs.Logic.{by_test}
use Rattle.coordinates.specs.Decimal.{leads}

module _ (s : List ℕ) (i b : ℕ) where
  pub leads_at : (c : ℕ) → i < length s → c ≡ get_or s i 0 → leads b (drop i s) ≡ eqb c b
  unfolding leads
  leads_at c h e = rw (drop-cons s i 0 h, e)

  pub leads_none : length s ≤ i → leads b (drop i s) ≡ false
  unfolding leads
  leads_none h = rw (drop_of_length-le s h)

  -- where a byte leads the rest, the offset is within the text
  pub leads_in : leads b (drop i s) ≡ true → i < length s
  leads_in e =
      by_test (ltb i (length s))
      (λ t. ltb-true i (length s) t)
      (λ t. absurd (false≢true (sym (leads_none (ltb-false i (length s) t)) ∙ e)))
