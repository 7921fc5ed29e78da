-- A text's number among texts is its index, counted from 1, or 0.
use mathlib.Core.Path.{◌≡◌, refl, sym, ap, ◌∙◌}
use mathlib.Core.Bool.{Bool}
use mathlib.Core.List.{List, [], ◌∷◌, map}
use Prim.Native.Nat.{ℕ, ◌+◌}
use Rattle.std.proofs.Common.{Option, Some, None, Bor}
use Rattle.std.specs.List.{position, position_from}
use Rattle.std.proofs.lemmas.Iterator.Adapters.{position_from-zero}
use Rattle.text.specs.Logic.{by_test, eql}
use Rattle.text.specs.Search.{find}

abbrev pub numbered : Option ℕ → ℕ
numbered (Some i) = i + 1
numbered None = 0

module _ (t : List ℕ) where
  abbrev pub is_text : Bor (List ℕ) → Bool
  is_text text = eql t text.now

  abbrev pub bytes : List (Bor (List ℕ)) → List (List ℕ)
  bytes texts = map (λ (text : Bor (List ℕ)). text.now) texts

  found_from : (texts : List (Bor (List ℕ))) (i : ℕ) → find (i + 1) t (bytes texts) ≡ numbered (position_from is_text i texts)
  unfolding find
  found_from [] i = refl
  found_from (x ∷ texts) i = by_test (eql t x.now) (λ e. rw e) (λ e. rw e (found_from texts (i + 1)))

  pub found : (texts : List (Bor (List ℕ))) → find 1 t (bytes texts) ≡ numbered (position is_text texts)
  found texts = found_from texts 0 ∙ ap numbered (sym (position_from-zero is_text texts))
