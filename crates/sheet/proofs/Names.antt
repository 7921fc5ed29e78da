-- Where "]]>" stands in a text, from an offset on: what each turn of the loop over the offsets needs.
use mathlib.Core.Path.{◌≡◌}
use mathlib.Core.Bool.{true, false}
use mathlib.Core.List.{List}
use Prim.Native.Nat.{ℕ, ◌+◌, ◌≤◌, ◌<◌}
use lib.ListN.{length, drop, drop_of_length-le}
use Rattle.text.specs.Ascii.{ascii}
use Rattle.text.specs.Parts.{starts_with}
use Rattle.text.proofs.Runs.{drop_next}
use Rattle.sheet.specs.Sheet.{holds_cdata_end}

module _ (s : List ℕ) (i : ℕ) where
  pub cdata_none : length s ≤ i → holds_cdata_end (drop i s) ≡ false
  unfolding holds_cdata_end
  cdata_none h = rw (drop_of_length-le s h)

  module _ (h : i < length s) where
    pub cdata_here : starts_with (ascii "]]>") (drop i s) ≡ true → holds_cdata_end (drop i s) ≡ true
    unfolding holds_cdata_end
    cdata_here e = rw (drop_next s i h, rw (drop_next s i h) at e)

    pub cdata_later : starts_with (ascii "]]>") (drop i s) ≡ false → holds_cdata_end (drop i s) ≡ holds_cdata_end (drop (i + 1) s)
    unfolding holds_cdata_end
    cdata_later e = rw (drop_next s i h, rw (drop_next s i h) at e)
