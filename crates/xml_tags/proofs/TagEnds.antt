-- Where tags end: what a turn of the loop over one says.
use mathlib.Core.Path.{◌≡◌}
use mathlib.Core.Bool.{true, false, ◌&&◌}
use mathlib.Core.List.{List}
use Prim.Native.Nat.{ℕ, ◌+◌, ◌≤◌, ◌<◌}
use Prim.Native.Char.{code}
use lib.Dec.{eqb}
use lib.ListN.{length, get_or, drop, drop_of_length-le}
use Rattle.std.specs.Prelude.{Option, Some, None}
use Rattle.text.proofs.Runs.{drop_next}
use Rattle.xml_tags.specs.Tags.{quote_after, is_outside, tag_end}

-- at i, with q the quote that is open there, the tag's end r is still ahead, or reached
module _ (s : List ℕ) (q : Option ℕ) (i : ℕ) (r : Option ℕ) (v : tag_end q i (drop i s) ≡ r) where
  -- p is the quote after the byte
  pub tag_on :
      (p : Option ℕ) → i < length s → is_outside q && eqb (get_or s i 0) (code ">") ≡ false → p ≡ quote_after q (get_or s i 0)
      → tag_end p (i + 1) (drop (i + 1) s) ≡ r
  unfolding tag_end
  tag_on p h e f = let n = drop_next s i h in rw f (rw (n, e) at v)

  pub tag_stop : i < length s → is_outside q && eqb (get_or s i 0) (code ">") ≡ true → Some i ≡ r
  unfolding tag_end
  tag_stop h e = let n = drop_next s i h in rw (n, e) at v

  pub tag_none : length s ≤ i → None ≡ r
  unfolding tag_end
  tag_none h = rw (drop_of_length-le s h) at v
