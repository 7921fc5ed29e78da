-- A tag ends where it ends from after its name on, and from after its "/" on.
use mathlib.Core.Path.{◌≡◌, refl, ap, ◌∙◌}
use mathlib.Core.Bool.{Bool, true, false, false≢true}
use mathlib.Core.List.{List, [], ◌∷◌}
use Prim.Native.Nat.{ℕ, ◌+◌}
use Prim.Native.Char.{code}
use lib.Dec.{eqb}
use lib.ListN.{drop}
use lib.Seq.{drop-drop}
use Rattle.std.specs.Prelude.{None}
use Rattle.text.specs.Ascii.{ascii}
use Rattle.text.specs.Parts.{starts_with}
use Rattle.text.specs.Logic.{and_left}
use Rattle.xml_tags.specs.Bytes.{is_tag_byte}
use Rattle.xml_tags.specs.Tags.{tag_end, name_end}
use Rattle.text.proofs.Runs.{other_byte, over_run}

-- a byte that passes a test which ">" and both quotes fail neither ends a tag nor opens a quote
step :
    (p : ℕ → Bool) → p (code ">") ≡ false → p (code "\"") ≡ false → p (code "'") ≡ false
    → (i b : ℕ) (m : List ℕ) → p b ≡ true → tag_end None i (b ∷ m) ≡ tag_end None (i + 1) m
unfolding tag_end
step p x y z i b m e = rw (other_byte p b (code ">") x e, other_byte p b (code "\"") y e, other_byte p b (code "'") z e)

pub tag_end_name : (l : List ℕ) (at : ℕ) → tag_end None at (drop at l) ≡ tag_end None (name_end l at) (drop (name_end l at) l)
tag_end_name l at = over_run is_tag_byte (tag_end None) (step is_tag_byte refl refl refl) l at

slash : (i : ℕ) (m : List ℕ) → starts_with (ascii "/") m ≡ true → tag_end None i m ≡ tag_end None (i + 1) (drop 1 m)
unfolding starts_with
slash i [] e = absurd (false≢true e)
slash i (b ∷ m) e = step (λ (k : ℕ). eqb k (code "/")) refl refl refl i b m (and_left (eqb b (code "/")) true e)

pub tag_end_slash : (l : List ℕ) (at : ℕ) → starts_with (ascii "/") (drop at l) ≡ true → tag_end None at (drop at l) ≡ tag_end None (at + 1) (drop (at + 1) l)
tag_end_slash l at e = slash at (drop at l) e ∙ ap (tag_end None (at + 1)) (drop-drop 1 at l)
