-- The numbers of the part stand between those of the codes and those of the spans.
use mathlib.Core.Path.{◌≡◌, refl}
use mathlib.Core.List.{[], ◌∷◌}
use Prim.Native.Nat.{ℕ}
use lib.ListN.{get_or}
use Rattle.std.specs.Prelude.{Option, Some, None}
use Rattle.sheet.specs.declared.Part.{Part}
use Rattle.sheet.specs.declared.Span.{Span}
use Rattle.numbers.specs.Numbers.{part_numbers, numbers_of_none, numbers_of_part, with_parts}
use Rattle.numbers.proofs.to_numbers.cap_numbers.Goals as goal

abbrev nth : Option Part → ℕ → ℕ
nth p i = get_or (part_numbers p) i 0

numbers_are :
    (m t c : ℕ) (sender name : Span) (p : Option Part)
    → 1 ∷ m ∷ t ∷ c ∷ nth p 0 ∷ nth p 1 ∷ nth p 2 ∷ nth p 3 ∷ nth p 4 ∷ nth p 5 ∷ nth p 6 ∷ sender.start ∷ sender.len ∷ name.start ∷ name.len ∷ []
    ≡ with_parts m t c sender name p
unfolding numbers_of_none numbers_of_part
numbers_are m t c sender name None = refl
numbers_are m t c sender name (Some p) = refl

pub returns : goal.returns
returns c = rw (c.number.ensures, c.number-2.ensures, c.number-3.ensures, c.part_numbers.ensures) (numbers_are _ _ _ _ _ _)
