-- What a tag name may hold: what one computed test over bytes says of each of them, for any masks that pass it.
use mathlib.Core.Path.{◌≡◌, sym, ap, ◌∙◌}
use mathlib.Core.Bool.{Bool, true, false, cond, not}
use Prim.Native.Nat.{ℕ, ◌+◌, ◌/◌, ◌^◌, ◌<◌}
use lib.Bits.{bit_and}
use lib.Dec.{T, eqb}
use borrow.Author.Tests.{not-true}
use Rattle.text.specs.Logic.{below, below_at}
use Rattle.xml_tags.specs.Bytes.{is_tag_byte}

-- a bit of a mask is set
abbrev is_set : ℕ → ℕ → Bool
is_set mask i = eqb (bit_and (mask / 2 ^ i) 1) 1

-- two tests agree
abbrev agree : Bool → Bool → Bool
agree s t = cond s t (not t)

agree_same : (s t : Bool) → agree s t ≡ true → s ≡ t
agree_same true t e = sym e
agree_same false t e = sym (not-true t e)

-- r is right for every byte that passes p
pub tag_all :
    (p : ℕ → Bool) (r : Bool) → T (below 256 (λ (k : ℕ). cond (p k) (agree r (is_tag_byte k)) true))
    → (b : ℕ) → b < 256 → p b ≡ true → r ≡ is_tag_byte b
tag_all p r t b h e = agree_same r (is_tag_byte b) (rw e at (below_at 256 (λ (k : ℕ). cond (p k) (agree r (is_tag_byte k)) true) t b h))

-- a mask is right for the 64 bytes from first on
pub tag_bit :
    (mask first : ℕ) → T (below 64 (λ (k : ℕ). agree (is_set mask k) (is_tag_byte (first + k))))
    → (i b : ℕ) → i < 64 → first + i ≡ b → is_set mask i ≡ is_tag_byte b
tag_bit mask first t i b h e =
    agree_same _ _ (below_at 64 (λ (k : ℕ). agree (is_set mask k) (is_tag_byte (first + k))) t i h) ∙ ap is_tag_byte e
