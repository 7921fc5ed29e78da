-- Where the answers lie: inside the document, and after the offset from which they were looked for.
use mathlib.Core.Path.{◌≡◌, subst}
use mathlib.Core.Bool.{◌&&◌, ◌||◌}
use mathlib.Core.List.{List}
use Prim.Native.Nat.{ℕ, ◌+◌, ◌-◌, ◌≤◌, ◌<◌}
use Prim.Native.Char.{code}
use native.Mathlib.Omega.{arith}
use borrow.Author.Tests.{leb-true}
use lib.Dec.{leb, ltb}
use lib.ListN.{length, drop}
use Rattle.text.specs.Ascii.{ascii}
use Rattle.text.specs.Bytes.{spaces, leading}
use Rattle.text.specs.Parts.{starts_with}
use Rattle.text.specs.Logic.{by_test, cond_cases, and_left, first_arm, clash}
use Rattle.text.proofs.Parts.{starts_at_le}
use Rattle.xml_tags.specs.declared.Tail.{Tail}
use Rattle.xml_tags.specs.declared.Tail.TheVariants as tail
use Rattle.std.specs.Prelude.{Option, Some, None, Result, Ok, Err}
use Rattle.xml_tags.specs.declared.Binding.{Binding}
use Rattle.xml_tags.specs.declared.NameSpaceError.{NameSpaceError}
use Rattle.xml_tags.specs.declared.NameSpaceError.TheVariants as space
use Rattle.xml_tags.specs.Bytes.{is_letter}
use Rattle.xml_tags.specs.Tags.{tail}
use Rattle.xml_tags.specs.Attributes.{quoted, quoted_length, opened, bound, value, equals, prefixed, declared, name_space}

-- ---- tails

-- what ends a tag lies after an offset and inside the document
abbrev TailAhead : List ℕ → ℕ → Option Tail → Type 0
TailAhead l at (Some (tail.Open next)) = (at < next) × (next ≤ length l)
TailAhead l at (Some (tail.Empty next)) = (at < next) × (next ≤ length l)
TailAhead l at None = Prim.Unit

tail_ahead : (l : List ℕ) (at : ℕ) → TailAhead l at (tail l at)
unfolding tail
tail_ahead l at =
    let i = at + spaces (drop at l) in
    cond_cases (TailAhead l at) (starts_with (ascii ">") (drop i l)) _ _
    (λ e. omega (arith, starts_at_le (ascii ">") l i (omega arith) e)) λ e.
    cond_cases (TailAhead l at) (starts_with (ascii "/>") (drop i l)) _ _
    (λ f. omega (arith, starts_at_le (ascii "/>") l i (omega arith) f)) (λ f. tt)

pub tail_open : (l : List ℕ) (at next : ℕ) → tail l at ≡ Some (tail.Open next) → (at < next) × (next ≤ length l)
tail_open l at next e = subst (TailAhead l at) e (tail_ahead l at)

pub tail_empty : (l : List ℕ) (at next : ℕ) → tail l at ≡ Some (tail.Empty next) → (at < next) × (next ≤ length l)
tail_empty l at next e = subst (TailAhead l at) e (tail_ahead l at)

-- ---- the name space attribute: a tag that binds a prefix ends where its tail does

unended : {A : Type 0} (x : A) → Err space.Fault ≡ Ok x → ⊥
unended x e = clash (cc)

module _ (l : List ℕ) where
  opened_open : (next : ℕ) (t : Option Tail) → opened t ≡ Ok next → t ≡ Some (tail.Open next)
  opened_open next (Some (tail.Open n)) e = cc
  opened_open next (Some (tail.Empty n)) e = clash (cc)
  opened_open next None e = clash (cc)

  value_ahead : (at next : ℕ) → value l at ≡ Ok next → (at < next) × (next ≤ length l)
  unfolding value
  value_ahead at next e =
      let t = starts_with (quoted (code "\"")) (drop at l) || starts_with (quoted (code "'")) (drop at l) in
      omega (arith, tail_open l (at + quoted_length) next (opened_open next (tail l (at + quoted_length)) (first_arm _ _ _ t e (unended next)).1))

  equals_ahead : (at next : ℕ) → equals l at ≡ Ok next → (at < next) × (next ≤ length l)
  unfolding equals
  equals_ahead at next e =
      let i = at + spaces (drop at l) in
      omega (arith, value_ahead (i + 1 + spaces (drop (i + 1) l)) next (first_arm _ _ _ (starts_with (ascii "=") (drop i l)) e (unended next)).1)

  -- the binding ends where the attribute's value leads
  bound_next : (p u : ℕ) (b : Binding) (r : Result ℕ NameSpaceError) → bound p u r ≡ Ok b → r ≡ Ok b.next
  bound_next p u b (Ok n) e = cc
  bound_next p u b (Err x) e = clash (cc)

  prefixed_ahead : (p u : ℕ) (b : Binding) → prefixed l p u ≡ Ok b → (p < b.next) × (b.next ≤ length l)
  unfolding prefixed
  prefixed_ahead p u b e =
      let (t, q) = first_arm _ _ _ (leb 1 (u - p) && leb (u - p) 16) e (unended b) in
      omega (arith, leb-true 1 (u - p) (and_left (leb 1 (u - p)) (leb (u - p) 16) t), equals_ahead u b.next (bound_next p u b (equals l u) q))

  declared_ahead : (at : ℕ) (b : Binding) → declared l at ≡ Ok b → (at < b.next) × (b.next ≤ length l)
  unfolding declared
  declared_ahead at b e =
      by_test (starts_with (ascii ":") (drop at l))
      (λ t. omega (arith, prefixed_ahead (at + 1) (at + 1 + leading is_letter (drop (at + 1) l)) b (rw t at e)))
      (λ t. equals_ahead at b.next (bound_next at at b (equals l at) (rw t at e)))

  pub name_space_within : (n : ℕ) (b : Binding) → name_space l n ≡ Ok b → (n < b.next) × (b.next ≤ length l)
  unfolding name_space
  name_space_within n b e =
      let i = n + spaces (drop n l) in
      omega (arith, declared_ahead (i + 5) b (first_arm _ _ _ (ltb n i && starts_with (ascii "xmlns") (drop i l)) e (unended b)).1)
