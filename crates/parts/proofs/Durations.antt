-- How long it is between two instants in range, as the code takes it; the start of a part is in range.
use mathlib.Core.Path.{◌≡◌, refl, ap, subst}
use mathlib.Core.Bool.{Bool, true, false, ◌&&◌}
use mathlib.Core.List.{List}
use Prim.Native.Nat.{ℕ, ◌<◌}
use native.Mathlib.Omega.{arith}
use borrow.Author.Tests.{leb-true}
use lib.Dec.{T, leb}
use lib.IntN.{ℤ, pos, negsuc, nat_abs, ◌-ℤ◌}
use lib.Signed.{mag, non_neg, le_z}
use mir.Syntax.{w32, w64}
use mir.Val.{Fits, SFits, of_z}
use Rattle.text.specs.Answers.{Answer, gives, refuses, IfGiven}
use Rattle.text.specs.Logic.{and_right, clash}
use Rattle.integers.specs.Bits.{read, read_given, read_small}
use Rattle.integers.specs.Reads.{Reads, reads_abs, sub_fits, sub_reads}
use Rattle.std.specs.Prelude.{Option, Some, None}
use Rattle.std.specs.Option.{option_or}
use Rattle.time.specs.Time.{time_of, time_answer}
use Rattle.time.specs.Range.{InstantRange}
use Rattle.time.proofs.Range.{range_abs, range_apart, time_range}
use Rattle.parts.specs.Sheets.{between, start_of, lasts_from}

-- ---- the difference of two instants in range

-- the code's test of a difference
abbrev tested : ℤ → Bool
tested z = le_z (pos 1) z && le_z z (pos 31_536_000)

between_tested : (z : ℤ) → between z ≡ tested z
between_tested (pos n) = refl
between_tested (negsuc n) = refl

lasting_fits : (z : ℤ) → tested z ≡ true → T (non_neg z) × Fits w32 (nat_abs z)
lasting_fits (pos n) e = (tt, record { fits = omega (arith, leb-true n 31_536_000 (and_right (leb 1 n) (leb n 31_536_000) e)) })
lasting_fits (negsuc n) e = clash (cc)

module _ (start end : ℤ) (range : InstantRange start × InstantRange end) where
  start_reads : Reads (of_z w64 start) start
  start_reads = reads_abs start (omega (arith, range_abs start range.0))

  end_reads : Reads (of_z w64 end) end
  end_reads = reads_abs end (omega (arith, range_abs end range.1))

  -- it fits
  pub far_fits : SFits w64 (read w64 end -ℤ read w64 start)
  far_fits = sub_fits end_reads start_reads (omega (arith, range_apart end start range.1 range.0))

  -- and is that of the instants
  far_is : read w64 (read w64 end -ℤ read w64 start) ≡ end -ℤ start
  far_is = (sub_reads end_reads start_reads (omega (arith, range_apart end start range.1 range.0))).is

  module _ (e : tested (read w64 (read w64 end -ℤ read w64 start)) ≡ true) where
    -- a lasting time fits 32 bits
    pub far_cast : T (non_neg (read w64 (read w64 end -ℤ read w64 start))) × Fits w32 (nat_abs (read w64 (read w64 end -ℤ read w64 start)))
    far_cast = lasting_fits (read w64 (read w64 end -ℤ read w64 start)) e

    pub far_stated : gives (Some (nat_abs (read w64 (read w64 end -ℤ read w64 start)))) ≡ lasts_from (gives start) (gives end)
    far_stated = rw (← far_is) (rw (between_tested (read w64 (read w64 end -ℤ read w64 start)), e) refl)

  pub far_out : tested (read w64 (read w64 end -ℤ read w64 start)) ≡ false → refuses 7 0 ≡ lasts_from (gives start) (gives end)
  far_out e = rw (← far_is) (rw (between_tested (read w64 (read w64 end -ℤ read w64 start)), e) refl)

-- ---- instants that a match gave

-- an instant that is handed on
pub start_given :
    (effective sent : Option ℤ) (i : ℤ) → effective ≡ Some i → mag i < 9_223_372_036_854_775_808
    → gives (read w64 i) ≡ start_of (time_answer effective) (time_answer sent)
start_given effective sent i e h = rw e (ap gives (read_given w64 i h))

module _ (t : Option ℤ) (i : ℤ) (is : t ≡ Some i) (range : IfGiven InstantRange (time_answer t)) where
  instant_range : InstantRange i
  instant_range = subst (λ (r : Option ℤ). IfGiven InstantRange (time_answer r)) is range

  instant_read : read w64 i ≡ i
  instant_read = read_small i (omega (arith, range_abs i instant_range))

  pub range_read : InstantRange (read w64 i)
  range_read = rw instant_read instant_range

pub lasts_given :
    (start expires : Option ℤ) (i e : ℤ) → start ≡ Some i → expires ≡ Some e
    → IfGiven InstantRange (time_answer start) × IfGiven InstantRange (time_answer expires)
    → lasts_from (gives (read w64 i)) (gives (read w64 e)) ≡ lasts_from (time_answer start) (time_answer expires)
lasts_given start expires i e p q range =
    rw (instant_read start i p range.0, instant_read expires e q range.1, p, q) refl

pub start_or : (effective sent : Option ℤ) → time_answer (option_or effective sent) ≡ start_of (time_answer effective) (time_answer sent)
start_or (Some i) sent = refl
start_or None sent = refl

-- the start of a part, by its two texts
pub start_range : (effective sent : List ℕ) → IfGiven InstantRange (start_of (time_of effective) (time_of sent))
start_range effective sent = go (time_of effective) (time_range effective)
  where
    go : (r : Answer ℤ) → IfGiven InstantRange r → IfGiven InstantRange (start_of r (time_of sent))
    go (gives i) h = h
    go (refuses n p) h = time_range sent
