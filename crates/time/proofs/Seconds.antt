-- The seconds of a stamp: how many they are, and the signed arithmetic that makes its instant of them.
use mathlib.Core.Path.{◌≡◌, ap, ◌∙◌}
use mathlib.Core.Bool.{true, false}
use Prim.Native.Nat.{ℕ, ◌+◌, ◌*◌, ◌≤◌, ◌<◌}
use native.Mathlib.Omega.{arith}
use lib.IntN.{ℤ, pos, neg_ℤ, nat_abs, ◌-ℤ◌}
use lib.Signed.{mag}
use mir.Syntax.{w64}
use mir.Val.{SFits, to_z, of_z}
use Rattle.text.specs.Logic.{cond_cases}
use Rattle.time.specs.declared.Stamp.{Stamp}
use Rattle.time.specs.Time.{local_seconds, epoch, offset, instant_of}
use Rattle.time.specs.Limits.{Stamped}
use Rattle.integers.specs.Magnitude.{abs_neg, positive_part, negative_part, abs_parts, abs_le, parts_pos, parts_sub}
use Rattle.integers.specs.Bits.{fits_abs}
use Rattle.integers.specs.Reads.{Reads, reads_pos, reads_back, neg_fits, neg_reads, sub_fits, sub_reads}
use Rattle.time.proofs.Days.{years_closed}
use Rattle.time.proofs.Bounds.{days_below}

pub epoch_is : 62_135_596_800 ≡ epoch
unfolding epoch
epoch_is = ap (λ (n : ℕ). 86_400 * n) (years_closed 1969)

epoch_reads : Reads 62_135_596_800 (pos epoch)
epoch_reads = record { is = ap pos epoch_is }

module _ (t : Stamp) (b : Stamped t) where
  local_le : local_seconds t ≤ 315_537_897_600
  unfolding local_seconds
  local_le = omega (arith, days_below b.date)

  -- ---- the offset
  abbrev ahead : ℕ
  ahead = 3_600 * t.offset_hour + 60 * t.offset_minute

  pub ahead_le : ahead ≤ 50_400
  ahead_le = omega arith

  offset_abs : nat_abs (offset t) ≤ 50_400
  unfolding offset
  offset_abs =
      cond_cases (λ (z : ℤ). nat_abs z ≤ 50_400) t.west (neg_ℤ (pos ahead)) (pos ahead)
      (λ w. omega (arith, ahead_le, abs_neg (pos ahead)))
      (λ w. ahead_le)

  -- ---- the instant
  abbrev since : ℤ
  since = pos (local_seconds t) -ℤ pos epoch

  since_parts : (positive_part since ≤ 253_402_300_800) × (negative_part since ≤ 62_135_596_800)
  since_parts = let p = parts_pos (local_seconds t) epoch in (omega (arith, local_le, epoch_is), omega (arith, epoch_is))

  since_abs : nat_abs since ≤ 253_402_300_800
  since_abs = abs_le since 253_402_300_800 (since_parts.0, omega (arith, since_parts))

  pub instant_parts : (positive_part (instant_of t) ≤ 253_402_351_200) × (negative_part (instant_of t) ≤ 62_135_647_200)
  unfolding instant_of
  instant_parts =
      let s = since_parts in
      let p = parts_sub since (offset t) in
      (omega (arith, offset_abs, abs_parts (offset t)), omega (arith, offset_abs, abs_parts (offset t)))

  instant_abs : nat_abs (instant_of t) ≤ 253_402_351_200
  instant_abs = abs_le (instant_of t) 253_402_351_200 (instant_parts.0, omega (arith, instant_parts))

  -- ---- the code's arithmetic: the offset
  ahead_reads : Reads ahead (pos ahead)
  ahead_reads = reads_pos ahead (omega (arith, ahead_le))

  pub ahead_fits : SFits w64 (pos ahead)
  ahead_fits = fits_abs (omega (arith, ahead_le))

  pub west_fits : SFits w64 (pos 0 -ℤ to_z w64 ahead)
  west_fits = neg_fits ahead_reads (omega (arith, ahead_le))

  pub west_is : t.west ≡ true → to_z w64 (of_z w64 (pos 0 -ℤ to_z w64 ahead)) ≡ offset t
  unfolding offset
  west_is w = rw w (neg_reads ahead_reads (omega (arith, ahead_le))).is

  pub east_is : t.west ≡ false → to_z w64 ahead ≡ offset t
  unfolding offset
  east_is w = rw w ahead_reads.is

  -- ---- the code's arithmetic: the instant, from the local seconds l and the offset z that the callees gave
  module _ (l : ℕ) (p : l ≡ local_seconds t) where
    pub local_fits : SFits w64 (pos l)
    local_fits = fits_abs (omega (arith, local_le))

    local_reads : Reads l (pos (local_seconds t))
    local_reads = rw p (reads_pos (local_seconds t) (omega (arith, local_le)))

    pub since_fits : SFits w64 (to_z w64 l -ℤ to_z w64 62_135_596_800)
    since_fits = sub_fits local_reads epoch_reads (omega (arith, since_abs))

    since_reads : Reads (of_z w64 (to_z w64 l -ℤ to_z w64 62_135_596_800)) since
    since_reads = sub_reads local_reads epoch_reads (omega (arith, since_abs))

    module _ (z : ℤ) (q : z ≡ offset t) (h : mag z < 9_223_372_036_854_775_808) where
      offset_reads : Reads (of_z w64 z) (offset t)
      offset_reads = record { is = (reads_back z h).is ∙ q }

      pub instant_fits : SFits w64 (to_z w64 (of_z w64 (to_z w64 l -ℤ to_z w64 62_135_596_800)) -ℤ to_z w64 (of_z w64 z))
      unfolding instant_of
      instant_fits = sub_fits since_reads offset_reads (omega (arith, instant_abs))

      pub instant_is : to_z w64 (of_z w64 (to_z w64 (of_z w64 (to_z w64 l -ℤ to_z w64 62_135_596_800)) -ℤ to_z w64 (of_z w64 z))) ≡ instant_of t
      unfolding instant_of
      instant_is = (sub_reads since_reads offset_reads (omega (arith, instant_abs))).is
