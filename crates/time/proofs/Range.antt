-- The range of instants: both ends are named, every text's instant lies between them, and so two instants lie no farther apart than they do.
use mathlib.Core.Path.{refl, subst}
use mathlib.Core.Bool.{◌&&◌}
use mathlib.Core.List.{List}
use Prim.Native.Nat.{ℕ, ◌≤◌}
use native.Mathlib.Omega.{arith}
use lib.Dec.{leb→le, le→leb}
use lib.IntN.{ℤ, pos, negsuc, nat_abs, ◌-ℤ◌}
use lib.Signed.{le_z_yes}
use lib.ListN.{length, take, drop}
use Rattle.text.specs.Answers.{gives, refuses, IfGiven}
use Rattle.text.specs.Logic.{cond_cases, and_right}
use Rattle.text.specs.Bytes.{drop_space, all_space, number_from}
use Rattle.time.specs.Calendar.{days_of_years, days_of_months}
use Rattle.time.specs.Time.{form, has_form, stamp_of, is_stamp, local_seconds, epoch, offset, instant_of, stamp_time, time_of}
use Rattle.time.specs.Range.{InstantRange, ExactRange, widest}
use Rattle.integers.specs.Magnitude.{positive_part, negative_part, abs_le, parts_sub}
use Rattle.time.proofs.Bounds.{stamped}
use Rattle.time.proofs.Seconds.{instant_parts}

-- ---- the range, by how far an instant lies above 1970 and below

parts_range : (z : ℤ) → (positive_part z ≤ 253_402_351_200) × (negative_part z ≤ 62_135_647_200) → InstantRange z
parts_range (pos n) h = record { from = le_z_yes tt; to = le_z_yes (le→leb n 253_402_351_200 h.0) }
parts_range (negsuc n) h = record { from = le_z_yes (le→leb n 62_135_647_199 (omega arith)); to = le_z_yes tt }

range_parts : (z : ℤ) → InstantRange z → (positive_part z ≤ 253_402_351_200) × (negative_part z ≤ 62_135_647_200)
range_parts (pos n) r = (leb→le n 253_402_351_200 r.to.le, omega arith)
range_parts (negsuc n) r = (omega arith, omega (arith, leb→le n 62_135_647_199 r.from.le))

pub range_abs : (z : ℤ) → InstantRange z → nat_abs z ≤ 253_402_351_200
range_abs z r = let p = range_parts z r in abs_le z 253_402_351_200 (p.0, omega arith)

pub range_apart : (z w : ℤ) → InstantRange z → InstantRange w → nat_abs (z -ℤ w) ≤ widest
range_apart z w r s =
    let p = range_parts z r in
    let q = range_parts w s in
    let d = parts_sub z w in
    abs_le (z -ℤ w) widest (omega arith, omega arith)

-- ---- texts

stamp_range : (l : List ℕ) → IfGiven InstantRange (stamp_time l)
unfolding stamp_time
stamp_range l =
    cond_cases (IfGiven InstantRange) (has_form form l && is_stamp (stamp_of l)) (gives (instant_of (stamp_of l))) (refuses 18 0)
    (λ t. parts_range _ (instant_parts (stamp_of l) (stamped (stamp_of l) (and_right (has_form form l) (is_stamp (stamp_of l)) t))))
    (λ t. tt)

pub time_range : (l : List ℕ) → IfGiven InstantRange (time_of l)
unfolding time_of
time_range l =
    cond_cases (IfGiven InstantRange) (all_space (drop (length form) (drop_space l))) (stamp_time (take (length form) (drop_space l))) (refuses 18 0)
    (λ t. stamp_range (take (length form) (drop_space l)))
    (λ t. tt)

pub exact_range : ExactRange
unfolding number_from days_of_years days_of_months has_form stamp_of is_stamp local_seconds epoch offset instant_of stamp_time time_of
exact_range = record {
  within = λ l z e. subst (IfGiven InstantRange) e (time_range l);
  first = refl;
  last = refl;
  apart = range_apart;
  ends_apart = refl;
  widest_below = omega arith;
}
