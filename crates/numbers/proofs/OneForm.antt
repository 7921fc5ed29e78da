-- Every sheet has one form as numbers: 15 numbers that stand for a sheet are the numbers of that sheet.
use mathlib.Core.Path.{◌≡◌, refl, ap}
use mathlib.Core.Bool.{true, false}
use mathlib.Core.List.{List, [], ◌∷◌}
use Prim.Native.Nat.{ℕ, zero, suc}
use lib.Dec.{eqb}
use lib.ListN.{length}
use borrow.Author.Tests.{eqb-true}
use Rattle.text.specs.Answers.{Answer, gives}
use Rattle.text.specs.Logic.{by_test, cond_cases, clash}
use Rattle.sheet.specs.declared.Found.{Found}
use Rattle.codes.specs.Lists as list
use Rattle.codes.proofs.Each.{number_back_lem}
use Rattle.numbers.specs.Numbers.{at, has_no_part, are_cap, part_from, cap_from, sender_from, name_from}
use Rattle.numbers.specs.Numbers.{are_warn, warn_from, numbers_sheet, numbers_of_none, numbers_of_part, cap_numbers, warn_numbers, numbers_of}
use Rattle.numbers.proofs.Tests.{joined_at, part_passed, cap_passed, part_there, warn_passed}
use Rattle.numbers.proofs.Flags.{flag_number}

-- ---- a list, spelt by what stands at each index

abbrev spelt : ℕ → (ℕ → ℕ) → List ℕ
spelt zero f = []
spelt (suc k) f = f 0 ∷ spelt k (λ i. f (suc i))

spelt_is : (n : List ℕ) → spelt (length n) (at n) ≡ n
spelt_is [] = refl
spelt_is (a ∷ n) = ap (◌∷◌ a) (spelt_is n)

module _ (n : List ℕ) (fifteen : length n ≡ 15) where
  all_spelt : spelt 15 (at n) ≡ n
  all_spelt = rw fifteen at (spelt_is n)

  -- ---- CAP, without and with a part

  none_form : are_cap n ≡ true → has_no_part n ≡ true → cap_numbers (cap_from n) (sender_from n) (name_from n) ≡ n
  unfolding cap_from numbers_of_none
  none_form e h =
      let passed = cap_passed n e in
      let none =
      joined_at true
      (eqb (at n 4) 0 ∷ eqb (at n 5) 0 ∷ eqb (at n 6) 0 ∷ eqb (at n 7) 0 ∷ eqb (at n 8) 0 ∷ eqb (at n 9) 0 ∷ eqb (at n 10) 0 ∷ [])
      h
      in
      rw (h, number_back_lem list.msg_type (at n 1) passed.message, number_back_lem list.status (at n 2) passed.status, number_back_lem list.scope (at n 3) passed.scope)
      (rw (
        passed.first,
        eqb-true (at n 4) 0 (none 0),
        eqb-true (at n 5) 0 (none 1),
        eqb-true (at n 6) 0 (none 2),
        eqb-true (at n 7) 0 (none 3),
        eqb-true (at n 8) 0 (none 4),
        eqb-true (at n 9) 0 (none 5),
        eqb-true (at n 10) 0 (none 6),
      ) at all_spelt)

  part_form : are_cap n ≡ true → has_no_part n ≡ false → cap_numbers (cap_from n) (sender_from n) (name_from n) ≡ n
  unfolding cap_from part_from numbers_of_part
  part_form e h =
      let passed = cap_passed n e in
      let part = part_passed n (part_there n e h) in
      rw (
        h,
        number_back_lem list.msg_type (at n 1) passed.message,
        number_back_lem list.status (at n 2) passed.status,
        number_back_lem list.scope (at n 3) passed.scope,
        number_back_lem list.urgency (at n 6) part.urgency,
        number_back_lem list.severity (at n 7) part.severity,
        number_back_lem list.certainty (at n 8) part.certainty,
        part.lasting.stated_back,
        part.lasting.seconds_back,
      )
      (rw passed.first at all_spelt)

  -- ---- WARN

  warn_form : are_warn n ≡ true → warn_numbers (warn_from n) ≡ n
  unfolding warn_from warn_numbers
  warn_form e =
      let passed = warn_passed n e in
      rw (
        flag_number (at n 1) passed.urgent,
        flag_number (at n 2) passed.update,
        flag_number (at n 3) passed.cancel,
        flag_number (at n 4) passed.test,
      )
      (rw passed.first at all_spelt)

  -- ---- any sheet

  pub one_form : (x : Found) → numbers_sheet n ≡ gives x → numbers_of x ≡ n
  unfolding numbers_sheet numbers_of
  one_form x =
      let Form : Answer Found → Type 0 = λ a. a ≡ gives x → numbers_of x ≡ n in
      cond_cases Form (are_cap n) _ _
      (λ e h. let form = by_test (has_no_part n) (none_form e) (part_form e) in cc)
      (λ e. cond_cases Form (are_warn n) _ _ (λ f h. let form = warn_form f in cc) (λ f h. clash (cc)))
