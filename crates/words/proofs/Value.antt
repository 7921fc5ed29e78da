-- The codes of a number, counted one after the other, give that number.
use mathlib.Core.Path.{◌≡◌, refl, ap, ◌∙◌}
use mathlib.Core.Bool.{cond}
use mathlib.Core.List.{List, [], ◌∷◌, ◌++◌}
use Prim.Native.Nat.{ℕ, ◌+◌, ◌-◌, ◌*◌, ◌/◌, ◌%◌, ◌≤◌, ◌<◌}
use native.Mathlib.Omega.{arith}
use lib.Dec.{eqb, ltb}
use borrow.Author.Tests.{lt-ltb, le-ltb, ne_eqb, ltb-true, ltb-false, eqb-true, eqb-false}
use Rattle.text.specs.Logic.{by_test, cond_cases}
use Rattle.words.specs.declared.Groups.{Groups}
use Rattle.words.specs.Words.{tens, hundred, thousand, million, billion, ones, below_hundred, below_thousand, group, number_codes}
use Rattle.words.specs.Reading.{group_unit, step, nothing, total}

abbrev groups : ℕ → ℕ → Groups
groups t c = record { sum = t; current = c }

-- the words of some codes, one after the other
unfoldable pub steps : List ℕ → Groups → Groups
steps [] g = g
steps (w ∷ ws) g = steps ws (step w g)

steps_append : (xs ys : List ℕ) (g : Groups) → steps (xs ++ ys) g ≡ steps ys (steps xs g)
unfolding steps
steps_append [] ys g = refl
steps_append (w ∷ ws) ys g = steps_append ws ys (step w g)

-- ---- a word of each kind

-- below twenty
step_one : (w c t : ℕ) → w < 20 → c + w < 4_294_967_296 → step w (groups t c) ≡ groups t (c + w)
unfolding step
step_one w c t h l = rw (lt-ltb w 28 (omega arith), lt-ltb w 20 h) (ap (groups t) (omega arith))

step_ten : (k c t : ℕ) → 2 ≤ k → k < 10 → c + 10 * k < 4_294_967_296 → step (tens k) (groups t c) ≡ groups t (c + 10 * k)
unfolding step
step_ten k c t a b l =
    let e : 18 + k - 18 ≡ k = omega arith in
    rw (lt-ltb (18 + k) 28 (omega arith), le-ltb (18 + k) 20 (omega arith), e) (ap (groups t) (omega arith))

step_hundred : (c t : ℕ) → c < 10 → step hundred (groups t c) ≡ groups t (c * 100)
unfolding step
step_hundred c t h = ap (groups t) (omega arith)

step_group : (u c t : ℕ) → hundred < u → t + c * group_unit u < 4_294_967_296 → step u (groups t c) ≡ groups (t + c * group_unit u) 0
unfolding step
step_group u c t h l = rw (le-ltb u 28 (omega arith), ne_eqb u 28 (λ e. omega arith)) (ap (λ (x : ℕ). groups x 0) (omega arith))

-- ---- the words of a part of a number

steps_ones : (n c t : ℕ) → n < 20 → c + n < 4_294_967_296 → steps (ones n) (groups t c) ≡ groups t (c + n)
unfolding ones steps
steps_ones n c t h l =
    by_test (eqb n 0)
    (λ e. let z = eqb-true n 0 e in rw e (ap (groups t) (omega arith)))
    (λ e. rw e (step_one n c t h l))

steps_hundred : (n c t : ℕ) → n < 100 → c + n < 4_294_967_296 → steps (below_hundred n) (groups t c) ≡ groups t (c + n)
unfolding below_hundred steps
steps_hundred n c t h l =
    by_test (ltb n 20)
    (λ e. rw e (steps_ones n c t (ltb-true n 20 e) l))
    (λ e.
    let g = ltb-false n 20 e in
    rw e
    (ap (steps (ones (n % 10))) (step_ten (n / 10) c t (omega arith) (omega arith) (omega arith))
    ∙ steps_ones (n % 10) (c + 10 * (n / 10)) t (omega arith) (omega arith)
    ∙ ap (groups t) (omega arith)))

-- a group that begins
steps_thousand : (n t : ℕ) → n < 1_000 → steps (below_thousand n) (groups t 0) ≡ groups t n
unfolding below_thousand steps
steps_thousand n t h =
    by_test (eqb (n / 100) 0)
    (λ e. let z = eqb-true (n / 100) 0 e in rw e (steps_hundred (n % 100) 0 t (omega arith) (omega arith) ∙ ap (groups t) (omega arith)))
    (λ e.
    rw e
    (ap (λ (g : Groups). steps (below_hundred (n % 100)) (step hundred g)) (step_one (n / 100) 0 t (omega arith) (omega arith))
    ∙ ap (steps (below_hundred (n % 100))) (step_hundred (0 + n / 100) t (omega arith))
    ∙ steps_hundred (n % 100) ((0 + n / 100) * 100) t (omega arith) (omega arith)
    ∙ ap (groups t) (omega arith)))

-- a group that counts x, after groups that count t
steps_group :
    (n u t x : ℕ) → n < 1_000 → hundred < u → n * group_unit u ≡ x → (n ≡ 0 → x ≡ 0) → t + x < 4_294_967_296
    → steps (group n u) (groups t 0) ≡ groups (t + x) 0
unfolding group steps
steps_group n u t x h hu e z l =
    by_test (eqb n 0)
    (λ b. let q = z (eqb-true n 0 b) in rw b (ap (λ (y : ℕ). groups y 0) (omega arith)))
    (λ b.
    rw b
    (steps_append (below_thousand n) (u ∷ []) (groups t 0)
    ∙ ap (step u) (steps_thousand n t h)
    ∙ step_group u n t hu (rw e l)
    ∙ ap (λ (y : ℕ). groups (t + y) 0) e))

-- the same with words after it
group_then :
    (n u t x : ℕ) (ws : List ℕ) → n < 1_000 → hundred < u → n * group_unit u ≡ x → (n ≡ 0 → x ≡ 0) → t + x < 4_294_967_296
    → steps (group n u ++ ws) (groups t 0) ≡ steps ws (groups (t + x) 0)
group_then n u t x ws h hu e z l = steps_append (group n u) ws (groups t 0) ∙ ap (steps ws) (steps_group n u t x h hu e z l)

-- ---- the whole number

steps_some : (n : ℕ) → n < 4_294_967_296 → (n ≡ 0 → ⊥) → steps (number_codes n) nothing ≡ groups (n / 1_000 * 1_000) (n % 1_000)
unfolding number_codes
steps_some n h z =
    let b = n / 1_000_000_000 in
    let m = n / 1_000_000 % 1_000 in
    let k = n / 1_000 % 1_000 in
    let u = below_thousand (n % 1_000) in
    let tb = 0 + b * 1_000_000_000 in
    let tm = tb + m * 1_000_000 in
    let tk = tm + k * 1_000 in
    rw (ne_eqb n 0 z)
    (group_then b billion 0 (b * 1_000_000_000) (group m million ++ (group k thousand ++ u)) (omega arith) (omega arith) refl (λ e. omega arith)
    (omega arith)
    ∙ group_then m million tb (m * 1_000_000) (group k thousand ++ u) (omega arith) (omega arith) refl (λ e. omega arith) (omega arith)
    ∙ group_then k thousand tm (k * 1_000) u (omega arith) (omega arith) refl (λ e. omega arith) (omega arith)
    ∙ steps_thousand (n % 1_000) tk (omega arith)
    ∙ ap (λ (t : ℕ). groups t (n % 1_000)) (omega arith))

total_zero : (n : ℕ) → n ≡ 0 → total (steps (number_codes n) nothing) ≡ n
unfolding number_codes steps step
total_zero n e = rw e

pub total_steps : (n : ℕ) → n < 4_294_967_296 → total (steps (number_codes n) nothing) ≡ n
total_steps n h =
    by_test (eqb n 0)
    (λ e. total_zero n (eqb-true n 0 e))
    (λ e. ap total (steps_some n h (eqb-false n 0 e)) ∙ omega arith)

-- ---- every code is that of a number word

abbrev pub NumberCodes : List ℕ → Type 0
NumberCodes [] = Unit {0}
NumberCodes (w ∷ ws) = (w < 32) × NumberCodes ws

both_codes : (xs ys : List ℕ) → NumberCodes xs → NumberCodes ys → NumberCodes (xs ++ ys)
both_codes [] ys p q = q
both_codes (x ∷ xs) ys p q = (p.0, both_codes xs ys p.1 q)

ones_codes : (n : ℕ) → n < 20 → NumberCodes (ones n)
unfolding ones
ones_codes n h = cond_cases NumberCodes (eqb n 0) [] (n ∷ []) (λ e. tt) (λ e. (omega arith, tt))

hundred_codes : (n : ℕ) → n < 100 → NumberCodes (below_hundred n)
unfolding below_hundred
hundred_codes n h =
    cond_cases NumberCodes (ltb n 20) (ones n) (tens (n / 10) ∷ ones (n % 10))
    (λ e. ones_codes n (ltb-true n 20 e))
    (λ e. (omega arith, ones_codes (n % 10) (omega arith)))

thousand_codes : (n : ℕ) → n < 1_000 → NumberCodes (below_thousand n)
unfolding below_thousand
thousand_codes n h =
    both_codes (cond (eqb (n / 100) 0) [] (n / 100 ∷ hundred ∷ [])) (below_hundred (n % 100))
    (cond_cases NumberCodes (eqb (n / 100) 0) [] (n / 100 ∷ hundred ∷ []) (λ e. tt) (λ e. (omega arith, (omega arith, tt))))
    (hundred_codes (n % 100) (omega arith))

group_codes : (n u : ℕ) → n < 1_000 → u < 32 → NumberCodes (group n u)
unfolding group
group_codes n u h l =
    cond_cases NumberCodes (eqb n 0) [] (below_thousand n ++ (u ∷ []))
    (λ e. tt)
    (λ e. both_codes (below_thousand n) (u ∷ []) (thousand_codes n h) (l, tt))

pub number_codes_lem : (n : ℕ) → n < 4_294_967_296 → NumberCodes (number_codes n)
unfolding number_codes
number_codes_lem n h =
    let b = group (n / 1_000_000_000) billion in
    let m = group (n / 1_000_000 % 1_000) million in
    let k = group (n / 1_000 % 1_000) thousand in
    let u = below_thousand (n % 1_000) in
    cond_cases NumberCodes (eqb n 0) (0 ∷ []) (b ++ (m ++ (k ++ u)))
    (λ e. (omega arith, tt))
    (λ e.
    both_codes b (m ++ (k ++ u)) (group_codes (n / 1_000_000_000) billion (omega arith) (omega arith))
    (both_codes m (k ++ u) (group_codes (n / 1_000_000 % 1_000) million (omega arith) (omega arith))
    (both_codes k u (group_codes (n / 1_000 % 1_000) thousand (omega arith) (omega arith)) (thousand_codes (n % 1_000) (omega arith)))))
