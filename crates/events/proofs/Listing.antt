-- The list of running events, entry by entry.
use mathlib.Core.Path.{◌≡◌, refl, sym, ◌∙◌, ap}
use mathlib.Core.Bool.{true, false}
use mathlib.Core.List.{List, [], ◌∷◌, ◌++◌, append-nil}
use Prim.Native.Nat.{ℕ, zero, suc, ◌+◌, ◌≤◌, zero-le}
use mathlib.Core.Logic.{⊎_elim}
use native.Mathlib.Nat.{le_of_suc-le-suc, eq-or-lt_of_le}
use native.Mathlib.Numerals.{add-one}
use native.Mathlib.Omega.{arith}
use borrow.Author.Tests.{le-leb, le-ltb}
use lib.ListN.{length, get_or, length-append, get_or-eq_default}
use Rattle.text.specs.Logic.{by_test}
use Rattle.events.specs.declared.Entry.{Entry}
use Rattle.events.specs.Table.{blank}
use Rattle.events.specs.Running.{event_of, runs_at, running_to, running}

module _ (time : ℕ) (es : List Entry) where
  pub running_none : running_to time es 0 ≡ []
  unfolding running_to
  running_none = refl

  -- one entry more
  pub running_hit : (i : ℕ) → runs_at time es i ≡ true → running_to time es (i + 1) ≡ running_to time es i ++ (event_of (get_or es i blank) ∷ [])
  unfolding running_to
  running_hit i e = rw (add-one, e)

  pub running_miss : (i : ℕ) → runs_at time es i ≡ false → running_to time es (i + 1) ≡ running_to time es i
  unfolding running_to
  running_miss i e = rw (add-one, e) (append-nil _)

  -- no entry past the last runs
  past_last : (i : ℕ) → length es ≤ i → runs_at time es i ≡ false
  past_last i h = rw (get_or-eq_default es blank h, le-leb 0 time zero-le, le-ltb time 0 zero-le)

  pub running_all : (i : ℕ) → length es ≤ i → running_to time es i ≡ running time es
  unfolding running
  running_all zero h = ap (running_to time es) (omega arith)
  running_all (suc i) h =
      ⊎_elim (λ e. ap (running_to time es) (sym e))
      (λ l. let past : length es ≤ i = le_of_suc-le-suc l in
      ap (running_to time es) (sym (add-one i)) ∙ running_miss i (past_last i past) ∙ running_all i past)
      (eq-or-lt_of_le h)

  -- no more than there are entries
  pub running_le : (i : ℕ) → length (running_to time es i) ≤ i
  running_le zero = rw running_none zero-le
  running_le (suc i) =
      by_test (runs_at time es i)
      (λ t. rw (sym (add-one i)) (rw (running_hit i t, length-append) (omega (arith, running_le i))))
      (λ t. rw (sym (add-one i)) (rw (running_miss i t) (omega (arith, running_le i))))

  pub running_count : length (running time es) ≤ length es
  unfolding running
  running_count = running_le (length es)
