-- What the functions of src/ hand each other on the way to `received`: the checks before the table, and what is then stored.
use Rattle.std.specs.Prelude.{Bool, cond, ◌&&◌, Option, Some, None, Result, Ok, Err, List, ℕ, ltb, get_or}
use Rattle.std.specs.Bool.{then_some}
use Rattle.std.specs.List.{position}
use Rattle.std.specs.Option.{option_or, option_map}
use Rattle.text.specs.Answers.{Answer, gives, refuses}
use Rattle.events.specs.declared.Entry.{Entry}
use Rattle.events.specs.declared.New.{New}
use Rattle.events.specs.declared.Refusal.{Refusal}
use Rattle.events.specs.declared.Refusal.TheVariants.{NotAbove, Full}
use Rattle.events.specs.declared.plans.Candidates.{Candidates}
use Rattle.events.specs.Table.{is_set, is_of, is_free, blank, position_of, renewed, fresh, refusal_number}
use Rattle.events.specs.Running.{is_running}

-- ---- the checks before the table

abbrev pub checked_answer : Result New Refusal → Answer New
checked_answer (Ok new) = gives new
checked_answer (Err r) = refuses (refusal_number r) 0

-- ---- the running events

-- a used entry that runs: only of such a one is it asked whether it is its event's first
abbrev pub is_active : ℕ → Entry → Bool
is_active time e = is_set e.used && is_running time e

-- ---- what is stored, and where: by the event's first used entry, or where it has none by the lowest free one

-- an entry with its index
abbrev pub with_index : List Entry → ℕ → ℕ × Entry
with_index es k = (k, get_or es k blank)

-- what a search finds: the event's first used entry, and the lowest free index
abbrev pub found_in : (key event : ℕ) → List Entry → Candidates
found_in key event es = record { known = option_map (with_index es) (position_of key event es); free = position is_free es }

-- what a packet comes to by that
abbrev pub decided_by : Candidates → New → Result (ℕ × Entry) Refusal
decided_by s new = by s.known s.free
  where
    by : Option (ℕ × Entry) → Option ℕ → Result (ℕ × Entry) Refusal
    by (Some (k, old)) free = cond (ltb old.sequence new.sequence) (Ok (k, renewed new old)) (Err NotAbove)
    by None (Some k) = Ok (k, fresh new)
    by None None = Err Full

unfoldable pub decided : New → List Entry → Result (ℕ × Entry) Refusal
decided new es = decided_by (found_in new.key new.event es) new

-- ---- a search that is given the entries one after the other

abbrev pub no_candidates : Candidates
no_candidates = record { known = None; free = None }

-- with one entry more, which stands at index k
abbrev pub found_with : (key event : ℕ) → Candidates → (k : ℕ) → Entry → Candidates
found_with key event s k e = record {
  known = option_or s.known (then_some (is_of key event e) (k, e));
  free = option_or s.free (then_some (is_free e) k);
}
