-- The running events (document 02, [7]): "A new answer lists, in table order, key id and event of each event whose first used entry is uncancelled, with
-- timestamp at or before a given time and expiry after it.", over a run of entries of any length and content.
use Rattle.std.specs.Prelude.{Bool, cond, not, ◌&&◌, Result, Ok, Err, List, [], ◌∷◌, ◌++◌, ℕ, zero, suc, eqb, leb, ltb, length, get_or}
use Rattle.text.specs.Answers.{Answer, gives, refuses}
use Rattle.events.specs.declared.Entry.{Entry}
use Rattle.events.specs.declared.EventId.{EventId}
use Rattle.events.specs.declared.NoRoom.{NoRoom}
use Rattle.events.specs.Table.{is_set, blank, index_of}

-- "key id and event"
abbrev pub event_of : Entry → EventId
event_of e = record { key = e.key; event = e.event }

-- an event for where there is none
abbrev pub no_event : EventId
no_event = record { key = 0; event = 0 }

-- "uncancelled, with timestamp at or before a given time and expiry after it"
abbrev pub is_running : ℕ → Entry → Bool
is_running time e = not (is_set e.cancelled) && leb e.timestamp time && ltb time e.expiry

-- "first used entry": the entry at index i is its event's if the event is found there
abbrev pub is_first : List Entry → ℕ → Bool
is_first es i = eqb (index_of (get_or es i blank).key (get_or es i blank).event es) i

-- "each event whose first used entry is .."
abbrev pub runs_at : ℕ → List Entry → ℕ → Bool
runs_at time es i = is_running time (get_or es i blank) && is_first es i

-- "in table order": those among the first n entries
unfoldable pub running_to : ℕ → List Entry → ℕ → List EventId
running_to time es zero = []
running_to time es (suc n) = running_to time es n ++ cond (runs_at time es n) (event_of (get_or es n blank) ∷ []) []

unfoldable pub running : ℕ → List Entry → List EventId
running time es = running_to time es (length es)

abbrev pub list_answer : Result ℕ NoRoom → Answer ℕ
list_answer (Ok n) = gives n
list_answer (Err e) = refuses 24 0
