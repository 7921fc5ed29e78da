-- What holds of the list of running events, for every table and every time. proofs/RunningList.antt proves it.
use Rattle.std.specs.Prelude.{◌≡◌, Bool, true, false, List, ◌↔◌, ℕ, ◌<◌, ◌≤◌, length, get_or, set}
use Rattle.text.specs.Answers.{Answer, gives}
use Rattle.packet.specs.declared.Fields.{Fields}
use Rattle.events.specs.declared.Entry.{Entry}
use Rattle.events.specs.declared.EventId.{EventId}
use Rattle.events.specs.Table.{blank, is_of, is_free, index_of, is_stale, swept_all}
use Rattle.events.specs.Running.{no_event, running}
use Rattle.events.specs.Demand2.{FirstAt, NoneOf, Call, Passes}

abbrev pub event : (key number : ℕ) → EventId
event key number = record { key = key; event = number }

-- an event stands in a list, at place j
pub record StandsAt (x : EventId) (list : List EventId) (j : ℕ) : Type 0 where
  pub within : j < length list
  pub here : get_or list j no_event ≡ x

abbrev pub Listed : EventId → List EventId → Type 0
Listed x list = (j : ℕ) × StandsAt x list j

-- "uncancelled, with timestamp at or before a given time and expiry after it"
pub record Runs (time : ℕ) (e : Entry) : Type 0 where
  pub uncancelled : e.cancelled ≡ 0
  pub begun : e.timestamp ≤ time
  pub unexpired : time < e.expiry

module _ (time : ℕ) (es : List Entry) where
  -- the index of the first used entry of the event at place j
  abbrev pub entry_of : ℕ → ℕ
  entry_of j = index_of (get_or (running time es) j no_event).key (get_or (running time es) j no_event).event es

  pub record RunningList : Type 0 where
    -- an event is listed exactly if its first used entry runs
    pub exactly :
        (key number : ℕ)
        → Listed (event key number) (running time es) ↔ ((i : ℕ) × FirstAt (is_of key number) es i × Runs time (get_or es i blank))
    -- each event is listed at most once
    pub once : (x : EventId) (j k : ℕ) → StandsAt x (running time es) j → StandsAt x (running time es) k → j ≡ k
    -- "in table order"
    pub ordered : (j k : ℕ) → j < k → k < length (running time es) → entry_of j < entry_of k
    -- a later used entry of an event never matters: whatever of the event is put there, or a free entry
    pub later :
        (key number i j : ℕ) (x : Entry) → i < j → is_of key number (get_or es i blank) ≡ true → is_of key number (get_or es j blank) ≡ true
        → (is_free x ≡ false → is_of key number x ≡ true) → running time (set es j x) ≡ running time es
    -- after a sweep at a time that frees nothing the list is the same
    pub unswept : (at : ℕ) → NoneOf (is_stale at) es → running time (swept_all at es) ≡ running time es

-- ---- acceptance, and the list afterwards

-- from the entries es to the entries fs, by an accepted packet with the fields f
pub record ListAfter (es fs : List Entry) (f : Fields) (time : ℕ) : Type 0 where
  -- the packet's event is listed by that packet alone
  pub own : Listed (event f.key f.event) (running time fs) ↔ ((f.cancel ≡ false) × (f.timestamp ≤ time) × (time < f.expiry))
  -- and every other event as before
  pub others : (x : EventId) → (x ≡ event f.key f.event → ⊥) → Listed x (running time fs) ↔ Listed x (running time es)

-- so it is after every call of a receiver that accepts
abbrev pub AcceptedList : Type 0
AcceptedList =
    (es : List Entry) (p keys : List ℕ) (verdict : Bool) (clock : ℕ) (a : Answer Prim.Unit) (fs : List Entry) → Call es p keys verdict clock a fs
    → (f : Fields) → Passes es p keys verdict clock a fs f → a ≡ gives tt → (time : ℕ) → ListAfter es fs f time
