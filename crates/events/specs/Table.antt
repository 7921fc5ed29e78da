-- The event table (document 01, "The event table" and "Refusal numbers"), over a run of entries of any length and content.
use Rattle.std.specs.Prelude.{Bool, true, false, cond, not, ◌&&◌, Option, Some, None, Result, Ok, Err, List, [], ◌∷◌, ℕ, suc, ◌+◌, eqb, ltb, length, get_or, set}
use mir.Val.{bool_byte}
use Rattle.text.specs.Answers.{Answer, gives, refuses, answer_and_then}
use Rattle.packet.specs.declared.Fields.{Fields}
use Rattle.packet.specs.Packet.{packet_of, fault_number}
use Rattle.events.specs.declared.Entry.{Entry}
use Rattle.events.specs.declared.New.{New}
use Rattle.events.specs.declared.Refusal.{Refusal}
use Rattle.events.specs.declared.Refusal.TheVariants.{ClockOutOfRange, UnknownKey, Unverified, NotAbove, Full, Packet}

-- ---- entries

-- "Any content ... may come in": any byte but 0 is set
abbrev pub is_set : ℕ → Bool
is_set b = not (eqb b 0)

-- "an event (key id with event number)"
abbrev pub is_of : ℕ → ℕ → Entry → Bool
is_of key event e = is_set e.used && eqb e.key key && eqb e.event event

abbrev pub is_free : Entry → Bool
is_free e = not (is_set e.used)

-- an entry for where there is none
abbrev pub blank : Entry
blank = record { used = 0; key = 0; event = 0; sequence = 0; cancelled = 0; keep_until = 0; timestamp = 0; expiry = 0 }

-- the index of the first entry that passes a test, or the number of entries
unfoldable pub first_index : (Entry → Bool) → List Entry → ℕ
first_index f [] = 0
first_index f (e ∷ es) = cond (f e) 0 (suc (first_index f es))

-- "an event ... is judged by its first used entry"
abbrev pub index_of : ℕ → ℕ → List Entry → ℕ
index_of key event es = first_index (is_of key event) es

-- "the lowest free entry"
abbrev pub free_index : List Entry → ℕ
free_index es = first_index is_free es

unfoldable pub position_of : ℕ → ℕ → List Entry → Option ℕ
position_of key event es = cond (ltb (index_of key event es) (length es)) (Some (index_of key event es)) None

-- ---- acceptance

-- what a packet that passes every check before the table's own stores; its keep-until is "now plus ttl", and with it "the accepted packet's timestamp and
-- expiry" (document 02, [7])
abbrev pub new_of : ℕ → Fields → New
new_of clock f = record {
  key = f.key;
  event = f.event;
  sequence = f.sequence;
  cancelled = f.cancel;
  keep_until = clock + f.ttl;
  timestamp = f.timestamp;
  expiry = f.expiry;
}

-- "On acceptance the entry takes the packet's sequence number and CANCEL flag, and keep-until becomes the larger of its old one and now plus ttl.";
-- "Acceptance writes the two new fields with the others" (document 02, [7])
abbrev pub renewed : New → Entry → Entry
renewed new e = record {
  used = e.used;
  key = e.key;
  event = e.event;
  sequence = new.sequence;
  cancelled = bool_byte new.cancelled;
  keep_until = cond (ltb e.keep_until new.keep_until) new.keep_until e.keep_until;
  timestamp = new.timestamp;
  expiry = new.expiry;  -- also where it is smaller
}

-- "A new event takes the lowest free entry, now used under its key id and event, with any sequence number; its
-- keep-until is now plus ttl, whatever the free entry held."
abbrev pub fresh : New → Entry
fresh new = record {
  used = 1;
  key = new.key;
  event = new.event;
  sequence = new.sequence;
  cancelled = bool_byte new.cancelled;
  keep_until = new.keep_until;
  timestamp = new.timestamp;
  expiry = new.expiry;
}

-- "Acceptance answers just that": the answer, and the entries afterwards
pub record Outcome : Type 0 where
  pub answer : Answer Prim.Unit
  pub entries : List Entry

abbrev pub outcome : Answer Prim.Unit → List Entry → Outcome
outcome a es = record { answer = a; entries = es }

-- an event with an entry at index i: 10 unless the number is above the stored one
unfoldable pub again : New → List Entry → ℕ → Outcome
again new es i =
    cond (ltb (get_or es i blank).sequence new.sequence)
    (outcome (gives tt) (set es i (renewed new (get_or es i blank))))
    (outcome (refuses 10 0) es)

-- an event without an entry, the lowest free one being at index i: 11 where there is none
unfoldable pub anew : New → List Entry → ℕ → Outcome
anew new es i = cond (ltb i (length es)) (outcome (gives tt) (set es i (fresh new))) (outcome (refuses 11 0) es)

-- 10 and 11, by the table
unfoldable pub table_outcome : New → List Entry → Outcome
table_outcome new es =
    cond (ltb (index_of new.key new.event es) (length es))
    (again new es (index_of new.key new.event es))
    (anew new es (free_index es))

-- ---- "on receipt then 12, 8, 9, 10, 11"

-- "clock above 2^64 - 65,536"
abbrev pub is_clock_out_of_range : ℕ → Bool
is_clock_out_of_range clock = ltb 18_446_744_073_709_486_080 clock

unfoldable pub is_listed : List ℕ → ℕ → Bool
is_listed [] key = false
is_listed (k ∷ ks) key = cond (eqb k key) true (is_listed ks key)

-- 12, 8 and 9, after the packet's own
unfoldable pub checked : List ℕ → Bool → ℕ → Fields → Answer New
checked keys verdict clock f =
    cond (is_clock_out_of_range clock) (refuses 12 0)
    (cond (not (is_listed keys f.key)) (refuses 8 0)
    (cond (not verdict) (refuses 9 0)
    (gives (new_of clock f))))

abbrev pub answered : List Entry → Answer New → Outcome
answered es (gives new) = table_outcome new es
answered es (refuses n at) = outcome (refuses n at) es

unfoldable pub received : List Entry → List ℕ → List ℕ → Bool → ℕ → Outcome
received es p keys verdict clock = answered es (answer_and_then (packet_of p) (checked keys verdict clock))

abbrev pub refusal_number : Refusal → ℕ
refusal_number ClockOutOfRange = 12
refusal_number UnknownKey = 8
refusal_number Unverified = 9
refusal_number NotAbove = 10
refusal_number Full = 11
refusal_number (Packet e) = fault_number e

abbrev pub receipt_answer : Result Prim.Unit Refusal → Answer Prim.Unit
receipt_answer (Ok u) = gives tt
receipt_answer (Err r) = refuses (refusal_number r) 0

-- ---- "Sweeping at a time frees exactly the used entries whose keep-until is below it, touching only their used mark.";
-- "sweeping still looks at keep-until only" (document 02, [7])

abbrev pub is_stale : ℕ → Entry → Bool
is_stale time e = is_set e.used && ltb e.keep_until time

abbrev pub swept : ℕ → Entry → Entry
swept time e =
    cond (is_stale time e) (record {
      used = 0;
      key = e.key;
      event = e.event;
      sequence = e.sequence;
      cancelled = e.cancelled;
      keep_until = e.keep_until;
      timestamp = e.timestamp;
      expiry = e.expiry;
    }) e

unfoldable pub swept_all : ℕ → List Entry → List Entry
swept_all time [] = []
swept_all time (e ∷ es) = swept time e ∷ swept_all time es
