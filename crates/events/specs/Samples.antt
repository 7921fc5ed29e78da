-- Bench samples of document 01 on packets, and samples of the running events, over the definitions.
use Rattle.std.specs.Prelude.{◌≡◌, refl, true, List, [], ◌∷◌, ◌++◌, ℕ}
use Rattle.text.specs.Ascii.{ascii}
use Rattle.text.specs.Answers.{gives, refuses, giving}
use Rattle.packet.specs.BigEndian.{big_endian_from, number_of}
use Rattle.packet.specs.Packet.{flag, coordinate, fields_of, lasting_of, packet_of}
use Rattle.packet.specs.Samples.{bytes_of}
use Rattle.events.specs.declared.Entry.{Entry}
use Rattle.events.specs.Table.{blank, first_index, again, anew, table_outcome, is_listed, checked, received}
use Rattle.events.specs.Running.{running_to, running}
use Rattle.events.specs.RunningList.{event}

-- an ALERT of 132 bytes: event 7 under key 21, timestamp 0, ttl 60, all else 0
abbrev pub packet_with : (sequence expiry : ℕ) → List ℕ
packet_with sequence expiry =
    ascii "WARN" ++ bytes_of 2 0x0100 ++ bytes_of 2 0x8000 ++ bytes_of 8 0 ++ bytes_of 4 7 ++ bytes_of 2 sequence ++ bytes_of 2 60 ++ bytes_of 14 0
    ++ bytes_of 8 expiry ++ bytes_of 18 0 ++ bytes_of 4 21 ++ bytes_of 64 0

-- that event's entry with a stored number
abbrev pub stored : ℕ → Entry
stored n = record { used = 1; key = 21; event = 7; sequence = n; cancelled = 0; keep_until = 0; timestamp = 0; expiry = 0 }

-- stored 9: 9 refused, 10 taken; stored 65,535: all refused
pub sample_stored :
    ((received (stored 9 ∷ []) (packet_with 9 60) (21 ∷ []) true 0).answer ≡ refuses 10 0)
    × ((received (stored 9 ∷ []) (packet_with 10 60) (21 ∷ []) true 0).answer ≡ gives tt)
    × ((received (stored 65_535 ∷ []) (packet_with 65_535 60) (21 ∷ []) true 0).answer ≡ refuses 10 0)
unfolding big_endian_from number_of flag coordinate fields_of packet_of first_index again table_outcome is_listed checked received
sample_stored = (refl, refl, refl)

-- 31,536,000 s are taken; 31,536,001: refusal 7
pub sample_lasting :
    (giving lasting_of (packet_of (packet_with 1 31_536_000)) ≡ gives 31_536_000) × (packet_of (packet_with 1 31_536_001) ≡ refuses 7 0)
unfolding big_endian_from number_of flag coordinate fields_of packet_of
sample_lasting = (refl, refl)

-- ---- the running events (document 02, [7])

-- an entry under key 21
abbrev pub entry_with : (used event cancelled timestamp expiry : ℕ) → Entry
entry_with used event cancelled timestamp expiry = record {
  used = used;
  key = 21;
  event = event;
  sequence = 9;
  cancelled = cancelled;
  keep_until = 0;
  timestamp = timestamp;
  expiry = expiry;
}

-- 1 from its timestamp on, 2 until its expiry, 7 once; not 3 at its expiry, 4 before its timestamp, 5 cancelled, 6 cancelled first, 8 free
pub sample_running :
    running 100
    (entry_with 1 1 0 100 160 ∷ entry_with 1 2 0 40 101 ∷ entry_with 1 3 0 40 100 ∷ entry_with 1 4 0 101 160 ∷ entry_with 1 5 1 40 160
    ∷ entry_with 1 6 1 40 160 ∷ entry_with 1 7 0 40 160 ∷ entry_with 1 6 0 40 160 ∷ entry_with 1 7 1 40 160 ∷ entry_with 0 8 0 40 160 ∷ [])
    ≡ event 21 1 ∷ event 21 2 ∷ event 21 7 ∷ []
unfolding first_index running_to running
sample_running = refl

abbrev pub accepted : Entry
accepted = record { used = 1; key = 21; event = 7; sequence = 10; cancelled = 0; keep_until = 60; timestamp = 0; expiry = 60 }

-- the packet's timestamp and expiry are stored: for a new event, and in place of a stored 5 and 100
pub sample_times :
    ((received (blank ∷ []) (packet_with 10 60) (21 ∷ []) true 0).entries ≡ accepted ∷ [])
    × ((received (entry_with 1 7 0 5 100 ∷ []) (packet_with 10 60) (21 ∷ []) true 0).entries ≡ accepted ∷ [])
unfolding big_endian_from number_of flag coordinate fields_of packet_of first_index again anew table_outcome is_listed checked received
sample_times = (refl, refl)
