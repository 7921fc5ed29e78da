-- Demand 2 of the request, for receipt: acceptance is exact at every call and changes one entry only. proofs/Receipt2.antt proves it of every call.
use Rattle.std.specs.Prelude.{◌≡◌, Bool, true, false, List, ◌↔◌, ℕ, zero, suc, ◌<◌, ◌≤◌, length, get_or}
use Rattle.text.specs.Answers.{Answer, gives, refuses}
use Rattle.packet.specs.declared.Fields.{Fields}
use Rattle.packet.specs.Packet.{packet_of}
use Rattle.events.specs.declared.Entry.{Entry}
use Rattle.events.specs.Table.{blank, is_of, is_free, new_of, renewed, fresh, is_clock_out_of_range, is_listed, received, is_stale, swept_all}

-- only the entry at index i differs, and it is e
pub record OnlyAt (i : ℕ) (e : Entry) (before after : List Entry) : Type 0 where
  pub long : length after ≡ length before
  pub here : get_or after i blank ≡ e
  pub elsewhere : (k : ℕ) → (k ≡ i → ⊥) → get_or after k blank ≡ get_or before k blank

-- index i holds the first entry that passes a test
pub record FirstAt (test : Entry → Bool) (es : List Entry) (i : ℕ) : Type 0 where
  pub within : i < length es
  pub passes : test (get_or es i blank) ≡ true
  pub earlier : (k : ℕ) → k < i → test (get_or es k blank) ≡ false

abbrev pub NoneOf : (Entry → Bool) → List Entry → Type 0
NoneOf test es = (k : ℕ) → k < length es → test (get_or es k blank) ≡ false

-- a call of a receiver on the entries es that answered a and left the entries fs
module _ (es : List Entry) (p keys : List ℕ) (verdict : Bool) (clock : ℕ) (a : Answer Prim.Unit) (fs : List Entry) where
  -- what the receivers' contracts promise
  pub record Call : Type 0 where
    pub answer : a ≡ (received es p keys verdict clock).answer
    pub entries : fs ≡ (received es p keys verdict clock).entries

  -- the packet passes every check before the table's own
  pub record Passes (f : Fields) : Type 0 where
    pub alert : packet_of p ≡ gives f
    pub timely : is_clock_out_of_range clock ≡ false
    pub listed : is_listed keys f.key ≡ true
    pub verified : verdict ≡ true

  -- "is accepted exactly if its sequence number is above the stored one. Acceptance changes that event's entry only."
  pub record Known (f : Fields) (i : ℕ) : Type 0 where
    pub exactly : (a ≡ gives tt) ↔ ((get_or es i blank).sequence < f.sequence)
    pub else : f.sequence ≤ (get_or es i blank).sequence → a ≡ refuses 10 0
    pub entry : a ≡ gives tt → OnlyAt i (renewed (new_of clock f) (get_or es i blank)) es fs

  -- "A new event takes the lowest free entry"
  pub record New (f : Fields) (i : ℕ) : Type 0 where
    pub lowest : FirstAt is_free es i
    pub accepted : a ≡ gives tt
    pub entry : OnlyAt i (fresh (new_of clock f)) es fs

  -- what an accepted packet has changed: its event's entry or, where it has none, the lowest free one
  pub data Stored (f : Fields) : Type 0 where
    in_entry : (i : ℕ) → FirstAt (is_of f.key f.event) es i → Known f i → Stored f
    in_free : (i : ℕ) → NoneOf (is_of f.key f.event) es → New f i → Stored f

  pub record Demand2 : Type 0 where
    -- "While an event has an entry, a packet that passes every earlier check, CANCEL included, .."
    pub known : (f : Fields) (i : ℕ) → Passes f → FirstAt (is_of f.key f.event) es i → Known f i
    pub new : (f : Fields) (i : ℕ) → Passes f → NoneOf (is_of f.key f.event) es → FirstAt is_free es i → New f i
    -- "event has no entry and no entry is free"
    pub full : (f : Fields) → Passes f → NoneOf (is_of f.key f.event) es → NoneOf is_free es → a ≡ refuses 11 0
    pub accepted : a ≡ gives tt → (f : Fields) × Passes f × Stored f
    -- "After a refusal the event table ... hold[s] what [it] held before."
    pub refused : (n at : ℕ) → a ≡ refuses n at → fs ≡ es
    -- the numbers of the table of refusals, and "All others carry 0."
    pub numbers : (n at : ℕ) → a ≡ refuses n at → (1 ≤ n) × (n ≤ 12) × (at ≡ 0)
    -- "stored 65,535: all refused", as the packet is of bytes
    pub last :
        ((k : ℕ) → get_or p k 0 < 0x100) → (f : Fields) (i : ℕ) → Passes f → FirstAt (is_of f.key f.event) es i
        → (get_or es i blank).sequence ≡ 65_535 → a ≡ refuses 10 0
    -- "A swept event counts as new.": an event with an entry at k, all its entries being stale at the sweep's time
    pub swept :
        (time : ℕ) (old : List Entry) → es ≡ swept_all time old → (f : Fields) → Passes f
        → (k : ℕ) → k < length old → is_of f.key f.event (get_or old k blank) ≡ true
        → ((j : ℕ) → j < length old → is_of f.key f.event (get_or old j blank) ≡ true → is_stale time (get_or old j blank) ≡ true)
        → (i : ℕ) × New f i

-- the answer that a number stands for: 0 is acceptance
abbrev pub answer_of : ℕ → Answer Prim.Unit
answer_of zero = gives tt
answer_of (suc n) = refuses (suc n) 0
