-- Each text of an accepted document keeps to its class's rule, is the part of the document that its offset and length say, and has no fault of form.
use mathlib.Core.Path.{◌≡◌, sym, ap}
use mathlib.Core.Bool.{false}
use mathlib.Core.List.{List}
use Prim.Native.Nat.{ℕ, ◌+◌, ◌-◌, ◌≤◌, ◌<◌}
use native.Mathlib.Omega.{arith}
use lib.ListN.{length, drop, length-drop}
use lib.Seq.{length-take-le}
use Rattle.text.specs.Parts.{part}
use Rattle.text.specs.Answers.{gives}
use Rattle.xml.specs.Texts.{is_fault}
use Rattle.schema.specs.Classes as class
use Rattle.rules.specs.Texts.{text_rule}
use Rattle.document.specs.declared.Event.{Event}
use Rattle.document.specs.declared.Event.TheVariants.{Silent, Opened, Text, Closed}
use Rattle.document.specs.Elements.{Element, opened, text, closed}
use Rattle.document.specs.Documents.{elements_of, document_of}
use Rattle.document.proofs.Events.{Whole, SoundEvent, onward}
use Rattle.document.proofs.Accepted.{Every, accepted_every}

-- a part inside a list is as long as its offsets say
part_length : (l : List ℕ) (from until : ℕ) → from ≤ until → until ≤ length l → from + length (part l from until) ≡ until
part_length l from until h k =
    let e = length-take-le (until - from) (drop from l) (rw (length-drop from l) (omega arith)) in
    omega arith

-- ---- from a rule of texts and containers

-- what holds of the text of each leaf, and of the class of each container
module _ (l : List ℕ) (P : Element → Type 0)
    (of_container : (c p : ℕ) → (0 < c) × (c ≤ class.last_container) → P (opened c p))
    (of-text : (c from until : ℕ) → Whole l c from until → P (text c from (part l from until)))
    (of_end : (c : ℕ) → P (closed c)) where
  event_every : (state : ℕ) (e : Event) → SoundEvent l state e → Every P (elements_of l e)
  event_every state Silent h = tt
  event_every state (Opened c p) h = (of_container c p h, tt)
  event_every state (Text c from until) h = (of-text c from until h, tt)
  event_every state (Closed c) h = (of_end c, tt)

  pub all_hold : (es : List Element) → document_of l ≡ gives es → Every P es
  all_hold = accepted_every P l (λ m m' e p. event_every m.state e (onward l m m' e p).event)

-- ---- every text keeps to its rule

abbrev pub Ruled : Element → Type 0
Ruled (opened c p) = Prim.Unit
Ruled (text c p t) = text_rule c t ≡ 0
Ruled (closed c) = Prim.Unit

pub all_ruled : (l : List ℕ) (es : List Element) → document_of l ≡ gives es → Every Ruled es
all_ruled l = all_hold l Ruled (λ c p h. tt) (λ c from until w. w.rule) (λ c. tt)

-- ---- every text is a part of the document

abbrev pub Shown : List ℕ → Element → Type 0
Shown l (opened c p) = Prim.Unit
Shown l (text c p t) = (t ≡ part l p (p + length t)) × (p + length t ≤ length l)
Shown l (closed c) = Prim.Unit

pub whole_shown : (l : List ℕ) (c from until : ℕ) → Whole l c from until → Shown l (text c from (part l from until))
whole_shown l c from until w =
    let e = part_length l from until w.ordered w.inside in
    (ap (part l from) (sym e), rw e w.inside)

pub all_shown : (l : List ℕ) (es : List Element) → document_of l ≡ gives es → Every (Shown l) es
all_shown l = all_hold l (Shown l) (λ c p h. tt) (whole_shown l) (λ c. tt)

-- ---- no text has a fault of form

abbrev pub Clean : List ℕ → Element → Type 0
Clean l (opened c p) = Prim.Unit
Clean l (text c p t) = (i : ℕ) → p ≤ i → i < p + length t → is_fault (drop i l) ≡ false
Clean l (closed c) = Prim.Unit

pub whole_clean : (l : List ℕ) (c from until : ℕ) → Whole l c from until → Clean l (text c from (part l from until))
whole_clean l c from until w i h k = w.clean i h (rw (part_length l from until w.ordered w.inside) at k)

pub all_clean : (l : List ℕ) (es : List Element) → document_of l ≡ gives es → Every (Clean l) es
all_clean l = all_hold l (Clean l) (λ c p h. tt) (whole_clean l) (λ c. tt)

-- ---- containers start, leaves have texts

abbrev pub Sorted : Element → Type 0
Sorted (opened c p) = (0 < c) × (c ≤ class.last_container)
Sorted (text c p t) = class.last_container < c
Sorted (closed c) = Prim.Unit

pub all_sorted : (l : List ℕ) (es : List Element) → document_of l ≡ gives es → Every Sorted es
all_sorted l = all_hold l Sorted (λ c p h. h) (λ c from until w. w.leaf) (λ c. tt)
