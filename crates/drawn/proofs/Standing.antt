-- How often a class stands in a part of an accepted document.
use mathlib.Core.Path.{◌≡◌, refl}
use mathlib.Core.Bool.{Bool, true, false, cond, ◌&&◌, ◌||◌}
use mathlib.Core.List.{List, [], ◌∷◌}
use Prim.Native.Nat.{ℕ, ◌+◌, ◌≤◌, ◌<◌}
use native.Mathlib.Omega.{arith}
use borrow.Author.Tests.{eqb-true, ne_eqb, leb-true}
use lib.Dec.{T, eqb, leb, ltb}
use mir.Val.{bool_byte}
use Rattle.text.specs.Logic.{and_left, and_right, below, below_both}
use Rattle.text.specs.Answers.{gives}
use Rattle.schema.specs.Classes as class
use Rattle.schema.specs.Sequences.{particles, index_in, next_of, container_of, first_state, before, over, states, classes}
use Rattle.schema.proofs.Table.{inside}
use Rattle.document.specs.Elements.{Element, opened, text, closed, is_start, total}
use Rattle.document.specs.Documents.{document_of}
use Rattle.document.proofs.Sound.{Sorted}
use Rattle.parts.specs.Elements.{alert_of, part_of}
use Rattle.parts.proofs.AlongParts.{class_of, Ends, in_alert, in_part}

-- how many texts of a class stand among elements
abbrev pub is_text : ℕ → Element → Bool
is_text c (opened d p) = false
is_text c (text d p t) = eqb d c
is_text c (closed d) = false

unfoldable pub many : ℕ → List Element → ℕ
many c [] = 0
many c (x ∷ xs) = bool_byte (is_text c x) + many c xs

-- ---- how often a class stands

-- the bounds from a state on: low s and high s texts of the class c at least and at most, up to the next info
abbrev bounded : (c : ℕ) (low high : ℕ → ℕ) → ℕ → ℕ → ℕ → Bool
bounded c low high s d e =
    cond (eqb d class.info) (eqb (low s) 0)
    (leb (low s) (bool_byte (eqb d c) + low e) && leb (bool_byte (eqb d c) + high e) (high s))

-- tested at each entry of the table
abbrev Bounded : (c : ℕ) (low high : ℕ → ℕ) → Type 0
Bounded c low high =
    T (below states (λ (s : ℕ). below classes (λ (d : ℕ). eqb (next_of s d) 0 || bounded c low high s d (next_of s d))))

module _ (c : ℕ) (leaf : class.last_container < c) (low high : ℕ → ℕ) (t : Bounded c low high) (none_left : low over ≡ 0) where
  abbrev Between : ℕ → List Element → Type 0
  Between s es = (low s ≤ many c es) × (many c es ≤ high s)

  entry : (s d : ℕ) → (next_of s d ≡ 0 → ⊥) → bounded c low high s d (next_of s d) ≡ true
  entry s d n =
      let i = inside s d n in
      rw (ne_eqb (next_of s d) 0 n) at
      (below_both states classes (λ (s d : ℕ). eqb (next_of s d) 0 || bounded c low high s d (next_of s d)) t s d i.0 i.1)

  -- an element but an info's start
  step :
      (s d : ℕ) → (next_of s d ≡ 0 → ⊥) → eqb d class.info ≡ false
      → (low s ≤ bool_byte (eqb d c) + low (next_of s d)) × (bool_byte (eqb d c) + high (next_of s d) ≤ high s)
  step s d n e =
      let b = rw e at (entry s d n) in
      (leb-true _ _ (and_left _ _ b), leb-true _ _ (and_right (leb (low s) (bool_byte (eqb d c) + low (next_of s d))) _ b))

  at_end : Between over []
  unfolding many
  at_end = (omega (arith, none_left), omega arith)

  at_info : (s : ℕ) → (next_of s class.info ≡ 0 → ⊥) → Between s []
  unfolding many
  at_info s n = (omega (arith, eqb-true (low s) 0 (entry s class.info n)), omega arith)

  -- an element of another class, and a text
  other : (s d : ℕ) (es : List Element) → (next_of s d ≡ 0 → ⊥) → eqb d class.info ≡ false → d ≤ class.last_container → Between (next_of s d) es → Between s es
  other s d es n e h b =
      let p = rw (ne_eqb d c (λ q. omega (arith, leaf, q))) at (step s d n e) in
      (omega (arith, p, b), omega (arith, p, b))

  at_element :
      (s : ℕ) (x : Element) (es : List Element) → is_start class.info x ≡ false → Sorted x → Ends s x → (next_of s (class_of x) ≡ 0 → ⊥)
      → Between (next_of s (class_of x)) es → Between s (x ∷ es)
  unfolding many
  at_element s (opened d p) es e o z n b = let r = other s d es n e o.1 b in (omega (arith, r), omega (arith, r))
  at_element s (text d p t) es e o z n b =
      let r = step s d n (ne_eqb d class.info (λ q. omega (arith, o, q))) in
      (omega (arith, r, b), omega (arith, r, b))
  at_element s (closed d) es e o z n b = let r = other s 0 es n refl (omega arith) b in (omega (arith, r), omega (arith, r))

  module _ (l : List ℕ) (es : List Element) (d : document_of l ≡ gives es) where
    pub alert_count : Between before (alert_of es)
    alert_count = in_alert Between at_end at_info at_element l es d

    pub part_count : (n : ℕ) → 1 ≤ n → n ≤ total es → Between (first_state class.info) (part_of n es)
    part_count = in_part Between at_end at_info at_element l es d

-- ---- the classes that a sheet asks for

-- a class of the alert still comes before the alert, and in it before the class's particle
abbrev alert_comes : ℕ → ℕ → ℕ
alert_comes c s =
    bool_byte (eqb s before || (leb (first_state class.alert) s && ltb s (first_state class.alert + index_in c 1 (particles class.alert))))

-- a class of an info in it before the class's particle, and in an eventCode that stands before this
abbrev info_comes : ℕ → ℕ → ℕ
info_comes c s =
    bool_byte
    ((leb (first_state class.info) s && ltb s (first_state class.info + index_in c 1 (particles class.info)))
    || (ltb (index_in class.event_code 1 (particles class.info)) (index_in c 1 (particles class.info)) && eqb (container_of s) class.event_code))

-- "the sequence and counts are those of 007's schema": each stands once in the alert
pub record AlertOnce (es : List Element) : Type 0 where
  pub identifier : many class.identifier (alert_of es) ≡ 1
  pub sender : many class.sender (alert_of es) ≡ 1
  pub sent : many class.sent (alert_of es) ≡ 1
  pub status : many class.status (alert_of es) ≡ 1
  pub msg_type : many class.msg_type (alert_of es) ≡ 1
  pub scope : many class.scope (alert_of es) ≡ 1

-- once in each part, the two times once at most
pub record PartOnce (n : ℕ) (es : List Element) : Type 0 where
  pub urgency : many class.urgency (part_of n es) ≡ 1
  pub severity : many class.severity (part_of n es) ≡ 1
  pub certainty : many class.certainty (part_of n es) ≡ 1
  pub effective : many class.effective (part_of n es) ≤ 1
  pub expires : many class.expires (part_of n es) ≤ 1

module _ (l : List ℕ) (es : List Element) (d : document_of l ≡ gives es) where
  in_alert_once :
      (c : ℕ) → class.last_container < c → Bounded c (alert_comes c) (alert_comes c) → alert_comes c over ≡ 0 → alert_comes c before ≡ 1
      → many c (alert_of es) ≡ 1
  in_alert_once c h t o b = let r = alert_count c h (alert_comes c) (alert_comes c) t o l es d in omega (arith, r, b)

  pub alert_once : AlertOnce es
  unfolding next_of container_of
  alert_once = record {
    identifier = in_alert_once class.identifier (omega arith) tt refl refl;
    sender = in_alert_once class.sender (omega arith) tt refl refl;
    sent = in_alert_once class.sent (omega arith) tt refl refl;
    status = in_alert_once class.status (omega arith) tt refl refl;
    msg_type = in_alert_once class.msg_type (omega arith) tt refl refl;
    scope = in_alert_once class.scope (omega arith) tt refl refl;
  }

  module _ (n : ℕ) (some : 1 ≤ n) (there : n ≤ total es) where
    in_part_once :
        (c : ℕ) → class.last_container < c → Bounded c (info_comes c) (info_comes c) → info_comes c over ≡ 0 → info_comes c (first_state class.info) ≡ 1
        → many c (part_of n es) ≡ 1
    in_part_once c h t o b = let r = part_count c h (info_comes c) (info_comes c) t o l es d n some there in omega (arith, r, b)

    in_part_most :
        (c : ℕ) → class.last_container < c → Bounded c (λ (s : ℕ). 0) (info_comes c) → info_comes c (first_state class.info) ≡ 1
        → many c (part_of n es) ≤ 1
    in_part_most c h t b = let r = part_count c h (λ (s : ℕ). 0) (info_comes c) t refl l es d n some there in omega (arith, r, b)

    pub part_once : PartOnce n es
    unfolding next_of container_of
    part_once = record {
      urgency = in_part_once class.urgency (omega arith) tt refl refl;
      severity = in_part_once class.severity (omega arith) tt refl refl;
      certainty = in_part_once class.certainty (omega arith) tt refl refl;
      effective = in_part_most class.effective (omega arith) tt refl;
      expires = in_part_most class.expires (omega arith) tt refl;
    }
