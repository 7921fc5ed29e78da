-- What holds of every step: where it goes on, what its event says of the schema and of a text, or where it refuses. One walk along a step's cases.
use mathlib.Core.Path.{◌≡◌, refl, sym, ap, subst}
use mathlib.Core.Bool.{Bool, true, false, cond, ◌||◌}
use mathlib.Core.List.{List, []}
use Prim.Native.Nat.{ℕ, zero, suc, ◌+◌, ◌≤◌, ◌<◌}
use Prim.Native.Char.{code}
use native.Mathlib.Omega.{arith}
use borrow.Author.Tests.{leb-true, leb-false, eqb-true, eqb-false}
use lib.Dec.{eqb, leb}
use lib.ListN.{length, get_or, drop}
use Rattle.std.specs.Prelude.{Option, Some, None, is_some, is_none, Result, Ok, Err}
use Rattle.text.specs.Ascii.{ascii}
use Rattle.text.specs.Logic.{cond_cases, and_left, or_none, eql}
use Rattle.text.specs.Parts.{starts_with, part}
use Rattle.text.proofs.Parts.{part_none}
use Rattle.xml_tags.specs.declared.Tail.{Tail}
use Rattle.xml_tags.specs.declared.Tail.TheVariants as tail
use Rattle.xml_tags.specs.declared.Binding.{Binding}
use Rattle.xml_tags.specs.declared.NameSpaceError.{NameSpaceError}
use Rattle.xml_tags.specs.declared.NameSpaceError.TheVariants as space
use Rattle.xml.specs.declared.ContentError.{ContentError}
use Rattle.xml.specs.declared.ContentError.TheVariants as content
use Rattle.xml.specs.declared.CommentError.{CommentError}
use Rattle.xml.specs.declared.CommentError.TheVariants as comment
use Rattle.xml_tags.specs.Attributes.{name_space}
use Rattle.xml.specs.Comments as comments
use Rattle.xml_tags.specs.Tags as tags
use Rattle.xml.specs.Texts as texts
use Rattle.xml.proofs.Bounds.{comment_within, clean_within, clean_at, fault_within}
use Rattle.xml_tags.proofs.Bounds.{tail_open, tail_empty, name_space_within}
use Rattle.schema.specs.Classes as class
use Rattle.schema.specs.Sequences.{next_of, container_of, before, over}
use Rattle.rules.specs.Texts.{text_rule}
use Rattle.document.specs.declared.Mode.{Mode}
use Rattle.document.specs.declared.Event.{Event}
use Rattle.document.specs.declared.Event.TheVariants.{Silent, Opened, Text, Closed}
use Rattle.document.specs.Steps.{Step, Next, Done, Refused}
use Rattle.document.specs.Elements.{starts, total}
use Rattle.document.specs.Tags.{moved, max_infos, after_prefix, name_in, ruled, text_step, enter_step, is_misplaced, open_step, empty_step, other_step, bound_step, alert_step, is_alert, start_step, close_step, is_right_end, end_step, name_at, ended_step, tag_end_step, tag_step}
use Rattle.document.specs.Constructs.{comment_step, construct_step, after_space, step_of}
use Rattle.document.specs.Documents.{elements_of}
use Rattle.document.proofs.Numbers.{IsNumber, rule_number}

-- ---- what holds of a step

-- the state after an event, by the table
abbrev pub state_after : ℕ → Event → ℕ
state_after state Silent = state
state_after state (Opened c p) = next_of state c
state_after state (Text c from until) = next_of state c
state_after state (Closed c) = next_of state 0

-- a leaf's text, from one offset to another
pub record Whole (l : List ℕ) (c from until : ℕ) : Type 0 where
  pub leaf : class.last_container < c
  pub rule : text_rule c (part l from until) ≡ 0
  pub ordered : from ≤ until
  pub inside : until ≤ length l
  pub clean : (i : ℕ) → from ≤ i → i < until → texts.is_fault (drop i l) ≡ false

-- what holds of an event in a state
abbrev pub SoundEvent : List ℕ → ℕ → Event → Type 0
SoundEvent l state Silent = Prim.Unit
SoundEvent l state (Opened c p) = (0 < c) × (c ≤ class.last_container)
SoundEvent l state (Text c from until) = Whole l c from until
SoundEvent l state (Closed c) = c ≡ container_of state

-- what holds of a step on: a mode, and the mode and event after a construct
pub record Onward (l : List ℕ) (m m' : Mode) (e : Event) : Type 0 where
  pub later : m.at < m'.at
  pub within : m'.at ≤ length l
  pub follows : m'.state ≡ state_after m.state e
  pub counts : m'.infos ≡ m.infos + total (elements_of l e)
  pub limited : m.infos ≤ max_infos → m'.infos ≤ max_infos
  pub event : SoundEvent l m.state e

-- what holds of a refusal: its offset lies in the document or at its length, and its number is in the list
abbrev pub Refusal : List ℕ → (number offset : ℕ) → Type 0
Refusal l n p = (p ≤ length l) × IsNumber n

abbrev pub SoundStep : List ℕ → Mode → Step → Type 0
SoundStep l m (Next m' e) = Onward l m m' e
SoundStep l m Done = m.state ≡ over
SoundStep l m (Refused n p) = Refusal l n p

-- ---- the walk

-- an element that is not misplaced
pub record Placed (m : Mode) (c : ℕ) : Type 0 where
  pub known : c ≡ 0 → ⊥
  pub outside : is_some m.leaf ≡ false
  pub follows : next_of m.state c ≡ 0 → ⊥

pub placed : (m : Mode) (c : ℕ) → is_misplaced m c ≡ false → Placed m c
placed m c e =
    let p = or_none (eqb c 0 || is_some m.leaf) (eqb (next_of m.state c) 0) e in
    let q = or_none (eqb c 0) (is_some m.leaf) p.0 in
    record { known = eqb-false c 0 q.0; outside = q.1; follows = eqb-false (next_of m.state c) 0 p.1 }

module _ (l : List ℕ) (m : Mode) where
  cases : (t : Bool) (x y : Step) → (t ≡ true → SoundStep l m x) → (t ≡ false → SoundStep l m y) → SoundStep l m (cond t x y)
  cases = cond_cases (SoundStep l m)

  -- on to another offset, with the infos as they are
  on :
      (next state : ℕ) (leaf : Option ℕ) (e : Event) → m.at < next → next ≤ length l → state ≡ state_after m.state e
      → total (elements_of l e) ≡ 0 → SoundEvent l m.state e → Onward l m (moved m next state leaf) e
  on next state leaf e g k r n t =
      record { later = g; within = k; follows = r; counts = omega (arith, n); limited = λ f. f; event = t }

module _ (l : List ℕ) (m : Mode) (inside : m.at < length l) where
  ruled_sound :
      (leaf : Option ℕ) (c from until number : ℕ) → m.at < from → class.last_container < c → number ≡ text_rule c (part l from until)
      → from ≤ until → until ≤ length l → ((i : ℕ) → from ≤ i → i < until → texts.is_fault (drop i l) ≡ false)
      → SoundStep l m (ruled m (next_of m.state c) leaf c from until number)
  unfolding starts
  ruled_sound leaf c from until zero g b r o k f =
      on l m until (next_of m.state c) leaf (Text c from until) (omega arith) k refl refl
      (record { leaf = b; rule = sym r; ordered = o; inside = k; clean = f })
  ruled_sound leaf c from until (suc n) g b r o k f = (omega arith, rule_number c n (part l from until) r)

  text_sound :
      (c from : ℕ) → m.at < from → class.last_container < c → (r : Result ℕ ContentError) → texts.content l from ≡ r
      → SoundStep l m (text_step l m (next_of m.state c) c from r)
  text_sound c from g b (Ok e) p =
      let k = clean_within l from e p in
      ruled_sound (Some c) c from e (text_rule c (part l from e)) g b refl k.0 (omega arith) (clean_at l from e p)
  text_sound c from g b (Err (content.Fault q)) p = let k = fault_within l from q p in (omega arith, tt)
  text_sound c from g b (Err content.Unended) p = (omega arith, tt)

  enter_sound : (c next : ℕ) → m.at < next → next ≤ length l → (0 < c) × (c ≤ class.last_container) → SoundStep l m (enter_step m (next_of m.state c) c next)
  unfolding starts
  enter_sound c next g k b =
      cases l m (eqb c class.info) _ _
      (λ e.
      cases l m (leb max_infos m.infos) _ _ (λ t. (omega arith, tt))
      (λ t.
      record {
        later = g;
        within = k;
        follows = refl;
        counts = rw e refl;
        limited = λ f. omega (arith, leb-false max_infos m.infos t);
        event = b;
      }))
      (λ e. record { later = g; within = k; follows = refl; counts = rw e (omega arith); limited = λ f. f; event = b })

  open_sound : (c next : ℕ) → m.at < next → next ≤ length l → SoundStep l m (open_step l m c next)
  unfolding open_step
  open_sound c next g k =
      cases l m (is_misplaced m c) _ _ (λ e. (omega arith, tt)) λ e.
      cases l m (leb c class.last_container) _ _
      (λ t. enter_sound c next g k (omega (arith, (placed m c e).known), leb-true c class.last_container t))
      (λ t. text_sound c next g (leb-false c class.last_container t) (texts.content l next) refl)

  empty_sound : (c next : ℕ) → m.at < next → next ≤ length l → SoundStep l m (empty_step m c next)
  unfolding empty_step
  empty_sound c next g k =
      cases l m (is_misplaced m c || leb c class.last_container) _ _ (λ e. (omega arith, tt)) λ e.
      ruled_sound None c next next (text_rule c []) g (leb-false c class.last_container (or_none (is_misplaced m c) (leb c class.last_container) e).1)
      (ap (text_rule c) (part_none l next next (omega arith))) (omega arith) k
      (λ i a b. absurd (omega arith))

  other_sound : (name : List ℕ) (n : ℕ) → m.at < n → (t : Option Tail) → tags.tail l n ≡ t → SoundStep l m (other_step l m name t)
  other_sound name n g (Some (tail.Open next)) p =
      let k = tail_open l n next p in
      open_sound (class.class_of (name_in l m name)) next (omega arith) k.1
  other_sound name n g (Some (tail.Empty next)) p =
      let k = tail_empty l n next p in
      empty_sound (class.class_of (name_in l m name)) next (omega arith) k.1
  other_sound name n g None p = (omega arith, tt)

  bound_sound : (name : List ℕ) (b : Binding) → m.at < b.next → b.next ≤ length l → m.state ≡ before → SoundStep l m (bound_step l m name b)
  unfolding bound_step starts
  bound_sound name b g k q =
      cases l m (eql (after_prefix (part l b.from b.until) name) (class.name_of class.alert)) _ _
      (λ e.
      record {
        later = g;
        within = k;
        follows = rw q;
        counts = omega arith;
        limited = λ f. f;
        event = (omega arith, omega arith);
      })
      (λ e. (omega arith, tt))

  alert_sound :
      (name : List ℕ) (n : ℕ) → m.at < n → m.state ≡ before → (r : Result Binding NameSpaceError) → name_space l n ≡ r
      → SoundStep l m (alert_step l m name r)
  alert_sound name n g q (Ok b) e =
      let k = name_space_within l n b e in
      bound_sound name b (omega arith) k.1 q
  alert_sound name n g q (Err space.Empty) e = (omega arith, tt)
  alert_sound name n g q (Err space.Fault) e = (omega arith, tt)

  start_sound : (name : List ℕ) (n : ℕ) → m.at < n → SoundStep l m (start_step l m name n)
  unfolding start_step is_alert
  start_sound name n g =
      cases l m (eqb (length name) 0 || eqb m.state over) _ _ (λ e. (omega arith, tt)) λ e.
      cases l m (is_alert m name) _ _
      (λ f. alert_sound name n g (eqb-true m.state before (and_left (eqb m.state before) _ f)) (name_space l n) refl)
      (λ f. other_sound name n g (tags.tail l n) refl)

  close_sound : (next : ℕ) → m.at < next → next ≤ length l → SoundStep l m (close_step m next)
  unfolding close_step starts
  close_sound next g k =
      cases l m (is_some m.leaf) _ _ (λ e. on l m next m.state None Silent g k refl refl tt) λ e.
      cases l m (eqb (next_of m.state 0) 0) _ _ (λ f. (omega arith, tt))
      (λ f. on l m next (next_of m.state 0) None (Closed (container_of m.state)) g k refl refl refl)

  end_sound : (name : List ℕ) (n : ℕ) → m.at < n → (t : Option Tail) → tags.tail l n ≡ t → SoundStep l m (end_step l m name t)
  end_sound name n g (Some (tail.Open next)) p =
      let k = tail_open l n next p in
      cases l m (is_right_end l m name) _ _ (λ e. close_sound next (omega arith) k.1) (λ e. (omega arith, tt))
  end_sound name n g (Some (tail.Empty next)) p = (omega arith, tt)
  end_sound name n g None p = (omega arith, tt)

  tag_end_sound : (f : Option ℕ) → SoundStep l m (tag_end_step l m f)
  unfolding ended_step
  tag_end_sound (Some e) =
      cases l m (starts_with (ascii "</") (drop m.at l)) _ _
      (λ t. let n = tags.name_end l (m.at + 2) in end_sound (name_at l (m.at + 2)) n (omega arith) (tags.tail l n) refl)
      (λ t. start_sound (name_at l (m.at + 1)) (tags.name_end l (m.at + 1)) (omega arith))
  tag_end_sound None = (omega arith, tt)

  comment_sound : (c : Result ℕ CommentError) → comments.comment l (m.at + 4) ≡ c → SoundStep l m (comment_step l m c)
  unfolding starts
  comment_sound (Ok next) p =
      let k = comment_within l (m.at + 4) next p in
      cases l m (is_none m.leaf) _ _ (λ e. on l m next m.state None Silent (omega arith) k.1 refl refl tt) (λ e. (omega arith, tt))
  comment_sound (Err comment.Fault) p = (omega arith, tt)
  comment_sound (Err comment.Unended) p = (omega arith, tt)

construct_sound : (l : List ℕ) (m : Mode) → SoundStep l m (construct_step l m)
unfolding construct_step tag_step
construct_sound l m =
    cases l m (leb (length l) m.at) _ _
    (λ t. cases l m (eqb m.state over) _ _ (λ e. eqb-true m.state over e) (λ e. (omega arith, tt)))
    λ t.
    let h = leb-false (length l) m.at t in
    cases l m (starts_with (ascii "<!--") (drop m.at l)) _ _ (λ f. comment_sound l m h (comments.comment l (m.at + 4)) refl) λ f.
    cases l m (eqb (get_or l m.at 0) (code "<")) _ _
    (λ g. tag_end_sound l m h (tags.tag_end None (m.at + 1) (drop (m.at + 1) l)))
    (λ g. (omega arith, tt))

-- so is a construct after white space
pub step_sound : (l : List ℕ) (m : Mode) → SoundStep l m (step_of l m)
unfolding step_of
step_sound l m = go (construct_step l (after_space l m)) (construct_sound l (after_space l m))
  where
    go : (r : Step) → SoundStep l (after_space l m) r → SoundStep l m r
    go (Next m' e) o =
        record {
          later = omega (arith, o.later);
          within = o.within;
          follows = o.follows;
          counts = o.counts;
          limited = o.limited;
          event = o.event;
        }
    go Done h = h
    go (Refused n p) h = h

-- what holds of a step on
pub onward : (l : List ℕ) (m m' : Mode) (e : Event) → step_of l m ≡ Next m' e → Onward l m m' e
onward l m m' e p = subst (SoundStep l m) p (step_sound l m)

-- what holds of a step's refusal
pub refusal : (l : List ℕ) (m : Mode) (n p : ℕ) → step_of l m ≡ Refused n p → Refusal l n p
refusal l m n p q = subst (SoundStep l m) q (step_sound l m)

-- the document ends after the alert only
pub ended : (l : List ℕ) (m : Mode) → step_of l m ≡ Done → m.state ≡ over
ended l m p = subst (SoundStep l m) p (step_sound l m)
