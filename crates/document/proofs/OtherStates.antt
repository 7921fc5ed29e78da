-- A construct that is taken in one state of the table is taken in every state that allows its element, with the same event, and the mode after it
-- differs by the state only. One walk along a step's cases.
use mathlib.Core.Path.{◌≡◌, refl, sym, ap, subst, ◌∙◌}
use mathlib.Core.Bool.{Bool, true, false, cond, not, ◌&&◌, ◌||◌}
use mathlib.Core.List.{List, []}
use Prim.Native.Nat.{ℕ, zero, suc, ◌+◌}
use Prim.Native.Char.{code}
use borrow.Author.Tests.{eqb-true, eqb-false, ne_eqb}
use lib.Dec.{eqb, leb}
use lib.ListN.{length, get_or, drop}
use Rattle.std.specs.Prelude.{Option, Some, None, is_none, Result, Ok, Err}
use Rattle.text.specs.Ascii.{ascii}
use Rattle.text.specs.Logic.{by_test, cond_cases, and_left, eql, or_none}
use Rattle.text.specs.Parts.{starts_with, part}
use Rattle.xml_tags.specs.declared.Tail.{Tail}
use Rattle.xml_tags.specs.declared.Tail.TheVariants as tail
use Rattle.xml_tags.specs.declared.Binding.{Binding}
use Rattle.xml_tags.specs.declared.NameSpaceError.{NameSpaceError}
use Rattle.xml_tags.specs.declared.NameSpaceError.TheVariants as space
use Rattle.xml.specs.declared.ContentError.{ContentError}
use Rattle.xml.specs.declared.ContentError.TheVariants as content
use Rattle.xml.specs.declared.CommentError.{CommentError}
use Rattle.xml.specs.declared.CommentError.TheVariants as comment
use Rattle.xml_tags.specs.Attributes.{name_space}
use Rattle.xml.specs.Comments as comments
use Rattle.xml_tags.specs.Tags as tags
use Rattle.xml.specs.Texts as texts
use Rattle.schema.specs.Classes as class
use Rattle.schema.specs.Sequences.{next_of, container_of, before, over}
use Rattle.schema.proofs.Alerts.{alert_before, only_alert, over_none}
use Rattle.rules.specs.Texts.{text_rule}
use Rattle.document.specs.declared.Mode.{Mode}
use Rattle.document.specs.declared.Event.{Event}
use Rattle.document.specs.declared.Event.TheVariants.{Silent, Opened, Text, Closed}
use Rattle.document.specs.Steps.{Step, Next, Done, Refused}
use Rattle.document.specs.Tags.{moved, max_infos, after_prefix, name_in, ruled, text_step, enter_step, is_misplaced, open_step, empty_step, other_step, bound_step, alert_step, is_alert, start_step, close_step, is_right_end, end_step, name_at, ended_step, tag_end_step, tag_step}
use Rattle.document.specs.Constructs.{comment_step, stop_step, construct_step, after_space, step_of}
use Rattle.document.specs.Following.{in_state}
use Rattle.document.proofs.Events.{state_after, Placed, placed, onward}

-- a state allows the element of an event
abbrev pub Allows : ℕ → Event → Type 0
Allows s Silent = Prim.Unit
Allows s (Opened c p) = next_of s c ≡ 0 → ⊥
Allows s (Text c from until) = next_of s c ≡ 0 → ⊥
Allows s (Closed c) = (c ≡ container_of s) × (next_of s 0 ≡ 0 → ⊥)

-- a choice by the same test
both :
    (P : Step → Step → Type 0) (t : Bool) (x y x' y' : Step) → (t ≡ true → P x x') → (t ≡ false → P y y') → P (cond t x y) (cond t x' y')
both P true x y x' y' f g = f refl
both P false x y x' y' f g = g refl

-- a mode, and a state that is not its own
module _ (l : List ℕ) (m : Mode) (s : ℕ) (d : s ≡ m.state → ⊥) where
  -- the step in the mode, and in the state
  abbrev Agree : Step → Step → Type 0
  Agree (Next m' e) r = Allows s e → r ≡ Next (in_state (state_after s e) m') e
  Agree Done r = Prim.Unit
  Agree (Refused n p) r = Prim.Unit

  -- of an element of class c, which the state allows or not
  abbrev AgreeIn : ℕ → Step → Step → Type 0
  AgreeIn c (Next m' e) r = (Allows s e → next_of s c ≡ 0 → ⊥) × (r ≡ Next (in_state (state_after s e) m') e)
  AgreeIn c Done r = Prim.Unit
  AgreeIn c (Refused n p) r = Prim.Unit

  -- of an element other than the alert: a state that allows it is one of a container's
  abbrev AgreeInside : Step → Step → Type 0
  AgreeInside (Next m' e) r = Allows s e → ((s ≡ over → ⊥) × (s ≡ before → ⊥)) × (r ≡ Next (in_state (state_after s e) m') e)
  AgreeInside Done r = Prim.Unit
  AgreeInside (Refused n p) r = Prim.Unit

  ruled_agrees :
      (leaf : Option ℕ) (c from until number : ℕ)
      → AgreeIn c (ruled m (next_of m.state c) leaf c from until number) (ruled (in_state s m) (next_of s c) leaf c from until number)
  ruled_agrees leaf c from until zero = (λ n. n, refl)
  ruled_agrees leaf c from until (suc n) = tt

  text_agrees :
      (c from : ℕ) (r : Result ℕ ContentError)
      → AgreeIn c (text_step l m (next_of m.state c) c from r) (text_step l (in_state s m) (next_of s c) c from r)
  text_agrees c from (Ok e) = ruled_agrees (Some c) c from e (text_rule c (part l from e))
  text_agrees c from (Err (content.Fault p)) = tt
  text_agrees c from (Err content.Unended) = tt

  enter_agrees : (c next : ℕ) → AgreeIn c (enter_step m (next_of m.state c) c next) (enter_step (in_state s m) (next_of s c) c next)
  enter_agrees c next =
      both (AgreeIn c) (eqb c class.info) _ _ _ _
      (λ e. both (AgreeIn c) (leb max_infos m.infos) _ _ _ _ (λ t. tt) (λ t. (λ n. n, refl)))
      (λ e. (λ n. n, refl))

  -- a class that may follow in the mode's state and in the other
  inside : (c : ℕ) → Placed m c → (next_of s c ≡ 0 → ⊥) → (s ≡ over → ⊥) × (s ≡ before → ⊥)
  inside c p n = (
    λ e. n (ap (λ (x : ℕ). next_of x c) e ∙ over_none c),
    λ e.
        let z = (only_alert c (λ q. n (ap (λ (x : ℕ). next_of x c) e ∙ q))).0 in
        d (e ∙ sym (alert_before m.state (λ q. p.follows (ap (next_of m.state) z ∙ q)))),
  )

  -- behind a test that is false where the class may follow
  behind :
      (c : ℕ) → Placed m c → (t : Bool) → ((next_of s c ≡ 0 → ⊥) → t ≡ false) → (x y r : Step) → AgreeIn c x y → AgreeInside x (cond t r y)
  behind c p t f (Next m' e) y r h = λ a. let n = h.0 a in (inside c p n, rw (f n) h.1)
  behind c p t f Done y r h = tt
  behind c p t f (Refused a b) y r h = tt

  -- a class that may stand in the mode's state and may follow in the other is not misplaced there
  not_misplaced : (c : ℕ) → Placed m c → (next_of s c ≡ 0 → ⊥) → is_misplaced (in_state s m) c ≡ false
  not_misplaced c p n = rw (ne_eqb c 0 p.known, p.outside, ne_eqb (next_of s c) 0 n)

  -- an element that is not misplaced
  abbrev standing : Mode → (class next : ℕ) → Step
  standing m c next =
      cond (leb c class.last_container) (enter_step m (next_of m.state c) c next)
      (text_step l m (next_of m.state c) c next (texts.content l next))

  open_agrees : (c next : ℕ) → AgreeInside (open_step l m c next) (open_step l (in_state s m) c next)
  unfolding open_step
  open_agrees c next =
      cond_cases (λ (x : Step). AgreeInside x (open_step l (in_state s m) c next)) (is_misplaced m c) _ _ (λ e. tt)
      (λ e.
      let p = placed m c e in
      behind c p (is_misplaced (in_state s m) c) (not_misplaced c p) (standing m c next) (standing (in_state s m) c next) (Refused 16 m.at)
      (both (AgreeIn c) (leb c class.last_container) _ _ _ _ (λ t. enter_agrees c next) (λ t. text_agrees c next (texts.content l next))))

  empty_agrees : (c next : ℕ) → AgreeInside (empty_step m c next) (empty_step (in_state s m) c next)
  unfolding empty_step
  empty_agrees c next =
      cond_cases (λ (x : Step). AgreeInside x (empty_step (in_state s m) c next)) (is_misplaced m c || leb c class.last_container) _ _ (λ e. tt)
      (λ e.
      let o = or_none (is_misplaced m c) (leb c class.last_container) e in
      let p = placed m c o.0 in
      behind c p (is_misplaced (in_state s m) c || leb c class.last_container) (λ n. rw (not_misplaced c p n) o.1)
      (ruled m (next_of m.state c) None c next next (text_rule c [])) (ruled (in_state s m) (next_of s c) None c next next (text_rule c []))
      (Refused 16 m.at)
      (ruled_agrees None c next next (text_rule c [])))

  other_agrees : (name : List ℕ) (t : Option Tail) → AgreeInside (other_step l m name t) (other_step l (in_state s m) name t)
  other_agrees name (Some (tail.Open next)) = open_agrees (class.class_of (name_in l m name)) next
  other_agrees name (Some (tail.Empty next)) = empty_agrees (class.class_of (name_in l m name)) next
  other_agrees name None = tt

  -- the alert stands in one state only
  alert_agrees : (name : List ℕ) (q : Result Binding NameSpaceError) (r : Step) → m.state ≡ before → Agree (alert_step l m name q) r
  unfolding bound_step
  alert_agrees name (Ok b) r q =
      cond_cases (λ (x : Step). Agree x r) (eql (after_prefix (part l b.from b.until) name) (class.name_of class.alert)) _ _
      (λ e a. absurd (d (alert_before s a ∙ sym q)))
      (λ e. tt)
  alert_agrees name (Err space.Empty) r q = tt
  alert_agrees name (Err space.Fault) r q = tt

  start_agrees : (name : List ℕ) (n : ℕ) → Agree (start_step l m name n) (start_step l (in_state s m) name n)
  unfolding start_step is_alert
  start_agrees name n =
      cond_cases (λ (x : Step). Agree x (start_step l (in_state s m) name n)) (eqb (length name) 0 || eqb m.state over) _ _ (λ e. tt)
      (λ e.
      cond_cases (λ (x : Step). Agree x (start_step l (in_state s m) name n)) (is_alert m name) _ _
      (λ f. alert_agrees name (name_space l n) (start_step l (in_state s m) name n) (eqb-true m.state before (and_left (eqb m.state before) _ f)))
      (λ f.
      go (or_none (eqb (length name) 0) (eqb m.state over) e).0 (other_step l m name (tags.tail l n)) (other_agrees name (tags.tail l n))))
    where
      go :
          eqb (length name) 0 ≡ false → (x : Step) → AgreeInside x (other_step l (in_state s m) name (tags.tail l n))
          → Agree x (start_step l (in_state s m) name n)
      go e (Next m' v) h = λ a. let k = h a in rw (e, ne_eqb s over k.0.0, ne_eqb s before k.0.1) k.1
      go e Done h = tt
      go e (Refused p q) h = tt

  -- a leaf's end is taken in every state, a container's in each of its own in which nothing is missing
  right_end_agrees :
      (name : List ℕ) (next : ℕ)
      → Agree (cond (is_right_end l m name) (close_step m next) (Refused 15 m.at))
      (cond (is_right_end l (in_state s m) name) (close_step (in_state s m) next) (Refused 15 m.at))
  unfolding close_step
  right_end_agrees name next = go m.leaf refl
    where
      is_named : ℕ → Bool
      is_named c = not (eqb c 0) && eql (name_in l m name) (class.name_of c)

      of_container : ℕ → Step
      of_container c =
          cond (is_named c)
          (cond (eqb (next_of s 0) 0) (Refused 16 m.at) (Next (moved m next (next_of s 0) None) (Closed c)))
          (Refused 15 m.at)

      go :
          (leaf : Option ℕ) → m.leaf ≡ leaf
          → Agree (cond (is_right_end l m name) (close_step m next) (Refused 15 m.at))
          (cond (is_right_end l (in_state s m) name) (close_step (in_state s m) next) (Refused 15 m.at))
      go (Some c) q = rw q (both Agree (is_named c) _ _ _ _ (λ f a. refl) (λ f. tt))
      go None q =
          rw q
          (cond_cases (λ (x : Step). Agree x (of_container (container_of s))) (is_named (container_of m.state)) _ _
          (λ f.
          cond_cases (λ (x : Step). Agree x (of_container (container_of s))) (eqb (next_of m.state 0) 0) _ _ (λ g. tt)
          (λ g a. rw (← a.0, f, ne_eqb (next_of s 0) 0 a.1)))
          (λ f. tt))

  end_agrees : (name : List ℕ) (t : Option Tail) → Agree (end_step l m name t) (end_step l (in_state s m) name t)
  end_agrees name (Some (tail.Open next)) = right_end_agrees name next
  end_agrees name (Some (tail.Empty next)) = tt
  end_agrees name None = tt

  tag_end_agrees : (f : Option ℕ) → Agree (tag_end_step l m f) (tag_end_step l (in_state s m) f)
  unfolding ended_step
  tag_end_agrees (Some e) =
      both Agree (starts_with (ascii "</") (drop m.at l)) _ _ _ _
      (λ t. end_agrees (name_at l (m.at + 2)) (tags.tail l (tags.name_end l (m.at + 2))))
      (λ t. start_agrees (name_at l (m.at + 1)) (tags.name_end l (m.at + 1)))
  tag_end_agrees None = tt

  comment_agrees : (c : Result ℕ CommentError) → Agree (comment_step l m c) (comment_step l (in_state s m) c)
  comment_agrees (Ok next) = both Agree (is_none m.leaf) _ _ _ _ (λ e a. refl) (λ e. tt)
  comment_agrees (Err comment.Fault) = tt
  comment_agrees (Err comment.Unended) = tt

  construct_agrees : Agree (construct_step l m) (construct_step l (in_state s m))
  unfolding construct_step tag_step
  construct_agrees =
      both Agree (leb (length l) m.at) _ _ _ _
      (λ t. cond_cases (λ (x : Step). Agree x (stop_step l (in_state s m))) (eqb m.state over) _ _ (λ e. tt) (λ e. tt))
      λ t.
      both Agree (starts_with (ascii "<!--") (drop m.at l)) _ _ _ _ (λ f. comment_agrees (comments.comment l (m.at + 4))) λ f.
      both Agree (eqb (get_or l m.at 0) (code "<")) _ _ _ _
      (λ g. tag_end_agrees (tags.tag_end None (m.at + 1) (drop (m.at + 1) l)))
      (λ g. tt)

-- a construct that is taken in a mode is taken in every state that allows its element
pub other_state :
    (l : List ℕ) (m m' : Mode) (e : Event) (s : ℕ) → step_of l m ≡ Next m' e → Allows s e
    → step_of l (in_state s m) ≡ Next (in_state (state_after s e) m') e
unfolding step_of
other_state l m m' e s p a =
    by_test (eqb s m.state)
    (λ t.
    let z = eqb-true s m.state t in
    subst (λ (x : ℕ). step_of l (in_state x m) ≡ Next (in_state (state_after x e) m') e) (sym z)
    (p ∙ ap (λ (x : ℕ). Next (in_state x m') e) (onward l m m' e p).follows))
    (λ t.
    subst (λ (x : Step). Agree l (after_space l m) s (eqb-false s m.state t) x (step_of l (in_state s m))) p
    (construct_agrees l (after_space l m) s (eqb-false s m.state t)) a)
