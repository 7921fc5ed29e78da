-- Tags, each tested in the order 15, 16, 14, and the text after a leaf's start tag, tested in the order 15, 14, 19, 17, 18, 22.
use Rattle.std.specs.Prelude.{Bool, cond, not, ◌&&◌, ◌||◌, Option, Some, None, is_some, unwrap_or, Result, Ok, Err, List, [], ◌∷◌, ◌++◌, ℕ, zero, suc, ◌+◌, eqb, leb, length, drop}
use Prim.Native.Char.{code}
use Rattle.text.specs.Ascii.{ascii}
use Rattle.text.specs.Logic.{eql}
use Rattle.text.specs.Parts.{starts_with, part}
use Rattle.xml_tags.specs.declared.Tail.{Tail}
use Rattle.xml_tags.specs.declared.Tail.TheVariants as tail
use Rattle.xml_tags.specs.declared.Binding.{Binding}
use Rattle.xml_tags.specs.declared.NameSpaceError.{NameSpaceError}
use Rattle.xml_tags.specs.declared.NameSpaceError.TheVariants as space
use Rattle.xml.specs.declared.ContentError.{ContentError}
use Rattle.xml.specs.declared.ContentError.TheVariants as content
use Rattle.text.specs.Bytes.{leading}
use Rattle.xml_tags.specs.Tags as tags
use Rattle.xml_tags.specs.Attributes.{name_space}
use Rattle.xml.specs.Texts as texts
use Rattle.schema.specs.Classes as class
use Rattle.schema.specs.Sequences.{next_of, container_of, before, over}
use Rattle.rules.specs.Texts.{text_rule}
use Rattle.rules.specs.declared.Fault.TheVariants as fault
use Rattle.document.specs.declared.Mode.{Mode}
use Rattle.document.specs.declared.Refusal.{Refusal}
use Rattle.document.specs.declared.Event.TheVariants.{Silent, Opened, Text, Closed}
use Rattle.document.specs.Steps.{Step, Next, Refused}

-- the mode at another offset, in a state and a leaf
abbrev pub moved : Mode → (at state : ℕ) → Option ℕ → Mode
moved m at state leaf =
    record { at = at; state = state; leaf = leaf; infos = m.infos; prefix_start = m.prefix_start; prefix_end = m.prefix_end }

-- ---- names

-- "every tag then carries that prefix, or none": a tag's name after the document's prefix; empty, which no element is called, where it lacks it
abbrev pub after_prefix : List ℕ → List ℕ → List ℕ
after_prefix [] name = name
after_prefix (b ∷ p) name = cond (starts_with ((b ∷ p) ++ ascii ":") name) (drop (length (b ∷ p) + 1) name) []

-- a tag's name under the mode's prefix
abbrev pub name_in : List ℕ → Mode → List ℕ → List ℕ
name_in l m name = after_prefix (part l m.prefix_start m.prefix_end) name

-- ---- a leaf

-- a text with the number that its rule gives: "for a text's content, the byte after its start tag".
-- leaf: the class whose end tag is due after it, if one is
abbrev pub ruled : Mode → (state : ℕ) (leaf : Option ℕ) (class from until number : ℕ) → Step
ruled m state leaf c from until zero = Next (moved m until state leaf) (Text c from until)
ruled m state leaf c from until (suc n) = Refused (suc n) from

abbrev pub text_step : List ℕ → Mode → (state class from : ℕ) → Result ℕ ContentError → Step
text_step l m state c from (Ok e) = ruled m state (Some c) c from e (text_rule c (part l from e))
text_step l m state c from (Err (content.Fault p)) = Refused 15 p
text_step l m state c from (Err content.Unended) = Refused 15 (length l)

-- ---- a container

-- the mode after a container's start tag, which ends before next
abbrev pub entered : Mode → (state infos next : ℕ) → Mode
entered m state infos next =
    record { at = next; state = state; leaf = None; infos = infos; prefix_start = m.prefix_start; prefix_end = m.prefix_end }

-- 14: "a 17th info"
abbrev pub max_infos : ℕ
max_infos = 16

-- a container's start tag
abbrev pub enter_step : Mode → (state class next : ℕ) → Step
enter_step m state c next =
    cond (eqb c class.info)
    (cond (leb max_infos m.infos) (Refused 14 m.at) (Next (entered m state (m.infos + 1) next) (Opened c m.at)))
    (Next (entered m state m.infos next) (Opened c m.at))

-- ---- start tags

-- 16: "element unknown, misplaced, repeated": class 0 is unknown, in a leaf nothing may stand, and elsewhere what the table says
abbrev pub is_misplaced : Mode → ℕ → Bool
is_misplaced m c = eqb c 0 || is_some m.leaf || eqb (next_of m.state c) 0

-- the state after the start of an element that may stand here, or the refusal
abbrev pub next_state : Mode → ℕ → Result ℕ Refusal
next_state m c = cond (is_misplaced m c) (Err (record { fault = fault.Element; offset = m.at })) (Ok (next_of m.state c))

-- a start tag, which ends before next
unfoldable pub open_step : List ℕ → Mode → (class next : ℕ) → Step
open_step l m c next =
    cond (is_misplaced m c) (Refused 16 m.at)
    (cond (leb c class.last_container) (enter_step m (next_of m.state c) c next)
    (text_step l m (next_of m.state c) c next (texts.content l next)))

-- "an empty tag is an empty text"; in every container something is required: "for something missing, its container's end or empty tag"
unfoldable pub empty_step : Mode → (class next : ℕ) → Step
empty_step m c next =
    cond (is_misplaced m c || leb c class.last_container) (Refused 16 m.at)
    (ruled m (next_of m.state c) None c next next (text_rule c []))

-- a start tag other than the alert's, by its name and what ends it; 15: "Other tags have no attribute"
abbrev pub other_step : List ℕ → Mode → List ℕ → Option Tail → Step
other_step l m name (Some (tail.Open next)) = open_step l m (class.class_of (name_in l m name)) next
other_step l m name (Some (tail.Empty next)) = empty_step m (class.class_of (name_in l m name)) next
other_step l m name None = Refused 15 m.at

-- "The alert start tag has one attribute only"; its own name stands under the prefix that it binds, and an empty alert misses something
unfoldable pub bound_step : List ℕ → Mode → List ℕ → Binding → Step
bound_step l m name b =
    cond (eql (after_prefix (part l b.from b.until) name) (class.name_of class.alert))
    (Next (record { at = b.next; state = next_of before class.alert; leaf = None; infos = m.infos; prefix_start = b.from; prefix_end = b.until })
    (Opened class.alert m.at))
    (Refused 16 m.at)

abbrev pub alert_step : List ℕ → Mode → List ℕ → Result Binding NameSpaceError → Step
alert_step l m name (Ok b) = bound_step l m name b
alert_step l m name (Err space.Empty) = Refused 16 m.at
alert_step l m name (Err space.Fault) = Refused 15 m.at

-- what stands before the first ":" of a tag's name is its prefix; the rest, or all, is its local name
abbrev pub is_before_colon : ℕ → Bool
is_before_colon b = not (eqb b (code ":"))

abbrev local_from : List ℕ → ℕ → List ℕ
local_from name n = cond (starts_with (ascii ":") (drop n name)) (drop (n + 1) name) name

unfoldable pub local_name : List ℕ → List ℕ
local_name name = local_from name (leading is_before_colon name)

-- the alert start tag is the document's first tag, if its local name is alert
unfoldable pub is_alert : Mode → List ℕ → Bool
is_alert m name = eqb m.state before && eql (local_name name) (class.name_of class.alert)

-- a start tag whose name ends at n; 15: "a tag name empty", as that of DOCTYPE, CDATA and instructions is, and "a tag after the alert's end"
unfoldable pub start_step : List ℕ → Mode → List ℕ → ℕ → Step
start_step l m name n =
    cond (eqb (length name) 0 || eqb m.state over) (Refused 15 m.at)
    (cond (is_alert m name) (alert_step l m name (name_space l n)) (other_step l m name (tags.tail l n)))

-- ---- end tags

-- the element whose end tag is due, 0 for none
abbrev pub open_class : Mode → ℕ
open_class m = unwrap_or m.leaf (container_of m.state)

-- a right end tag: "for something missing, its container's end"
unfoldable pub close_step : Mode → ℕ → Step
close_step m next =
    cond (is_some m.leaf) (Next (moved m next m.state None) Silent)
    (cond (eqb (next_of m.state 0) 0) (Refused 16 m.at)
    (Next (moved m next (next_of m.state 0) None) (Closed (container_of m.state))))

-- "a wrong end tag"
abbrev pub is_right_end : List ℕ → Mode → List ℕ → Bool
is_right_end l m name = not (eqb (open_class m) 0) && eql (name_in l m name) (class.name_of (open_class m))

abbrev pub end_step : List ℕ → Mode → List ℕ → Option Tail → Step
end_step l m name (Some (tail.Open next)) = cond (is_right_end l m name) (close_step m next) (Refused 15 m.at)
end_step l m name (Some (tail.Empty next)) = Refused 15 m.at
end_step l m name None = Refused 15 m.at

-- ---- any tag

-- the name that starts at an offset
abbrev pub name_at : List ℕ → ℕ → List ℕ
name_at l from = part l from (tags.name_end l from)

-- where the name that starts at an offset ends, by the end of its tag; a tag without its end is refused
abbrev pub named_until : List ℕ → ℕ → Option ℕ → Result ℕ Refusal
named_until l from (Some e) = Ok (tags.name_end l from)
named_until l from None = Err (record { fault = fault.Form; offset = length l })

-- a tag that has an end: an end tag by its "/", else a start tag
unfoldable pub ended_step : List ℕ → Mode → Step
ended_step l m =
    cond (starts_with (ascii "</") (drop m.at l))
    (end_step l m (name_at l (m.at + 2)) (tags.tail l (tags.name_end l (m.at + 2))))
    (start_step l m (name_at l (m.at + 1)) (tags.name_end l (m.at + 1)))

-- "one of these .. without its end .. gives only 15 at the input's length"
abbrev pub tag_end_step : List ℕ → Mode → Option ℕ → Step
tag_end_step l m (Some e) = ended_step l m
tag_end_step l m None = Refused 15 (length l)

unfoldable pub tag_step : List ℕ → Mode → Step
tag_step l m = tag_end_step l m (tags.tag_end None (m.at + 1) (drop (m.at + 1) l))
