-- One construct of a document: a tag, a comment or the document's end, after any white space.
use Rattle.std.specs.Prelude.{cond, None, is_none, Result, Ok, Err, List, ℕ, ◌+◌, eqb, leb, length, get_or, drop}
use Prim.Native.Char.{code}
use Rattle.text.specs.Ascii.{ascii}
use Rattle.text.specs.Bytes.{spaces}
use Rattle.text.specs.Parts.{starts_with}
use Rattle.xml.specs.declared.CommentError.{CommentError}
use Rattle.xml.specs.declared.CommentError.TheVariants as comment
use Rattle.xml.specs.Comments as comments
use Rattle.schema.specs.Sequences.{over}
use Rattle.document.specs.declared.Mode.{Mode}
use Rattle.document.specs.declared.Event.TheVariants.{Silent}
use Rattle.document.specs.Steps.{Step, Next, Done, Refused}
use Rattle.document.specs.Tags.{moved, tag_step}

-- "Comments .. don't stand inside a text"
abbrev pub comment_step : List ℕ → Mode → Result ℕ CommentError → Step
comment_step l m (Ok next) = cond (is_none m.leaf) (Next (moved m next m.state None) Silent) (Refused 15 m.at)
comment_step l m (Err comment.Fault) = Refused 15 m.at
comment_step l m (Err comment.Unended) = Refused 15 (length l)

-- "for input that stops short (15), its length"
abbrev pub stop_step : List ℕ → Mode → Step
stop_step l m = cond (eqb m.state over) Done (Refused 15 (length l))

-- the construct at the mode's offset; a byte that starts none is "text outside leaf elements"
unfoldable pub construct_step : List ℕ → Mode → Step
construct_step l m =
    cond (leb (length l) m.at) (stop_step l m)
    (cond (starts_with (ascii "<!--") (drop m.at l)) (comment_step l m (comments.comment l (m.at + 4)))
    (cond (eqb (get_or l m.at 0) (code "<")) (tag_step l m)
    (Refused 15 m.at)))

-- white space may stand before every construct
abbrev pub after_space : List ℕ → Mode → Mode
after_space l m = moved m (m.at + spaces (drop m.at l)) m.state m.leaf

unfoldable pub step_of : List ℕ → Mode → Step
step_of l m = construct_step l (after_space l m)
