-- Comments.
use Rattle.std.specs.Prelude.{Bool, ◌||◌, List, ℕ, ◌+◌, drop, Result, Ok, Err}
use Rattle.text.specs.Ascii.{ascii}
use Rattle.text.specs.Bytes.{led_by}
use Rattle.text.specs.Parts.{starts_with}
use Rattle.xml.specs.declared.ContentError.{ContentError}
use Rattle.xml.specs.declared.ContentError.TheVariants as content
use Rattle.xml.specs.declared.CommentError.{CommentError}
use Rattle.xml.specs.declared.CommentError.TheVariants.{Fault, Unended}
use Rattle.xml.specs.Bytes.{is_control}
use Rattle.xml.specs.Searches.{up_to}

-- "Comments hold no "--", don't close with "--->"": before the end, a "--" is a fault, and so is a control byte
abbrev pub is_fault : List ℕ → Bool
is_fault l = led_by is_control l || starts_with (ascii "--") l

-- "a comment to the first "-->" after its opening", which ends at an offset
abbrev pub comment_text : List ℕ → ℕ → Result ℕ ContentError
comment_text l at = up_to (starts_with (ascii "-->")) is_fault at (drop at l)

-- a comment is refused at its opening, wherever its fault is
abbrev pub comment_error : ContentError → CommentError
comment_error (content.Fault p) = Fault
comment_error content.Unended = Unended

abbrev pub comment_of : Result ℕ ContentError → Result ℕ CommentError
comment_of (Ok e) = Ok (e + 3)
comment_of (Err e) = Err (comment_error e)

unfoldable pub comment : List ℕ → ℕ → Result ℕ CommentError
comment l at = comment_of (comment_text l at)
