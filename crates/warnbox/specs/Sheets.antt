-- Sheets that are drawn from a part of a document or from a packet, or handed in; and what else the functions for C tell.
use Rattle.std.specs.Prelude.{ℕ, Result, Ok, Err}
use Rattle.text.specs.Answers.{Answer, gives, refuses}
use Rattle.sheet.specs.declared.Found.{Found}
use Rattle.warnbox.specs.declared.replies.Refused.{Refused}

-- what was drawn, or what was asked for beside it
abbrev pub drawn_answer : {A : Type 0} → Result A Refused → Answer A
drawn_answer (Ok x) = gives x
drawn_answer (Err r) = refuses r.number r.offset

-- the value that goes with a sheet: there is no more to tell
abbrev pub no_more : Found → ℕ
no_more x = 0
