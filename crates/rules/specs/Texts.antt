-- The rules of texts, by the element's class. A rule gives the number of the refusal, or 0 for a text that keeps to it.
use Rattle.std.specs.Prelude.{Bool, cond, ◌&&◌, ◌||◌, List, ℕ, eqb, leb, ltb, length}
use Rattle.text.specs.Answers.{answer_number}
use Rattle.time.specs.Time.{time_of}
use Rattle.sheet.specs.Sheet.{all_name_bytes}
use Rattle.polygon.specs.Polygon.{polygon_of}
use Rattle.circle.specs.Circle.{circle_of}
use Rattle.schema.specs.Classes as class
use Rattle.rules.specs.Codes.{code_of, has_codes}

-- 14: "sender or identifier over 128 bytes"; 19: "sender or identifier empty or with a forbidden byte"
unfoldable pub name_rule : List ℕ → ℕ
name_rule t = cond (ltb 128 (length t)) 14 (cond (leb 1 (length t) && all_name_bytes t) 0 19)

-- 17: "code not in its list"
unfoldable pub code_rule : ℕ → List ℕ → ℕ
code_rule c t = cond (eqb (code_of c t) 0) 17 0

-- 18: "time"
unfoldable pub time_rule : List ℕ → ℕ
time_rule t = answer_number (time_of t)

-- 22: "polygon or circle text"
unfoldable pub polygon_rule : List ℕ → ℕ
polygon_rule t = answer_number (polygon_of t)

unfoldable pub circle_rule : List ℕ → ℕ
circle_rule t = answer_number (circle_of t)

-- sent, effective, onset, expires
abbrev pub is_time : ℕ → Bool
is_time c = eqb c class.sent || eqb c class.effective || eqb c class.onset || eqb c class.expires

-- "All texts with no rule here are taken as they come"
unfoldable pub text_rule : ℕ → List ℕ → ℕ
text_rule c t =
    cond (eqb c class.identifier || eqb c class.sender) (name_rule t)
    (cond (has_codes c) (code_rule c t)
    (cond (is_time c) (time_rule t)
    (cond (eqb c class.polygon) (polygon_rule t)
    (cond (eqb c class.circle) (circle_rule t)
    0))))
