-- The elements whose texts are codes (source document 007, clause 7.4), and their lists.
use Rattle.std.specs.Prelude.{Bool, true, false, cond, List, ℕ, eqb, Option, Some, None}
use Rattle.codes.specs.Lists as list
use Rattle.schema.specs.Classes as class

-- the code list of a class; None for a class without codes
abbrev pub list_of : ℕ → Option ℕ
list_of c =
    cond (eqb c class.status) (Some list.status)
    (cond (eqb c class.msg_type) (Some list.msg_type)
    (cond (eqb c class.scope) (Some list.scope)
    (cond (eqb c class.category) (Some list.category)
    (cond (eqb c class.response_type) (Some list.response_type)
    (cond (eqb c class.urgency) (Some list.urgency)
    (cond (eqb c class.severity) (Some list.severity)
    (cond (eqb c class.certainty) (Some list.certainty)
    None)))))))

-- whether a class has a list
abbrev pub is_list : Option ℕ → Bool
is_list (Some l) = true
is_list None = false

-- whether texts of a class are codes
abbrev pub has_codes : ℕ → Bool
has_codes c = is_list (list_of c)

-- the number of a text in a list; 0 where it isn't there
abbrev pub code_in : Option ℕ → List ℕ → ℕ
code_in (Some l) t = list.code_of l t
code_in None t = 0

-- the number of a text in the code list of a class; 0 where it isn't there
abbrev pub code_of : ℕ → List ℕ → ℕ
code_of c t = code_in (list_of c) t
