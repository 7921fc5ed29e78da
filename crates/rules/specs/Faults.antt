-- The refusals of documents, by their numbers.
use Rattle.std.specs.Prelude.{ℕ, Result, Ok, Err}
use Rattle.rules.specs.declared.Fault.{Fault}
use Rattle.rules.specs.declared.Fault.TheVariants.{TooLong, Form, Element, Code, Time, Name, Shape}

-- 14: too long, or too many infos; 15: "XML form"; 16: "element unknown, misplaced, repeated or missing"; 17: "code not in its list"; 18: "time";
-- 19: "sender or identifier empty or with a forbidden byte"; 22: "polygon or circle text"
abbrev pub fault_number : Fault → ℕ
fault_number TooLong = 14
fault_number Form = 15
fault_number Element = 16
fault_number Code = 17
fault_number Time = 18
fault_number Name = 19
fault_number Shape = 22

-- the number of what a rule says: 0 for a text that keeps to it
abbrev pub rule_number : Result (Unit {0}) Fault → ℕ
rule_number (Ok x) = 0
rule_number (Err f) = fault_number f
