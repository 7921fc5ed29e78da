-- What the reader's functions give, by the definitions of reading (sheet/specs/Reading). The functions of this crate alone use it.
use Rattle.std.specs.Prelude.{List, ℕ}
use Rattle.sheet.specs.declared.Found.{Found}
use Rattle.sheet.specs.declared.Found.TheVariants as found
use Rattle.sheet.specs.Reading.{from_sender, from_name, cap_of, span_at}

-- a CAP sentence that stands at the offset i
abbrev pub cap_at : ℕ → List ℕ → Found
cap_at i l = found.Cap (cap_of l) (span_at i l (from_sender l)) (span_at i l (from_name l))
