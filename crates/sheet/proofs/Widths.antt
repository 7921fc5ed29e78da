-- WARN sheets whose facts fit the packet's fields.
use mathlib.Core.Path.{◌≡◌, refl, sym}
use mathlib.Core.Bool.{Bool, true, false, ◌&&◌}
use Prim.Native.Nat.{◌<◌}
use borrow.Author.Tests.{lt-ltb}
use Rattle.words.specs.Duration.{is_lasting}
use Rattle.sheet.specs.declared.WarnFacts.{WarnFacts}
use Rattle.sheet.specs.Sheet.{warn, fits_packet, in_range}

and_true : (b : Bool) → b && true ≡ b
and_true true = refl
and_true false = refl

pub record WarnWidth (x : WarnFacts) : Type 0 where
  pub event : x.event < 0x1_0000_0000
  pub number : x.number < 0x1_0000
  pub origin : x.origin < 0x1_0000_0000
  pub hazard : x.hazard < 0x100
  pub kind : x.kind < 0x100
  pub urgency : x.urgency < 0x100
  pub severity : x.severity < 0x100
  pub certainty : x.certainty < 0x100
  pub response : x.response < 0x100

-- all facts but the lasting time keep to their ranges by their width
pub warn_in_range : (x : WarnFacts) → WarnWidth x → is_lasting x.lasting ≡ in_range (warn x)
unfolding in_range fits_packet
warn_in_range x h =
    rw (
      lt-ltb x.event 0x1_0000_0000 h.event,
      lt-ltb x.number 0x1_0000 h.number,
      lt-ltb x.origin 0x1_0000_0000 h.origin,
      lt-ltb x.hazard 0x100 h.hazard,
      lt-ltb x.kind 0x100 h.kind,
      lt-ltb x.urgency 0x100 h.urgency,
      lt-ltb x.severity 0x100 h.severity,
      lt-ltb x.certainty 0x100 h.certainty,
      lt-ltb x.response 0x100 h.response,
    )
    (sym (and_true (is_lasting x.lasting)))
