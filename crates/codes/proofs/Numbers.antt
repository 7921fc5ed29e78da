-- Values and their numbers: each value has a number of its list, which gives it back.
use mathlib.Core.Path.{◌≡◌}
use mathlib.Core.Bool.{true}
use Prim.Native.Nat.{ℕ}
use Rattle.codes.specs.declared.MessageType.{MessageType}
use Rattle.codes.specs.declared.Status.{Status}
use Rattle.codes.specs.declared.Scope.{Scope}
use Rattle.codes.specs.declared.Urgency.{Urgency}
use Rattle.codes.specs.declared.Severity.{Severity}
use Rattle.codes.specs.declared.Certainty.{Certainty}
use Rattle.std.proofs.Common.{rules}
use Rattle.codes.specs.Lists as list
use Rattle.codes.specs.Lists.{lists, is_number}
use Rattle.codes.specs.Values.{message_number, status_number, scope_number, urgency_number, severity_number, certainty_number, message_at, status_at, scope_at, urgency_at, severity_at, certainty_at}

-- k is a number of the list l, and the value it gives is x
pub record Numbers {A : Type 0} (l : ℕ) (at : ℕ → A) (x : A) (k : ℕ) : Type 0 where
  pub listed : is_number l k ≡ true
  pub back : at k ≡ x

pub message_numbers : (x : MessageType) → Numbers list.msg_type message_at x (message_number x)
unfolding lists is_number
message_numbers x = record { listed = search rules; back = search rules }

pub status_numbers : (x : Status) → Numbers list.status status_at x (status_number x)
unfolding lists is_number
status_numbers x = record { listed = search rules; back = search rules }

pub scope_numbers : (x : Scope) → Numbers list.scope scope_at x (scope_number x)
unfolding lists is_number
scope_numbers x = record { listed = search rules; back = search rules }

pub urgency_numbers : (x : Urgency) → Numbers list.urgency urgency_at x (urgency_number x)
unfolding lists is_number
urgency_numbers x = record { listed = search rules; back = search rules }

pub severity_numbers : (x : Severity) → Numbers list.severity severity_at x (severity_number x)
unfolding lists is_number
severity_numbers x = record { listed = search rules; back = search rules }

pub certainty_numbers : (x : Certainty) → Numbers list.certainty certainty_at x (certainty_number x)
unfolding lists is_number
certainty_numbers x = record { listed = search rules; back = search rules }
