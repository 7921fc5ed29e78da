-- The codes that texts say, by their numbers in the schema's lists.
use Rattle.std.specs.Prelude.{List, ℕ}
use Rattle.codes.specs.declared.MessageType.{MessageType}
use Rattle.codes.specs.declared.Status.{Status}
use Rattle.codes.specs.declared.Scope.{Scope}
use Rattle.codes.specs.declared.Urgency.{Urgency}
use Rattle.codes.specs.declared.Severity.{Severity}
use Rattle.codes.specs.declared.Certainty.{Certainty}
use Rattle.codes.specs.Lists as list
use Rattle.codes.specs.Lists.{code_of}
use Rattle.codes.specs.Values.{message_at, status_at, scope_at, urgency_at, severity_at, certainty_at}

abbrev pub message_of : List ℕ → MessageType
message_of t = message_at (code_of list.msg_type t)

abbrev pub status_of : List ℕ → Status
status_of t = status_at (code_of list.status t)

abbrev pub scope_of : List ℕ → Scope
scope_of t = scope_at (code_of list.scope t)

abbrev pub urgency_of : List ℕ → Urgency
urgency_of t = urgency_at (code_of list.urgency t)

abbrev pub severity_of : List ℕ → Severity
severity_of t = severity_at (code_of list.severity t)

abbrev pub certainty_of : List ℕ → Certainty
certainty_of t = certainty_at (code_of list.certainty t)
