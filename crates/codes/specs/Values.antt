-- Values by their numbers, and their texts.
use Rattle.std.specs.Prelude.{List, [], ◌∷◌, ℕ, get_or}
use Rattle.codes.specs.declared.MessageType.{MessageType}
use Rattle.codes.specs.declared.MessageType.TheVariants as message
use Rattle.codes.specs.declared.Status.{Status}
use Rattle.codes.specs.declared.Status.TheVariants as status
use Rattle.codes.specs.declared.Scope.{Scope}
use Rattle.codes.specs.declared.Scope.TheVariants as scope
use Rattle.codes.specs.declared.Urgency.{Urgency}
use Rattle.codes.specs.declared.Urgency.TheVariants as urgency
use Rattle.codes.specs.declared.Severity.{Severity}
use Rattle.codes.specs.declared.Severity.TheVariants as severity
use Rattle.codes.specs.declared.Certainty.{Certainty}
use Rattle.codes.specs.declared.Certainty.TheVariants as certainty
use Rattle.codes.specs.Lists as list
use Rattle.codes.specs.Lists.{small_text}

-- ---- a value's number: its index in its list, counted from 1

abbrev pub message_number : MessageType → ℕ
message_number message.Alert = 1
message_number message.Update = 2
message_number message.Cancel = 3
message_number message.Ack = 4
message_number message.Error = 5

abbrev pub status_number : Status → ℕ
status_number status.Actual = 1
status_number status.Exercise = 2
status_number status.System = 3
status_number status.Test = 4
status_number status.Draft = 5

abbrev pub scope_number : Scope → ℕ
scope_number scope.Public = 1
scope_number scope.Restricted = 2
scope_number scope.Private = 3

abbrev pub urgency_number : Urgency → ℕ
urgency_number urgency.Immediate = 1
urgency_number urgency.Expected = 2
urgency_number urgency.Future = 3
urgency_number urgency.Past = 4
urgency_number urgency.Unknown = 5

abbrev pub severity_number : Severity → ℕ
severity_number severity.Extreme = 1
severity_number severity.Severe = 2
severity_number severity.Moderate = 3
severity_number severity.Minor = 4
severity_number severity.Unknown = 5

abbrev pub certainty_number : Certainty → ℕ
certainty_number certainty.Observed = 1
certainty_number certainty.Likely = 2
certainty_number certainty.Possible = 3
certainty_number certainty.Unlikely = 4
certainty_number certainty.Unknown = 5

-- ---- the value of a number; one that is none, 0 or past the list's end, gives the last value

abbrev pub message_at : ℕ → MessageType
message_at k = get_or (message.Error ∷ message.Alert ∷ message.Update ∷ message.Cancel ∷ message.Ack ∷ []) k message.Error

abbrev pub status_at : ℕ → Status
status_at k = get_or (status.Draft ∷ status.Actual ∷ status.Exercise ∷ status.System ∷ status.Test ∷ []) k status.Draft

abbrev pub scope_at : ℕ → Scope
scope_at k = get_or (scope.Private ∷ scope.Public ∷ scope.Restricted ∷ []) k scope.Private

abbrev pub urgency_at : ℕ → Urgency
urgency_at k = get_or (urgency.Unknown ∷ urgency.Immediate ∷ urgency.Expected ∷ urgency.Future ∷ urgency.Past ∷ []) k urgency.Unknown

abbrev pub severity_at : ℕ → Severity
severity_at k = get_or (severity.Unknown ∷ severity.Extreme ∷ severity.Severe ∷ severity.Moderate ∷ severity.Minor ∷ []) k severity.Unknown

abbrev pub certainty_at : ℕ → Certainty
certainty_at k = get_or (certainty.Unknown ∷ certainty.Observed ∷ certainty.Likely ∷ certainty.Possible ∷ certainty.Unlikely ∷ []) k certainty.Unknown

-- ---- the text of a value, in small letters

abbrev pub message_text : MessageType → List ℕ
message_text x = small_text list.msg_type (message_number x)

abbrev pub status_text : Status → List ℕ
status_text x = small_text list.status (status_number x)

abbrev pub scope_text : Scope → List ℕ
scope_text x = small_text list.scope (scope_number x)

abbrev pub urgency_text : Urgency → List ℕ
urgency_text x = small_text list.urgency (urgency_number x)

abbrev pub severity_text : Severity → List ℕ
severity_text x = small_text list.severity (severity_number x)

abbrev pub certainty_text : Certainty → List ℕ
certainty_text x = small_text list.certainty (certainty_number x)
