-- What taking rules from an input tells where it has none to give.
use Rattle.std.specs.Prelude.{ℕ, List, Option, None, Some, Result, Ok, Err}
use Rattle.m17_io.specs.declared.fault.Fault.{Fault}
use Rattle.m17_io.specs.declared.fault.Fault.TheVariants.{Read}
use Rattle.m17_gate.specs.Text.{IsRefused}
use Rattle.m17_gate.specs.declared.refusal.Reason.{Reason}
use Rattle.m17_gate.specs.declared.refusal.Reason.TheVariants as parts
use Rattle.m17_gate.specs.declared.refusal.RulesRefusal.{RulesRefusal}
use Rattle.m17_gate.specs.declared.refusal.RulesRefusal.TheVariants as refusals
use Rattle.m17_gate.specs.declared.failure.RulesFailure.{RulesFailure}
use Rattle.m17_gate.specs.declared.failure.RulesFailure.TheVariants.{Refused, Device, NoMemory}
use Rattle.m17_gate.specs.declared.failure.RulesReason.{RulesReason}
use Rattle.m17_gate.specs.declared.failure.RulesReason.TheVariants.{Large, Act, Kind, Modules, Pattern}

-- the refusal of a text of rules that is told by this place and this reason
abbrev pub refusal_told : ℕ → RulesReason → RulesRefusal
refusal_told place Large = refusals.Large place
refusal_told place Act = refusals.Line place parts.Act
refusal_told place Kind = refusals.Line place parts.Kind
refusal_told place Modules = refusals.Line place parts.Modules
refusal_told place Pattern = refusals.Line place parts.Pattern

-- The text is refused at this place, for this reason: it is too large, or this is its first
-- refused line, and the reason names the first refused part of that.
abbrev pub RefusesRules : List ℕ → ℕ → RulesReason → Type 0
RefusesRules text place reason = IsRefused text (refusal_told place reason)

-- what a failure says of the text: where and why it is refused; a device that failed and want of
-- memory say nothing
abbrev pub SaysFailure : RulesFailure → List ℕ → Type 0
SaysFailure (Refused place reason) text = RefusesRules text place reason
SaysFailure (Device fault) text = Unit {0}
SaysFailure NoMemory text = Unit {0}

-- the device that failed, where taking rules ended so
abbrev pub fault_told : {T : Type 0} → Result T RulesFailure → Option Fault
fault_told (Ok _) = None
fault_told (Err (Refused place reason)) = None
fault_told (Err (Device fault)) = Some fault
fault_told (Err NoMemory) = None

-- For the code alone: the failure that a refusal is, and the reason that a part is refused for.
abbrev pub reason_of : Reason → RulesReason
reason_of parts.Act = Act
reason_of parts.Kind = Kind
reason_of parts.Modules = Modules
reason_of parts.Pattern = Pattern

abbrev pub failure_of : RulesRefusal → RulesFailure
failure_of (refusals.Large place) = Refused place Large
failure_of (refusals.Line place part) = Refused place (reason_of part)
failure_of refusals.ReadFault = Device Read
failure_of refusals.NoMemory = NoMemory
