-- What reading a script tells where it has none to give.
use Rattle.std.specs.Prelude.{ℕ, List, Option, None, Some, Result, Ok, Err}
use Rattle.m17_io.specs.declared.fault.Fault.{Fault}
use Rattle.m17_client_commands.specs.declared.reason.ScriptFailure.{ScriptFailure}
use Rattle.m17_client_commands.specs.declared.reason.ScriptFailure.TheVariants.{Refused, Device, NoMemory}
use Rattle.m17_client_commands.specs.Script.{RefusesScript}

-- what a failure says of the input: where and why it is refused; a device that failed and want of memory say nothing
abbrev pub SaysFailure : ScriptFailure → List ℕ → Type 0
SaysFailure (Refused place reason) input = RefusesScript input place reason
SaysFailure (Device fault) input = Unit {0}
SaysFailure NoMemory input = Unit {0}

-- the device that failed, where reading ended so
abbrev pub fault_told : {T : Type 0} → Result T ScriptFailure → Option Fault
fault_told (Ok _) = None
fault_told (Err (Refused place reason)) = None
fault_told (Err (Device fault)) = Some fault
fault_told (Err NoMemory) = None
