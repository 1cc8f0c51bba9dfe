-- How a run ends that has no rules, among all the ways that a run may.
use Rattle.m17_io.specs.declared.fault.Fault.TheVariants.{Read, Write}
use Rattle.m17_print.specs.declared.ending.Ending.{Ending}
use Rattle.m17_print.specs.declared.ending.Ending.TheVariants as endings
use Rattle.m17_gate.specs.declared.failure.RulesFailure.{RulesFailure}
use Rattle.m17_gate.specs.declared.failure.RulesFailure.TheVariants.{Refused, Device, NoMemory}
use Rattle.m17_gate.specs.declared.failure.RulesReason.{RulesReason}

abbrev pub rules_ending : RulesFailure → Ending RulesReason
rules_ending (Refused place reason) = endings.Refused place reason
rules_ending (Device Read) = endings.ReadFailed
rules_ending (Device Write) = endings.WriteFailed
rules_ending NoMemory = endings.NoMemory
