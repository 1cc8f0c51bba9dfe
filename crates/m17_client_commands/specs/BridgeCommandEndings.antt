-- How `bridge` ends, among all the ways that a run may. It refuses no input.
use Rattle.m17_print.specs.declared.ending.Ending.{Ending}
use Rattle.m17_print.specs.declared.ending.Ending.TheVariants as endings
use Rattle.m17_print.specs.declared.ending.NoReason.{NoReason}
use Rattle.m17_client_commands.specs.declared.bridge_command_ending.BridgeEnding.{BridgeEnding}
use Rattle.m17_client_commands.specs.declared.bridge_command_ending.BridgeEnding.TheVariants.{Finished, LinkLost, WriteFailed, PortFailed}

abbrev pub bridge_ending : BridgeEnding → Ending NoReason
bridge_ending Finished = endings.Finished
bridge_ending LinkLost = endings.LinkLost
bridge_ending WriteFailed = endings.WriteFailed
bridge_ending PortFailed = endings.PortFailed
