-- How `talk` ends, among all the ways that a run may.
use Rattle.m17_print.specs.declared.ending.Ending.{Ending}
use Rattle.m17_print.specs.declared.ending.Ending.TheVariants as endings
use Rattle.m17_client_commands.specs.declared.talk_ending.TalkEnding.{TalkEnding}
use Rattle.m17_client_commands.specs.declared.talk_ending.TalkEnding.TheVariants.{Finished, LinkLost, BookFailed, Refused, ReadFailed, WriteFailed, PortFailed}
use Rattle.m17_client_commands.specs.declared.reason.ScriptReason.{ScriptReason}

abbrev pub talk_ending : TalkEnding → Ending ScriptReason
talk_ending Finished = endings.Finished
talk_ending LinkLost = endings.LinkLost
talk_ending BookFailed = endings.BookFailed
talk_ending (Refused place reason) = endings.Refused place reason
talk_ending ReadFailed = endings.ReadFailed
talk_ending WriteFailed = endings.WriteFailed
talk_ending PortFailed = endings.PortFailed
