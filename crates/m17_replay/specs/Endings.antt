-- How `replay` ends, among all the ways that a run may.
use Rattle.m17_print.specs.declared.ending.Ending.{Ending}
use Rattle.m17_print.specs.declared.ending.Ending.TheVariants as endings
use Rattle.m17_replay.specs.declared.ending.ReplayEnding.{ReplayEnding}
use Rattle.m17_replay.specs.declared.ending.ReplayEnding.TheVariants.{Finished, LinkLost, Refused, CrewRefused, ReadFailed, WriteFailed}
use Rattle.m17_replay.specs.declared.reason.TraceReason.{TraceReason}

abbrev pub replay_ending : ReplayEnding → Ending TraceReason
replay_ending Finished = endings.Finished
replay_ending LinkLost = endings.LinkLost
replay_ending (Refused place reason) = endings.Refused place reason
replay_ending CrewRefused = endings.CrewRefused
replay_ending ReadFailed = endings.ReadFailed
replay_ending WriteFailed = endings.WriteFailed
