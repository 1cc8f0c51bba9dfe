use Rattle.std.proofs.Common.{◌<◌}
use Rattle.m17_sender.proofs.hint.Hint.next.Given as goal

abbrev pub invariant-loop-word : goal.invariant-loop-word
invariant-loop-word l = l.bit < 64
