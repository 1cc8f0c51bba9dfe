use Rattle.m17_callsign.proofs.Folded.{IsSeen}
use Rattle.m17_callsign.proofs.encoding.sum_of_letters.Given as goal

abbrev pub invariant-loop-place : goal.invariant-loop-place
invariant-loop-place l = IsSeen l.letters l.place l.value l.unknown
