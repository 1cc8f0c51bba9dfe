use Rattle.m17_replay.proofs.ToEnd.{IsOn}
use Rattle.m17_replay.proofs.hearing.count_to_end.Given as goal

-- so many entries did not end the link
abbrev pub invariant-loop-n : goal.invariant-loop-n
invariant-loop-n l = IsOn l.heard l.n l.faults
