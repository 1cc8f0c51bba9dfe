use Rattle.m17_receiver.specs.SoFar.{HasNotedSome}
use Rattle.m17_receiver.proofs.notes.pop_until_ready.Given as goal

abbrev pub invariant-loop : goal.invariant-loop
invariant-loop g l = HasNotedSome (l.initial.notes, l.initial.directory, l.initial.noted) (l.notes, l.directory, l.noted)
