use Rattle.m17_receiver.specs.SoFar.{HasNotedSome}
use Rattle.m17_receiver.proofs.notes.pop_notes.Given as goal

abbrev pub invariant-notes : goal.invariant-notes
invariant-notes g l = HasNotedSome (l.initial.notes, l.initial.directory, l.initial.noted) (l.notes, l.directory, l.noted)
