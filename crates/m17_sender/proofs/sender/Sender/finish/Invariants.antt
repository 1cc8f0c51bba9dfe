use Rattle.m17_sender.specs.Ready.{IsShaped}
use Rattle.m17_sender.specs.SoFar.{at_rest, GoesOn}
use Rattle.m17_sender.proofs.sender.Sender.finish.Given as goal

abbrev pub invariant-loop : goal.invariant-loop
invariant-loop g l = record {
  shaped : IsShaped l.self;
  goes_on : GoesOn g.M.Mouth.told
      (at_rest l.initial.self l.initial.kept.noted) (at_rest l.self l.kept.noted);
}
