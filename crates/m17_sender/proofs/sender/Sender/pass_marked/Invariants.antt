use Rattle.m17_sender.specs.Ready.{IsShaped}
use Rattle.m17_sender.specs.SoFar.{at_rest, GoesOn}
use Rattle.m17_sender.proofs.sender.Sender.pass_marked.Given as goal

abbrev pub invariant-loop-tried : goal.invariant-loop-tried
invariant-loop-tried g l = record {
  shaped : IsShaped l.self;
  goes_on : GoesOn g.M.Mouth.told
      (at_rest l.initial.self l.initial.kept.noted) (at_rest l.self l.kept.noted);
}
