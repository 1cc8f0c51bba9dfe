use Rattle.m17_sender.specs.Ready.{IsShaped}
use Rattle.m17_sender.specs.SoFar.{at_rest, Grows, HasPassed}
use Rattle.m17_sender.proofs.sender.Sender.serve.Given as goal

abbrev pub invariant-loop : goal.invariant-loop
invariant-loop g l = record {
  shaped : IsShaped l.self;
  grows : Grows g.M.Mouth.told
      (at_rest l.initial.self l.initial.kept.noted) (at_rest l.self l.kept.noted);
  passed : HasPassed l.initial.self.order l.self.order;
}
