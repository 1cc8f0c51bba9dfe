use Rattle.m17_receiver.specs.SoFar.{IsBetween, HasComeBy}
use Rattle.m17_receiver.proofs.receiver.Receiver.receive.Given as goal

abbrev pub invariant-loop : goal.invariant-loop
invariant-loop g l = record {
  between : IsBetween l.initial.self l.self;
  come : HasComeBy g.E.Ear.told g.B.Book.told l.initial.self l.self l.index l.noted;
}
