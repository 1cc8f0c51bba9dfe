use Rattle.m17_board.specs.Shows.{shown_of, Looked, IsSameWatch}
use Rattle.m17_board.proofs.watch.Watch.look_round.Given as goal

abbrev pub invariant-loop-letter : goal.invariant-loop-letter
invariant-loop-letter g l = record {
  looked : Looked g.B.Book.told l.initial.self.modules (shown_of l.initial.self) (shown_of l.self);
  same : IsSameWatch l.initial.self l.self;
}
