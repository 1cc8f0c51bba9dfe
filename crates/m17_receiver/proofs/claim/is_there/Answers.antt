use Rattle.std.proofs.Common.{ap, inl, inr}
use Rattle.m17_roll.specs.Seat.{RollView}
use Rattle.m17_receiver.proofs.claim.is_there.Goals as goal

pub returns-in-Some-clause-freed : goal.returns-in-Some-clause-freed
returns-in-Some-clause-freed c = λ no. inr (record {
  word = c.in-Some.word;
  another = c.is_of.ensures no;
  before = c.args.seat.now.seen;
  last = ap (λ (s : RollView). s.seen) c.in-Some.ensures.some;
})
