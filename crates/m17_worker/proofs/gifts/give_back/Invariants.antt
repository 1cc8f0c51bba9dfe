use Rattle.std.proofs.Common.{[]}
use Rattle.m17_worker.specs.Gifts.{GaveBack}
use Rattle.m17_worker.proofs.gifts.give_back.Given as goal

abbrev pub invariant-loop : goal.invariant-loop
invariant-loop g l = GaveBack l.initial.seat [] l.seat
