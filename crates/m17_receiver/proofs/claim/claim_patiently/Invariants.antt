use Rattle.std.proofs.Common.{◌≡◌}
use Rattle.m17_roll.specs.Seat.{IsSameSeat}
use Rattle.m17_receiver.specs.SoFar.{HasNotedSome}
use Rattle.m17_receiver.proofs.claim.claim_patiently.Given as goal

abbrev pub invariant-loop : goal.invariant-loop
invariant-loop g l = record {
  noted : HasNotedSome (l.initial.notes, l.initial.directory, l.initial.noted) (l.notes, l.directory, l.noted);
  claimed : l.seat.claimed ≡ l.initial.seat.claimed;
  given : l.seat.given ≡ l.initial.seat.given;
  seat : IsSameSeat l.initial.seat l.seat;
}
