use Rattle.std.proofs.Common.{◌≡◌}
use Rattle.m17_roll.specs.Seat.{IsSameSeat}
use Rattle.m17_receiver.proofs.claim.claim_unknown_place.Given as goal

abbrev pub invariant-loop-place : goal.invariant-loop-place
invariant-loop-place l = record {
  claimed : l.seat.claimed ≡ l.initial.seat.claimed;
  given : l.seat.given ≡ l.initial.seat.given;
  seat : IsSameSeat l.initial.seat l.seat;
}
