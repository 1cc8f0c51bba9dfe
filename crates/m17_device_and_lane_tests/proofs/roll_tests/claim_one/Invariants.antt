use Rattle.m17_roll.specs.Seat.{IsSameSeat}
use Rattle.m17_device_and_lane_tests.proofs.roll_tests.claim_one.Given as goal

abbrev pub invariant-loop : goal.invariant-loop
invariant-loop g l = IsSameSeat l.initial.seat l.seat
