use Rattle.m17_roll.specs.Seat.{IsSameSeat, HasLists}
use Rattle.m17_device_and_lane_tests.proofs.roll_tests.give_until_taken.Given as goal

-- until the member is taken the seat's lists stay as they were
abbrev pub invariant-loop : goal.invariant-loop
invariant-loop g l =
    IsSameSeat l.initial.seat l.seat
    × HasLists l.initial.seat.claimed l.initial.seat.given l.initial.seat.refused l.seat
