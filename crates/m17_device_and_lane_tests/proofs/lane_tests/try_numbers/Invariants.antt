use Rattle.std.proofs.Common.{◌≡◌}
use Rattle.m17_device_and_lane_tests.proofs.lane_tests.try_numbers.Given as goal

abbrev pub invariant-loop-i : goal.invariant-loop-i
invariant-loop-i g l = l.pusher.lane ≡ l.initial.pusher.lane
