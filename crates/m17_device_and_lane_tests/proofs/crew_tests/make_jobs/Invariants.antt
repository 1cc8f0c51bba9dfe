use Rattle.std.proofs.Common.{◌≡◌, ◌<◌, ◌^◌, All, vec_len}
use Rattle.m17_device_and_lane_tests.proofs.crew_tests.make_jobs.Given as goal

abbrev pub invariant-loop-i : goal.invariant-loop-i
invariant-loop-i g l = All (λ j. j.number < 2 ^ 31) l.jobs.items × (vec_len l.jobs ≡ l.i)
