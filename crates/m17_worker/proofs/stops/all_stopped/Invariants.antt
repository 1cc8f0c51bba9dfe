use Rattle.std.proofs.Common.{◌≡◌, ◌<◌, ℕ, true, slice_get, Some}
use Rattle.m17_worker.proofs.stops.all_stopped.Given as goal

abbrev pub invariant-loop-link : goal.invariant-loop-link
invariant-loop-link l = (link : ℕ) → link < l.link → slice_get l.stopped link ≡ Some true
