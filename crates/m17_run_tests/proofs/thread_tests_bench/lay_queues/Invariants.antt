use Rattle.std.proofs.Common.{◌≡◌, length}
use Rattle.m17_lane.specs.Rows.{IsNewPopRow}
use Rattle.m17_run_tests.proofs.thread_tests_bench.lay_queues.Given as goal

-- so many queues are laid, and nothing was popped of them
abbrev pub invariant-loop-mark : goal.invariant-loop-mark
invariant-loop-mark g l = record {
  count : length l.poppers.items ≡ l.mark;
  new : IsNewPopRow l.poppers.items;
}
