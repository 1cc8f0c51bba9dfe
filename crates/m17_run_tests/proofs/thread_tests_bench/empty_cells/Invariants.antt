use Rattle.std.proofs.Common.{◌≡◌, All, None, length}
use Rattle.m17_run_tests.proofs.thread_tests_bench.empty_cells.Given as goal

-- so many cells are made, and nothing is in them
abbrev pub invariant-loop-made : goal.invariant-loop-made
invariant-loop-made g l = record {
  count : length l.cells.items ≡ l._made;
  none : All (λ cell. cell ≡ None) l.cells.items;
}
