use Rattle.std.proofs.Common.{◌≡◌, All, Some, vec_len}
use Rattle.m17_ports.specs.Told.{StartsEmpty}
use Rattle.m17_run_tests.proofs.most_tests.books.Given as goal

-- so many books are made, and nothing is written in them
abbrev pub invariant-loop-made : goal.invariant-loop-made
invariant-loop-made g l = record {
  count : vec_len l.books ≡ l._made;
  new : All (λ book. StartsEmpty (Some book.written)) l.books.items;
}
