use Rattle.std.proofs.Common.{◌≡◌, List, ℕ, ◌++◌, Some}
use Rattle.m17_text_commands.proofs.Written.{bytes_to}
use Rattle.m17_text_commands.proofs.migrate_command.write_records.Given as goal

-- the records before this one stand written, and the sink has not failed
abbrev pub invariant-loop-one : goal.invariant-loop-one
invariant-loop-one g l = record {
  written : (before : List ℕ) → (g.K.Sink.told l.fn.out).written ≡ Some before
      → (g.K.Sink.told l.out).written ≡ Some (before ++ bytes_to l.records l.one-index);
  no_fault : (g.K.Sink.told l.out).faults ≡ (g.K.Sink.told l.fn.out).faults;
}
