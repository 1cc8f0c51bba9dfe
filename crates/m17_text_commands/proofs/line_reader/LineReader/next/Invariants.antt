use Rattle.std.proofs.Common.{◌≡◌, ℕ, ◌-◌, List, length}
use Rattle.m17_text_commands.specs.Reading.{IsAhead}
use Rattle.m17_text_commands.specs.Pending.{pending}
use Rattle.m17_text_commands.proofs.line_reader.LineReader.next.Given as goal

-- the same is to come of the input, no device failed, and nothing was written
abbrev pub invariant-reads : goal.invariant-reads
invariant-reads g l = record {
  kept : (ahead : List ℕ) → IsAhead (pending l.fn.self) (g.S.Input.told l.fn.input).left ahead → IsAhead (pending l.self) (g.S.Input.told l.input).left ahead;
  reads : (g.S.Input.told l.input).faults ≡ (g.S.Input.told l.fn.input).faults;
  writes : (g.K.Sink.told l.out).faults ≡ (g.K.Sink.told l.fn.out).faults;
  written : (g.K.Sink.told l.out).written ≡ (g.K.Sink.told l.fn.out).written;
}

abbrev pub decreases-reads : goal.decreases-reads
decreases-reads g l = 258 - length (pending l.self)
