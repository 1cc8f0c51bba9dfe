use Rattle.std.proofs.Common.{◌≡◌, ℕ, List, Option}
use Rattle.m17_print.specs.Endings.{Grows}
use Rattle.m17_text_commands.specs.ShowRun.{AreShown}
use Rattle.m17_text_commands.specs.Pending.{pending}
use Rattle.m17_text_commands.proofs.show_command.show_lines.Given as goal

-- so many lines were shown, and no device failed
abbrev pub invariant-loop-number : goal.invariant-loop-number
invariant-loop-number g l = record {
  shown : (bytes : List ℕ) (first : Option (List ℕ)) → AreShown bytes 0 (pending l.fn.reader) (g.S.Input.told l.fn.input).left first (g.K.Sink.told l.fn.out).written
      → AreShown bytes l.number (pending l.reader) (g.S.Input.told l.input).left first (g.K.Sink.told l.out).written;
  appended : Grows (g.K.Sink.told l.fn.out).written (g.K.Sink.told l.out).written;
  reads : (g.S.Input.told l.input).faults ≡ (g.S.Input.told l.fn.input).faults;
  writes : (g.K.Sink.told l.out).faults ≡ (g.K.Sink.told l.fn.out).faults;
}
