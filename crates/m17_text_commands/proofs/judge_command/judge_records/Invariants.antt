use Rattle.std.proofs.Common.{◌≡◌, ℕ, List, length, Some}
use Rattle.m17_print.specs.Endings.{Grows}
use Rattle.m17_text_commands.proofs.JudgeRun.{IsAfter}
use Rattle.m17_text_commands.proofs.judge_command.judge_records.Given as goal

-- so many records of the input were judged, and no device failed
abbrev pub invariant-loop-index : goal.invariant-loop-index
invariant-loop-index g l = record {
  after : (bytes : List ℕ) → (g.S.Input.told l.fn.input).left ≡ Some bytes → IsAfter bytes l.index l.table (g.S.Input.told l.input).left (g.K.Sink.told l.fn.out).written (g.K.Sink.told l.out).written;
  appended : Grows (g.K.Sink.told l.fn.out).written (g.K.Sink.told l.out).written;
  size : length l.record ≡ 64;
  reads : (g.S.Input.told l.input).faults ≡ (g.S.Input.told l.fn.input).faults;
  writes : (g.K.Sink.told l.out).faults ≡ (g.K.Sink.told l.fn.out).faults;
}
