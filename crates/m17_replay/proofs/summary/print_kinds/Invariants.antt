use Rattle.std.proofs.Common.{◌≡◌, List, Ok, take}
use Rattle.m17_values.specs.declared.failures.Failed.{Failed}
use Rattle.m17_replay.specs.Counted.{CountsAre}
use Rattle.m17_replay.specs.Summary.{Outcome}
use Rattle.m17_replay.specs.Run.{kinds_text, Writes}
use Rattle.m17_replay.proofs.summary.print_kinds.Given as goal

-- the lines of so many kinds were written, and the sink has not failed
abbrev pub invariant-loop-kind : goal.invariant-loop-kind
invariant-loop-kind g l = record {
  faults : (g.K.Sink.told l.out).faults ≡ (g.K.Sink.told l.fn.out).faults;
  writes : (outcomes : List Outcome) → CountsAre l.fn.counts outcomes
      → Writes {T = Unit {0}} {E = Failed} (Ok tt) (kinds_text outcomes (take l.kind-index l.fn.kinds)) (g.K.Sink.told l.fn.out).written (g.K.Sink.told l.out).written;
}
