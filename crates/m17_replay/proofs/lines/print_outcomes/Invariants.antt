use Rattle.std.proofs.Common.{◌≡◌, List, [], map}
use Rattle.std.specs.List.{range_with_len}
use Rattle.m17_io.specs.Sink.{SinkTold}
use Rattle.m17_directory.specs.Entries.{Entry}
use Rattle.m17_plan.specs.declared.plan.Plan.{Plan}
use Rattle.m17_replay.specs.Replay.{outcome_of}
use Rattle.m17_replay.specs.Run.{AreVerdicts, HasTaken}
use Rattle.m17_replay.proofs.lines.print_outcomes.Given as goal

-- the printer was handed so many
abbrev pub invariant-loop-n : goal.invariant-loop-n
invariant-loop-n g l = record {
  summary : l.printer.summary ≡ l.fn.printer.summary;
  count : l.printer.count ≡ l.n;
  taken : (plan : Plan) → (entries : List Entry) → (first : SinkTold) → AreVerdicts plan entries l.fn.outcomes.verdicts l.fn.outcomes.packets
      → HasTaken l.fn.printer [] first (g.K.Sink.told l.fn.out) → HasTaken l.printer (map (outcome_of plan entries) (range_with_len 0 l.n)) first (g.K.Sink.told l.out);
}
