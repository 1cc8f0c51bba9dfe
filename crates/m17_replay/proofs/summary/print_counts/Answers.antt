use Rattle.std.proofs.Common.{codes, ap}
use Rattle.m17_print.specs.Kinds.{kinds}
use Rattle.m17_replay.specs.Summary.{count_line}
use Rattle.m17_replay.specs.Run.{kinds_text}
use Rattle.m17_replay.proofs.Writing.{writes_part, writes_same, writes_then}
use Rattle.m17_replay.proofs.summary.print_counts.Goals as goal

pub returns-in-Ok-clause-writes : goal.returns-in-Ok-clause-writes
returns-in-Ok-clause-writes g c = λ outcomes are.
    let first = writes_same _ _ _ _ _ c.make_entries_line.ensures c.in-Ok.ensures.writes in
    writes_then c.in-Ok.field-0 c.print_kinds.result (count_line (codes "entries") c.args.count) (kinds_text outcomes kinds) _ _ _ first
    (writes_same _ _ _ _ _ (ap (kinds_text outcomes) c.all.ensures) (c.print_kinds.ensures.writes outcomes are))

pub returns-in-Err-clause-writes : goal.returns-in-Err-clause-writes
returns-in-Err-clause-writes g c = λ outcomes are.
    writes_part c.in-Err.failed c.in-Err.failed (count_line (codes "entries") c.args.count) (kinds_text outcomes kinds) _ _ (writes_same _ _ _ _ _ c.make_entries_line.ensures c.in-Err.ensures.writes)
