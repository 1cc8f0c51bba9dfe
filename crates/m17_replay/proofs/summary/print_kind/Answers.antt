use Rattle.std.proofs.Common.{ap, ◌∙◌}
use Rattle.m17_print.specs.Kinds.{kind_word}
use Rattle.m17_replay.specs.Summary.{count_line}
use Rattle.m17_replay.proofs.Writing.{writes_same}
use Rattle.m17_replay.proofs.summary.print_kind.Goals as goal

pub returns-clause-writes : goal.returns-clause-writes
returns-clause-writes g c = λ outcomes are. writes_same _ _ _ _ _ (c.make_kind_line.ensures ∙ ap (count_line (kind_word c.args.kind)) (c.of.ensures outcomes are)) c.write_line.ensures.writes
