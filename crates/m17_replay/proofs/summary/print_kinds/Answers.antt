use Rattle.std.proofs.Common.{refl, ◌∙◌, ap, arith}
use Rattle.std.proofs.lemmas.List.{take_all}
use Rattle.m17_print.specs.declared.kind.Kind.TheVariants.{Join}
use Rattle.m17_replay.specs.Run.{kind_line, kinds_text}
use Rattle.m17_replay.proofs.Steps.{item_written, item_failed}
use Rattle.m17_replay.proofs.Writing.{writes_nothing, writes_same}
use Rattle.m17_replay.proofs.summary.print_kinds.Goals as goal

pub loop-kind-init : goal.loop-kind-init
loop-kind-init g c = record {
  faults = refl;
  writes = λ outcomes are. writes_nothing tt _;
}

pub loop-kind-preserved : goal.loop-kind-preserved
loop-kind-preserved g c = record {
  faults = c.in-Ok.ensures.cause.no_fault ∙ c.loop-kind.invariant.faults;
  writes = λ outcomes are.
      item_written (kind_line outcomes) c.args.kinds.now c.loop-kind.kind-index Join _ _ _ c.loop-kind-test.true (c.loop-kind.invariant.writes outcomes are) (c.in-Ok.ensures.writes outcomes are);
}

pub returns-in-Err-clause-writes : goal.returns-in-Err-clause-writes
returns-in-Err-clause-writes g c = λ outcomes are.
    item_failed (kind_line outcomes) c.in-Err.failed c.args.kinds.now c.loop-kind.kind-index Join _ _ _ c.loop-kind-test.true (c.loop-kind.invariant.writes outcomes are) (c.in-Err.ensures.writes outcomes are)

pub returns-clause-writes : goal.returns-clause-writes
returns-clause-writes g c = λ outcomes are.
    writes_same _ _ _ _ _ (ap (kinds_text outcomes) (take_all c.loop-kind.kind-index c.args.kinds.now (omega arith))) (c.loop-kind.invariant.writes outcomes are)
