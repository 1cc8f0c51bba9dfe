use Rattle.std.proofs.Common.{◌≡◌, map, arith, subst, ◌∙◌}
use Rattle.std.specs.List.{range_with_len}
use Rattle.m17_replay.specs.Replay.{outcome_of}
use Rattle.m17_replay.specs.Run.{HasTaken}
use Rattle.m17_replay.proofs.Steps.{counted_more}
use Rattle.m17_replay.proofs.lines.print_outcomes.Goals as goal

pub loop-n-preserved : goal.loop-n-preserved
loop-n-preserved g c = record {
  summary = c.take.ensures.summary ∙ c.loop-n.invariant.summary;
  count = omega (arith, c.take.ensures.count, c.loop-n.invariant.count);
  taken = λ plan entries first are nothing.
      subst (λ outcomes. HasTaken c.take.new.self outcomes first (g.K.Sink.told c.take.new.out))
      (counted_more plan entries c.args.outcomes.now.verdicts c.args.outcomes.now.packets c.loop-n.n _ _ are c.verdict.ensures c.packet.ensures)
      (c.take.ensures.taken first _ (c.loop-n.invariant.taken plan entries first are nothing));
}

pub returns-clause-taken : goal.returns-clause-taken
returns-clause-taken g c = λ plan entries first are nothing.
    let all : c.loop-n.n ≡ c.args.count = omega (arith, c.loop-n.auto.n-end, c.loop-n-test.false) in
    subst (λ n. HasTaken c.loop-n.printer (map (outcome_of plan entries) (range_with_len 0 n)) first (g.K.Sink.told c.loop-n.out)) all
    (c.loop-n.invariant.taken plan entries first are nothing)
