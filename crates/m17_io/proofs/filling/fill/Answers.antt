use Rattle.std.proofs.Common.{rules, arith}
use Rattle.std.proofs.lemmas.Grind.{common_steps}
use Rattle.m17_io.proofs.FillSteps.{IsBegun, filled_more, filled_at_end}
use Rattle.m17_io.proofs.filling.fill.Goals as goal

pub loop-have-preserved : goal.loop-have-preserved
loop-have-preserved g c = record {
  within = grind (arith, common_steps);
  rest = λ bytes told.
      let kept = c.loop-have.invariant.rest bytes told in
      let begun : IsBegun bytes c.loop-have.into c.args.into.now c.loop-have.have = record { within = kept.0; fits = omega arith; front = kept.1 } in
      filled_more bytes c.loop-have.into c.args.into.now c.read_tied.new.into c.loop-have.have c.in-Ok.n _ begun (c.in-Ok.ensures.taken _ kept.2);
  reads = search rules;
  writes = search rules;
  written = search rules;
}

pub returns-in-Ok-eq0-clause-filled : goal.returns-in-Ok-eq0-clause-filled
returns-in-Ok-eq0-clause-filled g c = λ bytes told.
    let kept = c.loop-have.invariant.rest bytes told in
    let begun : IsBegun bytes c.loop-have.into c.args.into.now c.loop-have.have = record { within = kept.0; fits = omega arith; front = kept.1 } in
    filled_at_end bytes c.loop-have.into c.args.into.now c.read_tied.new.into c.loop-have.have c.in-Ok-eq0.field-0 _ begun (omega arith) (omega arith) (c.in-Ok-eq0.ensures.taken _ kept.2)
