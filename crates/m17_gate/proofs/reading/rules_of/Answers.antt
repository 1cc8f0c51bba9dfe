use Rattle.std.proofs.Common.{List, sym, subst, arith}
use Rattle.m17_gate.specs.declared.rule.Rule.{Rule}
use Rattle.m17_gate.proofs.TextLemmas.{IsReadTo, next_of, read_more, read_none, rest_is, stopped}
use Rattle.m17_gate.proofs.reading.rules_of.Goals as goal

pub loop-place-init : goal.loop-place-init
loop-place-init c = record {
  within = omega arith;
  read = subst (λ (rules : List Rule). IsReadTo c.args.text.now 0 0 rules)
      (sym c.new-rules.ensures) (read_none c.args.text.now);
}

pub returns-in-Err-clause-refused : goal.returns-in-Err-clause-refused
returns-in-Err-clause-refused c =
    stopped c.args.text.now c.loop-place.place c.loop-place.number c.place_of-end.result
    c.loop-place.rules c.without_return.result.now c.loop-place-test.true
    (next_of _ _ _ _ _ (rest_is c.args.text.now c.loop-place.place)
    c.place_of-end.ensures.first c.place_of-end.ensures.within c.without_return.ensures)
    c.loop-place.invariant.read c.in-Err.refusal c.requires c.in-Err.ensures

pub loop-place-preserved : goal.loop-place-preserved
loop-place-preserved c = record {
  within = omega (arith, c.place_of-end.ensures.within);
  read = read_more c.args.text.now c.loop-place.place c.loop-place.number c.place_of-end.result
      c.loop-place.rules c.without_return.result.now c.loop-place-test.true
      (next_of _ _ _ _ _ (rest_is c.args.text.now c.loop-place.place)
      c.place_of-end.ensures.first c.place_of-end.ensures.within c.without_return.ensures)
      c.loop-place.invariant.read c.read_next.new.rules c.in-Ok.ensures;
}
