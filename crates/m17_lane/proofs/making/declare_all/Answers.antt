use Rattle.std.proofs.Common.{subst, sym, refl, ap}
use Rattle.m17_lane.specs.declared.rule.Hand.{Hand}
use Rattle.m17_lane.specs.Rule.{IsPopper}
use Rattle.m17_lane.proofs.Keeps.{declares}
use Rattle.m17_lane.proofs.making.declare_all.Goals as goal

pub another-requires-clause-rule : goal.another-requires-clause-rule
another-requires-clause-rule g c =
    let is = c.loop-declared.invariant.2 in
    declares _ _ (subst (λ (v : Hand g.row.T.Denot). IsPopper v) (sym is) refl) (ap (λ (v : Hand g.row.T.Denot). v.parts) is)
