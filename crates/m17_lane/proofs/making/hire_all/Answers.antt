use Rattle.std.proofs.Common.{◌<◌, subst, sym, refl, arith}
use Rattle.m17_lane.specs.declared.rule.Hand.{Hand}
use Rattle.m17_lane.specs.Rule.{IsPopper}
use Rattle.m17_lane.proofs.Keeps.{hires}
use Rattle.m17_lane.proofs.making.hire_all.Goals as goal

pub another-pass-requires-clause-rule : goal.another-pass-requires-clause-rule
another-pass-requires-clause-rule g c =
    let is = c.loop-hired.invariant.2 in let room = c.loop-hired-test.true in
    hires _ _ (subst (λ (v : Hand g.row.T.Denot). IsPopper v) (sym is) refl)
    (subst (λ (v : Hand g.row.T.Denot). 1 < v.parts) (sym is) (omega (arith, c.ranges.producers.fits)))
    (subst (λ (v : Hand g.row.T.Denot). v.made < v.producers) (sym is) (omega arith))
