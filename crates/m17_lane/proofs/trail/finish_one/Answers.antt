use Rattle.std.proofs.Common.{◌≡◌, ◌^◌, ◌+◌, subst, sym, refl, ap, ◌∙◌, arith}
use Rattle.crossbeam_queue.specs.Passes.{view as knows}
use Rattle.m17_lane.specs.declared.rule.Hand.{Hand}
use Rattle.m17_lane.specs.Ends.{PopEnd}
use Rattle.m17_lane.specs.Orders.{items_of}
use Rattle.m17_lane.specs.Rule.{IsPopper}
use Rattle.m17_lane.proofs.Joins.{alone}
use Rattle.m17_lane.proofs.Keeps.{wholes}
use Rattle.m17_lane.proofs.trail.finish_one.Goals as goal

pub learn_as-requires-clause-rule : goal.learn_as-requires-clause-rule
learn_as-requires-clause-rule g c =
    let back = c.take_back.ensures.back in let v : Hand g.row.T.Denot = knows c.popper.inside.pass in
    let one : v.producers ≡ 1 = ap (λ (p : PopEnd g.row.T.Denot). p.producers) c.popper.view_is ∙ c.requires.only in
    let all : v.parts + v.producers ≡ 2 ^ 32 = c.popper.invariant.2 in
    let last : v.parts + 1 ≡ 2 ^ 32 = omega arith in
    wholes _ _ (subst (λ (y : Hand g.row.T.Denot). IsPopper y) (sym back) refl)
    (ap (λ (y : Hand g.row.T.Denot). y.parts) back ∙ last)

pub returns-clause-order : goal.returns-clause-order
returns-clause-order g c =
    let v = knows c.popper.inside.pass in let whole = c.learn_as.ensures.rule in
    let two = alone v (knows c.take_back.new.pass) c.args.pusher c.args.popper.popped whole.0
    (ap (λ (y : Hand g.row.T.Denot). y.logs) c.popper.invariant.1)
    (ap (λ (p : PopEnd g.row.T.Denot). p.popped) c.popper.view_is) c.take_back.ensures.back whole.1 in
    ap (λ (y : Hand g.row.T.Denot). items_of y.seen) c.learn_as.ensures.queue.1 ∙ two.0

pub returns-clause-settled : goal.returns-clause-settled
returns-clause-settled g c =
    let v = knows c.popper.inside.pass in let whole = c.learn_as.ensures.rule in
    let two = alone v (knows c.take_back.new.pass) c.args.pusher c.args.popper.popped whole.0
    (ap (λ (y : Hand g.row.T.Denot). y.logs) c.popper.invariant.1)
    (ap (λ (p : PopEnd g.row.T.Denot). p.popped) c.popper.view_is) c.take_back.ensures.back whole.1 in
    (whole.0, two.1)
