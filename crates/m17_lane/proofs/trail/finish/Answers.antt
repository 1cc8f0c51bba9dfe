use Rattle.std.proofs.Common.{List, subst, sym, ◌∙◌, arith}
use Rattle.m17_lane.specs.Ends.{PushEnd, AreOf}
use Rattle.m17_lane.proofs.Joins.{are_of_ends, joining}
use Rattle.m17_lane.proofs.Keeps.{wholes}
use Rattle.m17_lane.proofs.trail.finish.Goals as goal

pub take_back-requires-clause-same_lane : goal.take_back-requires-clause-same_lane
take_back-requires-clause-same_lane g c =
    let before = c.loop-pusher.invariant in
    let ends = are_of_ends c.args.popper.lane c.pop.new.self.items c.in-Some.pusher
    (subst (λ (ps : List (PushEnd g.row.T.Denot)). AreOf c.args.popper.lane ps) c.in-Some.ensures.items before.2) in
    ends.1 ∙ sym before.1

pub loop-pusher-preserved : goal.loop-pusher-preserved
loop-pusher-preserved g c =
    let before = c.loop-pusher.invariant in let same = c.take_back.ensures.pass in
    let ends = are_of_ends c.args.popper.lane c.pop.new.self.items c.in-Some.pusher
    (subst (λ (ps : List (PushEnd g.row.T.Denot)). AreOf c.args.popper.lane ps) c.in-Some.ensures.items before.2) in (
      (same.0 ∙ before.0.0, same.2 ∙ before.0.1),
      same.0 ∙ before.1,
      ends.0,
      joining _ _ _ _ _ _ _ before.3 c.in-Some.ensures.items c.take_back.ensures.back,
    )

pub learn_as-requires-clause-rule : goal.learn_as-requires-clause-rule
learn_as-requires-clause-rule g c =
    let all = c.loop-pusher.invariant.3 in wholes _ _ all.is (grind (arith, c.in_default.ensures.cases, all.parts))
