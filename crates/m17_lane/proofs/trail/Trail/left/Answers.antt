use Rattle.m17_lane.proofs.Keeps.{leaves, wholes}
use Rattle.m17_lane.proofs.trail.Trail.left.Goals as goal

pub pop_as-requires-clause-rule : goal.pop_as-requires-clause-rule
pop_as-requires-clause-rule g c =
    (leaves _ _ c.self.invariant.1 c.self.invariant.2, wholes _ _ c.self.invariant.1 c.self.invariant.2)
