use Rattle.std.proofs.Common.{◌≡◌}
use Rattle.std.specs.Arc.{arc_value}
use Rattle.crossbeam_queue.specs.Passes.{view as knows}
use Rattle.crossbeam_queue.specs.Passes.{IsPassOf}
use Rattle.m17_lane.specs.Ends.{AreOf}
use Rattle.m17_lane.proofs.Joins.{Joining}
use Rattle.m17_lane.proofs.trail.finish.Given as goal

-- the pushers that are left are of this lane, and the pass has taken back the others
abbrev pub invariant-loop-pusher : goal.invariant-loop-pusher
invariant-loop-pusher g l =
    IsPassOf (arc_value l.lane).line l.pass × (l.pass.table_id ≡ l.fn.popper.lane) × AreOf l.fn.popper.lane l.pushers.items
    × Joining (knows l.pass) l.fn.popper.popped l.pushers.items l.fn.pushers.items

abbrev pub decreases-loop-pusher : goal.decreases-loop-pusher
decreases-loop-pusher g l = goal.left-loop-pusher g l
