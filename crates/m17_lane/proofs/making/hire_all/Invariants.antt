use Rattle.std.proofs.Common.{◌≡◌, ◌^◌, ◌-◌, [], vec_len, vec_capacity}
use Rattle.std.specs.Arc.{arc_value}
use Rattle.crossbeam_queue.specs.Passes.{view as knows}
use Rattle.crossbeam_queue.specs.Passes.{IsPassOf, IsSamePass, ruled_capacity}
use Rattle.m17_lane.specs.Ends.{new_popper, new_pushers}
use Rattle.m17_lane.specs.Rule.{popper}
use Rattle.m17_lane.proofs.making.hire_all.Given as goal

-- so many pushers are made, each with one part
abbrev pub invariant-loop-hired : goal.invariant-loop-hired
invariant-loop-hired g l =
    IsPassOf (arc_value l.lane).line l.pass × IsSamePass l.fn.pass l.pass × (knows l.pass ≡ popper (2 ^ 32 - l._hired) l.producers l._hired [] [] [] [])
    × (l.pushers.items ≡ new_pushers (new_popper l.fn.pass.table_id (ruled_capacity (arc_value l.lane).line) l.producers) l._hired)
    × (vec_len l.pushers ≡ l._hired) × (vec_capacity l.pushers ≡ l.producers)
