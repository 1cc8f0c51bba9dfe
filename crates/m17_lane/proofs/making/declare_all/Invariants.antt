use Rattle.std.proofs.Common.{◌≡◌, ◌^◌, []}
use Rattle.crossbeam_queue.specs.Passes.{view as knows}
use Rattle.crossbeam_queue.specs.Passes.{IsPassOf, IsSamePass}
use Rattle.m17_lane.specs.Rule.{popper}
use Rattle.m17_lane.proofs.making.declare_all.Given as goal

-- so many producers are declared, and no pusher is made
abbrev pub invariant-loop-declared : goal.invariant-loop-declared
invariant-loop-declared g l =
    IsPassOf l.line l.pass × IsSamePass l.fn.pass l.pass × (knows l.pass ≡ popper (2 ^ 32) l._declared 0 [] [] [] [])
