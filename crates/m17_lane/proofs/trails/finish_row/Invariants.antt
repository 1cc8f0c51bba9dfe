use Rattle.std.proofs.Common.{◌≡◌, ◌+◌, All, vec_len, vec_capacity}
use Rattle.m17_lane.specs.Columns.{lanes_of, lanes_popped}
use Rattle.m17_lane.proofs.Returns.{OnesBack}
use Rattle.m17_lane.proofs.trails.finish_row.Given as goal

-- the ends that are left are of the same lanes, and the others are taken back
abbrev pub invariant-loop-popper : goal.invariant-loop-popper
invariant-loop-popper g l = record {
  lanes : lanes_of l.pushers.items ≡ lanes_popped l.poppers.items;
  alone : All (λ p. p.producers ≡ 1) l.poppers.items;
  back : OnesBack l.fn.pushers.items l.pushers.items l.fn.poppers.items l.poppers.items l.trails.items;
  number : vec_len l.trails + vec_len l.poppers ≡ vec_len l.fn.poppers;
  same_room : vec_capacity l.trails ≡ vec_capacity l.fn.trails;
}

abbrev pub decreases-loop-popper : goal.decreases-loop-popper
decreases-loop-popper g l = vec_len l.poppers
