use Rattle.std.proofs.Common.{◌≡◌, [], All}
use Rattle.m17_disk.specs.Queue.{IsSameEnd}
use Rattle.m17_disk.proofs.settling.ends_within.Given as goal

-- it is the same end, and has sent nothing but marks where it had not
abbrev pub invariant-loop : goal.invariant-loop
invariant-loop g l = record {
  same_lane : IsSameEnd l.fn.marker l.marker;
  marks : All (λ bytes. bytes ≡ []) l.fn.marker.pushed → All (λ bytes. bytes ≡ []) l.marker.pushed;
}
