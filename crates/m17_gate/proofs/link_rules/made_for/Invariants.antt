use Rattle.std.proofs.Common.{◌≡◌, ◌-◌, ◌≤◌, All, vec_len, vec_capacity}
use Rattle.m17_gate.proofs.link_rules.made_for.Given as goal

-- so many are made, and each is these rules
abbrev pub invariant-loop-alloc : goal.invariant-loop-alloc
invariant-loop-alloc l = record {
  each : All (λ quick. quick ≡ l.rules) l.made.items;
  count : vec_len l.made ≤ l.count;
  room : l.count ≤ vec_capacity l.made;
}

abbrev pub decreases-loop-alloc : goal.decreases-loop-alloc
decreases-loop-alloc l = l.count - vec_len l.made
