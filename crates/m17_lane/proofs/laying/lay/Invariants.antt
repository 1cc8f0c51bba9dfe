use Rattle.std.proofs.Common.{◌≡◌, ◌≤◌, [], map, All, vec_len, vec_capacity}
use Rattle.m17_lane.specs.Laid.{IsLaid}
use Rattle.m17_lane.proofs.laying.lay.Given as goal

-- so many lanes are laid, and there is room for the others
abbrev pub invariant-loop-laid : goal.invariant-loop-laid
invariant-loop-laid g l = record {
  laid : IsLaid l.fn.producers l.fn.capacity (map (λ column. column.items) l.columns.items) l.poppers.items;
  columns : All (λ column. (vec_len column ≡ l._laid) × (vec_capacity column ≡ l.fn.lanes)) l.columns.items;
  poppers : (vec_len l.poppers ≡ l._laid) × (vec_capacity l.poppers ≡ l.fn.lanes);
  shells : All (λ shell. (shell.items ≡ []) × (l.fn.producers ≤ vec_capacity shell)) l.shells.items;
  shell_count : (vec_len l.shells ≡ l._laid) × (vec_capacity l.shells ≡ l.fn.lanes);
}
