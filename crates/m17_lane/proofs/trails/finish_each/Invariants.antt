use Rattle.std.proofs.Common.{◌≡◌, ◌+◌, ◌≤◌, [], map, length, take, All, vec_len, vec_capacity}
use Rattle.m17_lane.proofs.Returns.{Back}
use Rattle.m17_lane.proofs.trails.finish_each.Given as goal

-- the columns have the ends of the lanes whose poppers are left, and the others are taken back
abbrev pub invariant-loop-popper : goal.invariant-loop-popper
invariant-loop-popper g l = record {
  columns : map (λ column. column.items) l.columns.items ≡ map (take (length l.poppers.items)) (map (λ column. column.items) l.fn.columns.items);
  back : Back (map (λ column. column.items) l.fn.columns.items) l.fn.poppers.items l.poppers.items l.trails.items;
  same_length : vec_len l.columns ≡ vec_len l.fn.columns;
  shells : All (λ shell. (shell.items ≡ []) × (vec_len l.fn.columns ≤ vec_capacity shell)) l.shells.items;
  enough : vec_len l.poppers ≤ vec_len l.shells;
  number : vec_len l.trails + vec_len l.poppers ≡ vec_len l.fn.poppers;
  same_room : vec_capacity l.trails ≡ vec_capacity l.fn.trails;
}

abbrev pub decreases-loop-popper : goal.decreases-loop-popper
decreases-loop-popper g l = vec_len l.poppers
