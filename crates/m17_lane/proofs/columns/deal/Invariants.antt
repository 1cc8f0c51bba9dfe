use Rattle.std.proofs.Common.{◌≡◌, ◌+◌, ◌≤◌, List, ◌++◌, length, map, vec_len, vec_capacity}
use Rattle.m17_lane.proofs.Moves.{Dealt, Changed}
use Rattle.m17_lane.proofs.columns.deal.Given as goal

-- the columns from the row's length on have their item, of those that left the row
abbrev pub invariant-loop-item : goal.invariant-loop-item
invariant-loop-item g l = record {
  put : (gone : List g.row.T.Denot) × (l.fn.row.items ≡ l.row.items ++ gone)
      × Dealt (length l.row.items) (map (λ column. column.items) l.columns.items) (map (λ column. column.items) l.fn.columns.items) gone;
  rooms : Changed (λ was is. (vec_len is ≡ vec_len was + 1) × (vec_capacity is ≡ vec_capacity was)) (length l.row.items) l.columns.items l.fn.columns.items;
  same_room : vec_capacity l.row ≡ vec_capacity l.fn.row;
  same_length : vec_len l.columns ≡ vec_len l.fn.columns;
  within : length l.row.items ≤ vec_len l.fn.columns;
}

abbrev pub decreases-loop-item : goal.decreases-loop-item
decreases-loop-item g l = vec_len l.row
