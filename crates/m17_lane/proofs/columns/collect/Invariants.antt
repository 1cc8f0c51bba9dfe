use Rattle.std.proofs.Common.{◌≡◌, map, vec_len, vec_capacity}
use Rattle.m17_lane.proofs.Moves.{Taken}
use Rattle.m17_lane.proofs.columns.collect.Given as goal

-- so many columns have given their last item to the row
abbrev pub invariant-loop-at : goal.invariant-loop-at
invariant-loop-at g l = record {
  taken : Taken l.at (map (λ column. column.items) l.columns.items) l.row.items (map (λ column. column.items) l.fn.columns.items);
  same_length : vec_len l.columns ≡ vec_len l.fn.columns;
  filled : vec_len l.row ≡ l.at;
  same_room : vec_capacity l.row ≡ vec_capacity l.fn.row;
}
