use Rattle.std.proofs.Common.{◌≡◌, ◌≤◌, All, None, length, vec_len, vec_capacity}
use Rattle.m17_reflect.proofs.vectors.empty_rows.Given as goal

-- so many rows are made, and nothing is in their cells
abbrev pub invariant-loop-made : goal.invariant-loop-made
invariant-loop-made g l = record {
  count : vec_len l.all ≡ l._made;
  items : length l.all.items ≡ l._made;
  room : l.fn.rows ≤ vec_capacity l.all;
  each : All (λ row. (length row.items ≡ l.fn.count) × All (λ cell. cell ≡ None) row.items) l.all.items;
}
