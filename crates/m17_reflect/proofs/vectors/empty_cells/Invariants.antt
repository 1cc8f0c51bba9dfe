use Rattle.std.proofs.Common.{◌≡◌, ◌≤◌, All, None, length, vec_len, vec_capacity}
use Rattle.m17_reflect.proofs.vectors.empty_cells.Given as goal

-- so many cells are made, and nothing is in them
abbrev pub invariant-loop-made : goal.invariant-loop-made
invariant-loop-made g l = record {
  count : vec_len l.cells ≡ l._made;
  items : length l.cells.items ≡ l._made;
  room : l.fn.count ≤ vec_capacity l.cells;
  none : All (λ cell. cell ≡ None) l.cells.items;
}
