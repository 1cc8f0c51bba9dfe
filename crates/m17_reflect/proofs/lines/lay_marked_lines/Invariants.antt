use Rattle.std.proofs.Common.{◌≡◌, ◌*◌, ◌≤◌, map, vec_len, vec_capacity}
use Rattle.m17_reflect.specs.Ends.{AreNewLines}
use Rattle.m17_reflect.proofs.lines.lay_marked_lines.Given as goal

-- so many rows are laid, with a mark for each lane, and there is room for the others
abbrev pub invariant-loop-row : goal.invariant-loop-row
invariant-loop-row g l = record {
  lines : AreNewLines l.fn.capacity l.row l.fn.count (map (λ row. row.items) l.pushers.items) (map (λ row. row.items) l.poppers.items);
  pushers : (vec_len l.pushers ≡ l.row) × (l.fn.rows ≤ vec_capacity l.pushers);
  poppers : (vec_len l.poppers ≡ l.row) × (l.fn.rows ≤ vec_capacity l.poppers);
  marks : (l.bell.laid ≡ l.row * l.fn.count) × (l.bell.lanes ≡ l.fn.bell.lanes);
}
