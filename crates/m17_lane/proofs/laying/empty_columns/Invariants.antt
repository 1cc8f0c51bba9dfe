use Rattle.std.proofs.Common.{◌≡◌, [], All, vec_len, vec_capacity}
use Rattle.m17_lane.proofs.laying.empty_columns.Given as goal

-- so many columns are made, each empty and with room
abbrev pub invariant-loop-made : goal.invariant-loop-made
invariant-loop-made g l =
    (vec_len l.columns ≡ l._made) × (vec_capacity l.columns ≡ l.fn.count)
    × All (λ column. (column.items ≡ []) × (vec_capacity column ≡ l.fn.room)) l.columns.items
