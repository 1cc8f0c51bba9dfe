use Rattle.std.proofs.Common.{◌≡◌, ◌≤◌, All, vec_len, vec_capacity}
use Rattle.m17_reflect.specs.Rooms.{IsRoom}
use Rattle.m17_reflect.proofs.vectors.rooms.Given as goal

-- so many vectors are made, each empty and with room
abbrev pub invariant-loop-made : goal.invariant-loop-made
invariant-loop-made g l = record {
  count : vec_len l.all ≡ l._made;
  room : l.fn.rows ≤ vec_capacity l.all;
  each : All (IsRoom l.fn.count) l.all.items;
}
