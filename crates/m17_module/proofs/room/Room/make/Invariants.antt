use Rattle.std.proofs.Common.{◌≡◌, None, replicate, length, vec_capacity}
use Rattle.m17_module.proofs.room.Room.make.Given as goal

abbrev pub invariant-loop-place : goal.invariant-loop-place
invariant-loop-place l =
    (l.seats.items ≡ replicate l._place None) × (length l.lasts.items ≡ l._place) × (vec_capacity l.seats ≡ l.places) × (vec_capacity l.lasts ≡ l.places)
