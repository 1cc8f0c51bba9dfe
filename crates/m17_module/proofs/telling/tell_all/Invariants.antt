use Rattle.std.proofs.Common.{◌≡◌, ◌≤◌, ◌+◌, ◌++◌, length, take}
use Rattle.std.specs.List.{flat_map}
use Rattle.m17_module.specs.Seats.{seat_in}
use Rattle.m17_module.specs.Items.{to_one}
use Rattle.m17_module.proofs.telling.tell_all.Given as goal

abbrev pub invariant-loop-place : goal.invariant-loop-place
invariant-loop-place l =
    (l.out ≡ l.initial.out ++ flat_map (λ place. to_one l.what (seat_in l.seats place)) (take l.place-index l.held))
    × (length l.out ≤ length l.initial.out + l.place-index)
