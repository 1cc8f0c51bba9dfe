use Rattle.std.proofs.Common.{◌≡◌, ◌-◌, ◌<◌, vec_len, vec_capacity}
use Rattle.m17_roll.proofs.Dealing.{IsDealt}
use Rattle.m17_roll.proofs.seat.make.Given as goal

abbrev pub invariant-loop-table : goal.invariant-loop-table
invariant-loop-table l =
    (vec_capacity l.all ≡ l.seats) × (vec_len l.all < l.seats)
    × IsDealt record { table = l.table; seat = l.seat; places = l.places } l.seats (vec_len l.all) l.all.items

abbrev pub decreases-loop-table : goal.decreases-loop-table
decreases-loop-table l = l.seats - vec_len l.all
