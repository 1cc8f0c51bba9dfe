use Rattle.std.proofs.Common.{vec_len}
use Rattle.m17_roll.proofs.Gathers.{Gathers}
use Rattle.m17_roll.proofs.seat.closing.close.Given as goal

abbrev pub invariant-loop-seat : goal.invariant-loop-seat
invariant-loop-seat l = Gathers l.fn.seats.items l.seats.items l.gathering

abbrev pub decreases-loop-seat : goal.decreases-loop-seat
decreases-loop-seat l = vec_len l.seats
