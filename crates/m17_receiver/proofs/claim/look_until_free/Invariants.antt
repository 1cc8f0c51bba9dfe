use Rattle.std.proofs.Common.{◌≡◌}
use Rattle.m17_roll.specs.Seat.{HasLists, IsSameSeat}
use Rattle.m17_receiver.proofs.claim.look_until_free.Given as goal

-- a look changes what was seen alone
abbrev pub invariant-loop : goal.invariant-loop
invariant-loop g l = HasLists l.initial.seat.claimed l.initial.seat.given l.initial.seat.refused l.seat
    × IsSameSeat l.initial.seat l.seat
