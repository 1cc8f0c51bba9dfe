use Rattle.m17_peer.proofs.Numbers.{IsRead}
use Rattle.m17_peer.proofs.rest.first_number.Given as goal

abbrev pub invariant-loop-i : goal.invariant-loop-i
invariant-loop-i l = IsRead l.bytes l.i l.value
