use Rattle.std.proofs.Common.{rules}
use Rattle.m17_roll.proofs.Seats.{joining}
use Rattle.m17_roll.proofs.seat.closing.Gathering.take_in.Goals as goal

pub join_seat-requires : goal.join_seat-requires
join_seat-requires c = (search rules, search rules, search rules, search rules, joining _ _ _ _ _ _ (search rules))
