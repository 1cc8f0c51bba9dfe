use Rattle.std.proofs.Common.{rules, refl, arith}
use Rattle.m17_roll.proofs.Claiming.{giving_back}
use Rattle.m17_roll.proofs.seat.RollSeat.give.Goals as goal

pub compare_exchange-found-requires : goal.compare_exchange-found-requires
compare_exchange-found-requires c =
    (search rules, search rules, giving_back _ _ _ _ _ _ c.args.member.generation _ _ (search rules) (search rules) refl refl (omega arith))
