use Rattle.std.proofs.Common.{rules, sym, subst}
use Rattle.m17_roll.specs.Closing.{IsEnded}
use Rattle.m17_roll.specs.Rule.{Mine}
use Rattle.m17_roll.proofs.Seats.{reading}
use Rattle.m17_roll.proofs.Ending.{shown_end, ended}
use Rattle.m17_roll.proofs.seat.closing.Gathering.settle.Goals as goal

pub load-requires : goal.load-requires
load-requires c = (search rules, search rules, reading _ _ _ _ _ _ (search rules) (search rules) (search rules))

pub returns-clause-ended : goal.returns-clause-ended
returns-clause-ended c =
    let e = c.load.ensures in
    subst (λ (m : Mine). IsEnded (shown_end m.0 c.self.inside.places)) (sym e.2.0)
    (ended c.self.inside.seat.me.0 0 c.load.result c.self.inside.places e.2.1 c.self.invariant.same)
