use Rattle.std.proofs.Common.{rules, refl}
use Rattle.m17_roll.specs.Notes.{sees}
use Rattle.m17_roll.proofs.Steps.{looks}
use Rattle.m17_roll.proofs.Seated.{reseat, falls_more}
use Rattle.m17_roll.proofs.seat.RollSeat.look.Goals as goal

pub load-word-requires : goal.load-word-requires
load-word-requires c = (search rules, search rules, looks _ _ _ _ _ _ (search rules))

pub invariant_of-self : goal.invariant_of-self
invariant_of-self c =
    let e = c.load-word.ensures in
    let before = c.self.inside.seat.me.0 in
    reseat c.self.inside _ (sees before c.args.place c.load-word.result) c.self.invariant e.0 e.2.0 refl refl refl
    (falls_more before.seen c.args.place c.load-word.result c.self.invariant.falls e.2.1) c.self.invariant.rises
