use Rattle.std.proofs.Common.{◌≡◌, ℕ, None, Some, get_or, ap, sym, subst, ◌∙◌}
use Rattle.m17_module.specs.Setup.{floor_setup}
use Rattle.m17_module.specs.StandsFor.{People, PeopleStandFor}
use Rattle.m17_module.proofs.PeopleMore.{judged_by_rule}
use Rattle.m17_module.proofs.room.Room.judge.Goals as goal

pub returns-clause-stands : goal.returns-clause-stands
returns-clause-stands c = λ event is setup events moment stands.
    let q : ℕ = c.args.seat.now.member.place in
    let mine : get_or c.self.inside.seats.items q None ≡ Some c.args.seat.now = ap (λ (p : People). get_or p.seats q None) c.self.view_is ∙ c.requires.is_in in
    let inside = subst (λ (p : People). PeopleStandFor setup p events) (sym c.self.view_is) stands in
    judged_by_rule setup c.self.inside.seats.items c.self.inside.lasts.items c.self.inside.floor c.judge.new.self c.index_mut-own.result.now c.judge.new.own events event c.args.seat.now c.args.p.now c.judge.result c.args.at
    (λ acts at. c.judge.ensures.by_rule (floor_setup setup) acts at) c.self.invariant.each c.index_mut-own.ensures.value mine c.requires.speaks is moment inside
