use Rattle.std.proofs.Common.{◌≡◌, ◌<◌, ℕ, None, Some, length, get_or, ap, sym, subst, ◌∙◌, arith}
use Rattle.std.proofs.lemmas.List.{length-set}
use Rattle.m17_module.specs.Setup.{floor_setup}
use Rattle.m17_module.specs.Events.{acts_of}
use Rattle.m17_module.specs.StandsFor.{People, PeopleStandFor}
use Rattle.m17_module.proofs.Places.{held_over}
use Rattle.m17_module.proofs.PeopleMore.{joined_people, in_by_seat, member_by_seat}
use Rattle.m17_module.proofs.SeatsMore.{IsIn}
use Rattle.m17_module.proofs.room.Room.take_over.Goals as goal

pub invariant_of-self : goal.invariant_of-self
invariant_of-self c =
    let q : ℕ = c.args.seat.now.member.place in
    let within : q < length c.self.inside.seats.items = omega (arith, c.requires.place, ap (λ (p : People). length p.seats) c.self.view_is) in
    record {
      at_most = omega (arith, c.self.invariant.at_most, length-set c.self.inside.seats.items q (Some c.args.seat.now));
      held_are = c.self.invariant.held_are ∙ held_over c.self.inside.seats.items q c.args.old.now c.args.seat.now within (ap (λ (p : People). get_or p.seats q None) c.self.view_is ∙ c.requires.held);
      each = length-set c.self.inside.lasts.items q c.new.result ∙ c.self.invariant.each ∙ sym (length-set c.self.inside.seats.items q (Some c.args.seat.now));
    }

pub returns-clause-stands : goal.returns-clause-stands
returns-clause-stands c = λ event is setup events stands.
    let q : ℕ = c.args.seat.now.member.place in
    let within : q < length c.self.inside.seats.items = omega (arith, c.requires.place, ap (λ (p : People). length p.seats) c.self.view_is) in
    let inside = subst (λ (p : People). PeopleStandFor setup p events) (sym c.self.view_is) stands in
    let there : get_or c.self.inside.seats.items q None ≡ Some c.args.old.now = ap (λ (p : People). get_or p.seats q None) c.self.view_is ∙ c.requires.held in
    let at : IsIn setup.places events (length events) q c.args.old.now = in_by_seat setup _ events q c.args.old.now inside there in
    joined_people c.one_member_at_a_place.ensures.after_one_more c.comings_and_goings_leave_others.ensures.joins setup
    c.self.inside.seats.items c.self.inside.lasts.items c.self.inside.floor c.left.new.self c.new.result events event c.args.seat.now is within c.self.invariant.each
    (c.left.ensures.by_join (floor_setup setup) (acts_of events) event.at c.args.seat.now.member c.args.seat.now.listens inside.floor (member_by_seat setup _ events q c.args.old.now inside there) (sym at.place))
    (c.new.ensures.joined (floor_setup setup) (acts_of events) c.args.seat.now.member event.at c.args.seat.now.listens)
    inside
