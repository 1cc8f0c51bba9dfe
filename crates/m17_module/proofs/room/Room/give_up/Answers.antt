use Rattle.std.proofs.Common.{◌≡◌, ◌<◌, ℕ, List, Option, None, Some, length, get_or, nat_lt, ap, sym, subst, ◌∙◌, arith}
use Rattle.std.specs.List.{count_by}
use Rattle.std.proofs.lemmas.List.{length-set}
use Rattle.m17_module.specs.declared.seat.Seat.{Seat}
use Rattle.m17_module.specs.Setup.{floor_setup}
use Rattle.m17_module.specs.Events.{acts_of}
use Rattle.m17_module.specs.Held.{held_from}
use Rattle.m17_module.specs.StandsFor.{People, PeopleStandFor}
use Rattle.m17_module.proofs.Places.{held_within, in_order_drop}
use Rattle.m17_module.proofs.PeopleMore.{left_people, nobody_at_leave, place_there}
use Rattle.m17_module.proofs.room.Room.give_up.Goals as goal

counted : (seats : List (Option Seat)) (held : List ℕ) (q : ℕ) (seat : Seat) → held ≡ held_from 0 seats → get_or seats q None ≡ Some seat → count_by (λ other. nat_lt other q) held < length held
counted seats held q seat is mine = subst (λ (xs : List ℕ). count_by (λ other. nat_lt other q) xs < length xs) (sym is) (held_within seats q seat (place_there seats q seat mine) mine)

pub drop_place-requires : goal.drop_place-requires
drop_place-requires c =
    let q : ℕ = c.args.seat.now.member.place in
    counted c.self.inside.seats.items c.self.inside.held.items q c.args.seat.now c.self.invariant.held_are (ap (λ (p : People). get_or p.seats q None) c.self.view_is ∙ c.requires)

pub invariant_of-self : goal.invariant_of-self
invariant_of-self c =
    let q : ℕ = c.args.seat.now.member.place in
    let mine : get_or c.self.inside.seats.items q None ≡ Some c.args.seat.now = ap (λ (p : People). get_or p.seats q None) c.self.view_is ∙ c.requires in
    record {
      at_most = omega (arith, c.self.invariant.at_most, length-set c.self.inside.seats.items q None);
      held_are = in_order_drop c.self.inside.seats.items c.self.inside.held.items _ q c.args.seat.now c.self.invariant.held_are c.drop_place.ensures (place_there c.self.inside.seats.items q c.args.seat.now mine) mine;
      each = c.self.invariant.each ∙ sym (length-set c.self.inside.seats.items q None);
    }

pub returns-clause-stands : goal.returns-clause-stands
returns-clause-stands c = λ event is setup events stands.
    let q : ℕ = c.args.seat.now.member.place in
    let mine : get_or c.self.inside.seats.items q None ≡ Some c.args.seat.now = ap (λ (p : People). get_or p.seats q None) c.self.view_is ∙ c.requires in
    let inside = subst (λ (p : People). PeopleStandFor setup p events) (sym c.self.view_is) stands in
    left_people c.one_member_at_a_place.ensures.after_one_more c.comings_and_goings_leave_others.ensures.leaves setup
    c.self.inside.seats.items c.self.inside.lasts.items c.self.inside.floor c.left.new.self events event c.args.seat.now is (nobody_at_leave event c.args.seat.now.member is)
    (place_there c.self.inside.seats.items q c.args.seat.now mine) mine
    (c.left.ensures.by_leave (floor_setup setup) (acts_of events) event.at inside.floor) inside
