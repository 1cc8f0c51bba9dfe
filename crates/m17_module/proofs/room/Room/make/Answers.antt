use Rattle.std.proofs.Common.{◌≡◌, None, [], refl, ap, sym, ◌∙◌, arith, length, replicate}
use Rattle.std.proofs.Common.{Option}
use Rattle.std.proofs.lemmas.List.{length-replicate}
use Rattle.m17_module.specs.declared.seat.Seat.{Seat}
use Rattle.m17_module.specs.Setup.{Setup, floor_setup}
use Rattle.m17_module.specs.Held.{held_from}
use Rattle.m17_module.proofs.Places.{held_none}
use Rattle.m17_module.proofs.PeopleMore.{nobody_stands}
use Rattle.m17_module.proofs.room.Room.make.Goals as goal

pub invariant_of-result : goal.invariant_of-result
invariant_of-result c = let none : Option Seat = None in record {
  at_most = omega (arith, ap length c.loop-place.invariant.0, length-replicate c.loop-place._place none);
  held_are = c.new-2.ensures ∙ sym (ap (held_from 0) c.loop-place.invariant.0 ∙ held_none 0 c.loop-place._place);
  each = omega (arith, c.loop-place.invariant.1, ap length c.loop-place.invariant.0, length-replicate c.loop-place._place none);
}

pub returns-clause-stands : goal.returns-clause-stands
returns-clause-stands c = λ parrot.
    let setup : Setup = record { places = c.args.places; parrot = parrot; limit = c.args.limit } in
    let end : c.loop-place._place ≡ c.args.places = omega arith in
    nobody_stands setup _ _ _ (c.loop-place.invariant.0 ∙ ap (λ n. replicate n None) end) (c.new-3.ensures.stands (floor_setup setup) [] refl tt)
