use Rattle.std.proofs.Common.{ℕ, [], length, is_some, refl, ap, sym, ◌∙◌, subst}
use Rattle.m17_floor.specs.Rule.{FloorState}
use Rattle.m17_module.specs.Setup.{Setup, floor_setup}
use Rattle.m17_module.specs.StandsFor.{PeopleStandFor}
use Rattle.m17_module.proofs.ModuleStep.{nothing_recorded}
use Rattle.m17_module.proofs.state.Module.make.Goals as goal

pub returns-clause-stands : goal.returns-clause-stands
returns-clause-stands c =
    let parrot = is_some c.in_ok-recorder.recorder in
    let made : ℕ → ℕ → Setup = λ n l. record { places = n; parrot = parrot; limit = l } in
    let setup : Setup = made (length c.in_ok-room.room.seats) c.in_ok-room.room.floor.limit in
    record {
      moment = refl;
      people = subst (λ (n : ℕ). PeopleStandFor (made n c.in_ok-room.room.floor.limit) c.in_ok-room.room []) (sym c.in_ok-room.ensures.places)
          (subst (λ (l : ℕ). PeopleStandFor (made c.args.places l) c.in_ok-room.room []) (sym (ap (λ (floor : FloorState). floor.limit) c.in_ok-room.ensures.free)) (c.in_ok-room.ensures.stands parrot));
      count = refl;
      admitted = sym (c.admitted_positions_are_counted.ensures.none (floor_setup setup));
      recording = c.in_ok-recorder.ensures.1 ∙ sym (nothing_recorded setup);
    }
