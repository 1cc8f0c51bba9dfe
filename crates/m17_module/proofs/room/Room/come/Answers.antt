use Rattle.std.proofs.Common.{arith}
use Rattle.m17_module.proofs.PeopleMore.{past_the_places}
use Rattle.m17_module.proofs.room.Room.come.Goals as goal

pub returns-then-seat-places-clause-stands : goal.returns-then-seat-places-clause-stands
returns-then-seat-places-clause-stands c = λ event is setup events stands.
    past_the_places c.strangers_change_nothing.ensures.joins setup c.args.self.now events event c.args.seat.now (omega (arith, c.places.ensures.counted)) is stands
