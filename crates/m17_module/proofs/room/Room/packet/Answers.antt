use Rattle.std.proofs.Common.{sym}
use Rattle.m17_module.proofs.PeopleMore.{stranger_people, listener_people}
use Rattle.m17_module.proofs.room.Room.packet.Goals as goal

pub returns-in_default-clause-stands : goal.returns-in_default-clause-stands
returns-in_default-clause-stands c = λ event is setup events moment stands.
    stranger_people c.strangers_change_nothing.ensures.packets c.only_speakers_are_heard.ensures.strangers c.later_acts_change_nothing_before.ensures.members
    setup c.args.self.now events event c.args.k c.args.p.now (sym c.in_default.ensures) is stands

pub returns-then-seat-clause-stands : goal.returns-then-seat-clause-stands
returns-then-seat-clause-stands c = λ event is setup events moment stands.
    listener_people c.strangers_change_nothing.ensures.packets c.only_speakers_are_heard.ensures.listeners c.later_acts_change_nothing_before.ensures.members
    setup c.args.self.now events event c.args.k c.args.p.now c.in-Some.seat (sym c.in-Some.ensures) c.if-seat.true is stands
