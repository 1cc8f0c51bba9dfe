use Rattle.std.proofs.Common.{ap}
use Rattle.m17_module.specs.Events.{kind_of}
use Rattle.m17_module.proofs.StepMore.{other_happens}
use Rattle.m17_module.proofs.room.Room.happen.Goals as goal

pub returns-in-Reply-clause-stands : goal.returns-in-Reply-clause-stands
returns-in-Reply-clause-stands c = λ setup events moment stands.
    other_happens c.other_acts_change_nothing.ensures c.only_speakers_are_heard.ensures.packets setup c.args.self.now events c.args.event.now (ap kind_of c.in-Reply.is) stands

pub returns-in-Tick-clause-stands : goal.returns-in-Tick-clause-stands
returns-in-Tick-clause-stands c = λ setup events moment stands.
    other_happens c.other_acts_change_nothing.ensures c.only_speakers_are_heard.ensures.packets setup c.args.self.now events c.args.event.now (ap kind_of c.in-Tick.is) stands

pub returns-in-Stop-clause-stands : goal.returns-in-Stop-clause-stands
returns-in-Stop-clause-stands c = λ setup events moment stands.
    other_happens c.other_acts_change_nothing.ensures c.only_speakers_are_heard.ensures.packets setup c.args.self.now events c.args.event.now (ap kind_of c.in-Stop.is) stands
