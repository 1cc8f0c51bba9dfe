use Rattle.std.proofs.Common.{ap, subst, sym, ◌∙◌}
use Rattle.m17_module.specs.Recording.{Recording}
use Rattle.std.specs.Prelude.{Option}
use Rattle.m17_module.specs.Following.{RecordsHolder, recording_then}
use Rattle.m17_module.proofs.Tuned.{turned_records}
use Rattle.m17_module.proofs.TunedStep.{step_records, goes_on_recorded}
use Rattle.m17_module.proofs.recorder.Recorder.happen.Goals as goal

pub learn-requires-clause-going_on : goal.learn-requires-clause-going_on
learn-requires-clause-going_on c = λ is.
    goes_on_recorded c.args.room.now.seats c.args.at c.args.event.now.body c.happen-answer.result c.args.room.now.floor c.happen-answer.new.self.floor c.turn.new.self.parrot
    c.happen-answer.ensures.floor c.happen-answer.ensures.answer
    (turned_records c.args.at c.args.room.now.floor c.args.self.now.parrot c.turn.new.self.parrot c.turn.ensures.given c.requires.tuned)
    is

pub returns-clause-tuned : goal.returns-clause-tuned
returns-clause-tuned c =
    let is = c.learn.ensures ∙ ap (λ l. recording_then l c.args.at c.args.event.now.body c.happen-answer.result c.turn.new.self.parrot) c.leaver-leaver.ensures in
    subst (λ (r : Option Recording). RecordsHolder c.args.at c.happen-answer.new.self.floor r) (sym is)
    (step_records c.args.room.now.seats c.args.at c.args.event.now.body c.happen-answer.result c.args.room.now.floor c.happen-answer.new.self.floor c.turn.new.self.parrot
    c.happen-answer.ensures.floor c.happen-answer.ensures.answer
    (turned_records c.args.at c.args.room.now.floor c.args.self.now.parrot c.turn.new.self.parrot c.turn.ensures.given c.requires.tuned))
