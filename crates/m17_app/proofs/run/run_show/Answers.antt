use Rattle.m17_app.specs.Status.{Streams, streams}
use Rattle.m17_app.specs.Text.{show_command}
use Rattle.m17_app.proofs.Statuses.{some_memory}
use Rattle.m17_app.proofs.TextRuns.{ran, show_is_sound}
use Rattle.m17_app.proofs.run.run_show.Goals as goal

pub returns : goal.returns
returns g c = λ ports crew.
    let mid : Streams = streams (g.S.Input.told c.show-ending.new.input) (g.K.Sink.told c.show-ending.new.out) in
    ran show_command show_is_sound c.show-ending.result c.conclude.result _ mid _ ports crew c.show-ending.ensures.ended c.show-ending.ensures.causes c.show-ending.ensures.appended
    (rw c.into_ending.ensures at (c.conclude.ensures.concluded (some_memory c.show-ending.result _ c.into_ending.ensures) mid.source))
