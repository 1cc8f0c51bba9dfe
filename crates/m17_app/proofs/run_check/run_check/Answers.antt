use Rattle.m17_app.specs.Status.{Streams, streams}
use Rattle.m17_app.specs.Text.{check_command}
use Rattle.m17_app.proofs.Statuses.{some_memory}
use Rattle.m17_app.proofs.TextRuns.{check_is_sound, ran}
use Rattle.m17_app.proofs.run_check.run_check.Goals as goal

pub returns : goal.returns
returns g c = λ ports crew.
    let mid : Streams = streams (g.S.Input.told c.check-ending.new.input) (g.K.Sink.told c.check-ending.new.out) in
    ran check_command (check_is_sound c.legal_books_are_not_refused.ensures) c.check-ending.result c.conclude.result _ mid _ ports crew c.check-ending.ensures.ended
    c.check-ending.ensures.causes c.check-ending.ensures.appended
    (rw c.into_ending.ensures at (c.conclude.ensures.concluded (some_memory c.check-ending.result _ c.into_ending.ensures) mid.source))
