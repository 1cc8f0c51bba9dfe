use Rattle.m17_app.specs.Status.{Streams, streams}
use Rattle.m17_app.specs.Text.{migrate_command}
use Rattle.m17_app.proofs.Statuses.{some_memory}
use Rattle.m17_app.proofs.TextRuns.{migrate_is_sound, no_migrate, ran}
use Rattle.m17_app.proofs.run_migrate.run_migrate.Goals as goal

pub returns-in-Ok : goal.returns-in-Ok
returns-in-Ok g c = λ ports crew.
    let mid : Streams = streams (g.S.Input.told c.migrate.new.input) (g.K.Sink.told c.migrate.new.out) in
    ran migrate_command (migrate_is_sound c.books_are_exact.ensures) c.in-Ok.ending c.conclude.result _ mid _ ports crew c.in-Ok.ensures.ended
    c.in-Ok.ensures.causes c.in-Ok.ensures.appended
    (rw c.into_ending.ensures at (c.conclude.ensures.concluded (some_memory c.in-Ok.ending _ c.into_ending.ensures) mid.source))

pub returns-in-Err : goal.returns-in-Err
returns-in-Err g c = λ ports crew.
    no_migrate c.books_are_exact.ensures _ _ ports crew c.in-Err.ensures.unwritten c.in-Err.ensures.no_fault.0 c.in-Err.ensures.no_fault.1
