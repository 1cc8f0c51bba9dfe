use Rattle.m17_app.specs.Status.{Streams, streams}
use Rattle.m17_app.specs.Text.{judge_command}
use Rattle.m17_app.proofs.Statuses.{some_memory}
use Rattle.m17_app.proofs.TextRuns.{judge_is_sound, no_run, ran}
use Rattle.m17_app.proofs.run.run_judge.Goals as goal

pub returns-in-Ok : goal.returns-in-Ok
returns-in-Ok g c = λ ports crew.
    let mid : Streams = streams (g.S.Input.told c.judge.new.input) (g.K.Sink.told c.judge.new.out) in
    ran judge_command judge_is_sound c.in-Ok.ending c.conclude.result _ mid _ ports crew c.in-Ok.ensures.ended c.in-Ok.ensures.causes c.judge.ensures.appended
    (rw c.into_ending.ensures at (c.conclude.ensures.concluded (some_memory c.in-Ok.ending _ c.into_ending.ensures) mid.source))

pub returns-in-Err : goal.returns-in-Err
returns-in-Err g c = λ ports crew. rw (c.in-Err.ensures.untouched.0, c.in-Err.ensures.untouched.1) (no_run _ ports crew)
