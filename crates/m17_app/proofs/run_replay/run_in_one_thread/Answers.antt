use Rattle.std.proofs.Common.{ℕ, false, refl}
use Rattle.m17_app.specs.Status.{Streams, count_from, streams}
use Rattle.m17_app.proofs.ReplayRuns.{has_memory, no_run, none_started, ran}
use Rattle.m17_app.proofs.run_replay.run_in_one_thread.Goals as goal

pub returns-in-Ok : goal.returns-in-Ok
returns-in-Ok g c = λ ports crew.
    let mid : Streams = streams (g.S.Input.told c.replay.new.input) (g.K.Sink.told c.replay.new.out) in
    ran c.args.plan.now c.args.summary false c.in-Ok.ending c.conclude.result _ mid _ ports (count_from crew crew) c.traces_are_exact.ensures c.lost_by_sixteen_faults.ensures
    (none_started c.in-Ok.ending crew c.in-Ok.ensures.no_crew) (λ is. absurd (c.in-Ok.ensures.no_crew is)) c.in-Ok.ensures.ended c.in-Ok.ensures.causes c.replay.ensures.appended c.in-Ok.ensures.unwritten
    (rw c.into_ending.ensures at (c.conclude.ensures.concluded (has_memory c.in-Ok.ending _ c.into_ending.ensures) mid.source))

pub returns-in-Err : goal.returns-in-Err
returns-in-Err g c = λ ports crew.
    no_run c.args.plan.now c.args.summary false _ _ ports (count_from crew crew) c.traces_are_exact.ensures c.lost_by_sixteen_faults.ensures c.in-Err.ensures.untouched
    c.in-Err.ensures.no_fault.0 c.in-Err.ensures.no_fault.1 refl
