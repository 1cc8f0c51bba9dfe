use Rattle.std.proofs.Common.{true, refl}
use Rattle.m17_app.specs.Status.{Streams, count_from, streams}
use Rattle.m17_app.proofs.ReplayRuns.{has_memory, no_run, ran, some_memory}
use Rattle.m17_app.proofs.run_replay.run_over_threads.Goals as goal

pub returns-in-Ok-clause-runs : goal.returns-in-Ok-clause-runs
returns-in-Ok-clause-runs g c = λ ports.
    let mid : Streams = streams (g.S.Input.told c.replay_over_threads.new.input) (g.K.Sink.told c.replay_over_threads.new.out) in
    ran c.args.plan.now c.args.summary true c.in-Ok.ended c.conclude.result _ mid _ ports (count_from _ _) c.traces_are_exact.ensures c.lost_by_sixteen_faults.ensures
    c.in-Ok.ensures.crew (λ _. refl) c.in-Ok.ensures.ended c.in-Ok.ensures.causes c.replay_over_threads.ensures.appended c.in-Ok.ensures.unwritten
    (rw c.into_ending.ensures at (c.conclude.ensures.concluded (has_memory c.in-Ok.ended _ c.into_ending.ensures) mid.source))

pub returns-in-Ok-clause-unasked : goal.returns-in-Ok-clause-unasked
returns-in-Ok-clause-unasked g c is =
    let mid : Streams = streams (g.S.Input.told c.replay_over_threads.new.input) (g.K.Sink.told c.replay_over_threads.new.out) in
    absurd (some_memory c.in-Ok.ended c.conclude.result mid _
    (rw c.into_ending.ensures at (c.conclude.ensures.concluded (has_memory c.in-Ok.ended _ c.into_ending.ensures) mid.source)) is)

pub returns-in-Err-clause-runs : goal.returns-in-Err-clause-runs
returns-in-Err-clause-runs g c = λ ports.
    no_run c.args.plan.now c.args.summary true _ _ ports (count_from _ _) c.traces_are_exact.ensures c.lost_by_sixteen_faults.ensures c.in-Err.ensures.untouched
    c.in-Err.ensures.no_fault.0 c.in-Err.ensures.no_fault.1 c.in-Err.ensures.crew
