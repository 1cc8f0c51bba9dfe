use Rattle.std.proofs.Common.{refl, ap}
use Rattle.m17_app.specs.Status.{Streams, streams}
use Rattle.m17_app.proofs.TalkRuns.{has_memory, no_run, ran}
use Rattle.m17_app.proofs.run_talk.run_talk.Goals as goal

pub returns-in-Ok-clause-runs : goal.returns-in-Ok-clause-runs
returns-in-Ok-clause-runs g c = λ crew.
    let mid : Streams = streams (g.S.Input.told c.talk.new.input) (g.K.Sink.told c.talk.new.out) in (
      ran c.args.order.now c.in-Ok.done.ending c.conclude.result _ mid _ _ crew c.scripts_are_exact.ensures c.in-Ok.ensures.ended c.in-Ok.ensures.causes
          (rw c.into_ending.ensures at (c.conclude.ensures.concluded (has_memory c.in-Ok.done.ending _ c.into_ending.ensures) mid.source)),
      (record { crew = refl; house = refl; refused = refl; board = refl }, refl),
    )

pub returns-in-Err-clause-runs : goal.returns-in-Err-clause-runs
returns-in-Err-clause-runs g c = λ crew.
    let same = c.in-Err.ensures.untouched.0 in
    rw (c.alone.ensures.status, c.alone.ensures.none, c.alone.ensures.no_house, c.alone.ensures.no_refusal, c.alone.ensures.no_bridge, c.alone.ensures.no_board) (
      no_run c.args.order.now _ _ _ crew c.scripts_are_exact.ensures (ap g.P.Ports.told same, refl) c.in-Err.ensures.untouched.1 c.in-Err.ensures.no_fault.0 c.in-Err.ensures.no_fault.1,
      (record { crew = refl; house = refl; refused = refl; board = refl }, refl),
    )
