use Rattle.std.proofs.Common.{refl}
use Rattle.m17_decorators.specs.Guarded.{guard_told}
use Rattle.m17_client_commands.specs.Bridged.{bridge_told}
use Rattle.m17_app.specs.Status.{Streams, streams}
use Rattle.m17_app.proofs.BridgeRuns.{has_memory, no_run, ran}
use Rattle.m17_app.proofs.Fitting.{fails_inner}
use Rattle.m17_app.proofs.BothGuards.{guarded_back}
use Rattle.m17_app.proofs.run_bridge.run_bridge.Goals as goal

pub returns-in-Ok-clause-runs : goal.returns-in-Ok-clause-runs
returns-in-Ok-clause-runs g c = λ source crew.
    let mid : Streams = streams source (g.K.Sink.told c.bridge-ending.new.out) in (
      ran c.args.order.now c.bridge-ending.result.ending c.conclude.result _ mid _ _ crew refl c.bridge-ending.ensures.ended
          (guarded_back (bridge_told (guard_told g.P.Ear.Ear.told) g.P.Mouth.Mouth.told) c.bridge-ending.result.devices c.in-Ok.guards c.in-Ok.ensures c.bridge-ending.ensures.known)
          (c.bridge-ending.ensures.causes source.faults)
          (rw c.into_ending.ensures at (c.conclude.ensures.concluded (has_memory c.bridge-ending.result.ending _ c.into_ending.ensures) source)),
      (record { crew = refl; house = refl; refused = refl; board = refl }, refl),
    )

pub returns-in-Ok-clause-fails_last : goal.returns-in-Ok-clause-fails_last
returns-in-Ok-clause-fails_last g c =
    fails_inner g.P.Ports.told (λ guarded. guarded.ports) (record { ports = c.args.ports; guards = c.in-Ok.guards }) c.bridge-ending.new.ports c.bridge-ending.ensures.fails_last

pub returns-in-Err-clause-runs : goal.returns-in-Err-clause-runs
returns-in-Err-clause-runs g c = λ source crew.
    rw (c.alone.ensures.status, c.alone.ensures.none, c.alone.ensures.no_house, c.alone.ensures.no_refusal, c.alone.ensures.no_bridge, c.alone.ensures.no_board) (
      no_run c.args.order.now _ _ crew refl refl,
      (record { crew = refl; house = refl; refused = refl; board = refl }, refl),
    )
