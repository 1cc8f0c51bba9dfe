use Rattle.std.proofs.Common.{refl, subst}
use Rattle.std.proofs.lemmas.Bool.{false_from_ne_true}
use Rattle.m17_words.specs.declared.command.Command.{Command}
use Rattle.m17_app.specs.Commands.{HasThreads}
use Rattle.m17_app.proofs.run.run_command.Goals as goal

pub returns-in-Judge-clause-runs : goal.returns-in-Judge-clause-runs
returns-in-Judge-clause-runs g c =
    rw (c.in-Judge.is, c.alone.ensures.status, c.alone.ensures.none, c.alone.ensures.no_house, c.alone.ensures.no_refusal, c.alone.ensures.no_bridge, c.alone.ensures.no_board) (
      c.run_judge.ensures (g.P.Ports.told c.args.ports).faults (g.C.Crew.refusals c.args.crew.now),
      record { ports = refl; talk = refl; bridge = refl; serve = record { crew = refl; house = refl; refused = refl; board = refl } },
    )

pub returns-in-Show-clause-runs : goal.returns-in-Show-clause-runs
returns-in-Show-clause-runs g c =
    rw (c.in-Show.is, c.alone-in-Show.ensures.status, c.alone-in-Show.ensures.none, c.alone-in-Show.ensures.no_house, c.alone-in-Show.ensures.no_refusal, c.alone-in-Show.ensures.no_bridge, c.alone-in-Show.ensures.no_board) (
      c.run_show.ensures (g.P.Ports.told c.args.ports).faults (g.C.Crew.refusals c.args.crew.now),
      record { ports = refl; talk = refl; bridge = refl; serve = record { crew = refl; house = refl; refused = refl; board = refl } },
    )

pub returns-in-Make-clause-runs : goal.returns-in-Make-clause-runs
returns-in-Make-clause-runs g c =
    rw (c.in-Make.is, c.alone-in-Make.ensures.status, c.alone-in-Make.ensures.none, c.alone-in-Make.ensures.no_house, c.alone-in-Make.ensures.no_refusal, c.alone-in-Make.ensures.no_bridge, c.alone-in-Make.ensures.no_board) (
      c.run_make.ensures (g.P.Ports.told c.args.ports).faults (g.C.Crew.refusals c.args.crew.now),
      record { ports = refl; talk = refl; bridge = refl; serve = record { crew = refl; house = refl; refused = refl; board = refl } },
    )

pub returns-in-Check-clause-runs : goal.returns-in-Check-clause-runs
returns-in-Check-clause-runs g c =
    rw (c.in-Check.is, c.alone-in-Check.ensures.status, c.alone-in-Check.ensures.none, c.alone-in-Check.ensures.no_house, c.alone-in-Check.ensures.no_refusal, c.alone-in-Check.ensures.no_bridge, c.alone-in-Check.ensures.no_board) (
      c.run_check.ensures (g.P.Ports.told c.args.ports).faults (g.C.Crew.refusals c.args.crew.now),
      record { ports = refl; talk = refl; bridge = refl; serve = record { crew = refl; house = refl; refused = refl; board = refl } },
    )

pub returns-in-Migrate-clause-runs : goal.returns-in-Migrate-clause-runs
returns-in-Migrate-clause-runs g c =
    rw (c.in-Migrate.is, c.alone-in-Migrate.ensures.status, c.alone-in-Migrate.ensures.none, c.alone-in-Migrate.ensures.no_house, c.alone-in-Migrate.ensures.no_refusal, c.alone-in-Migrate.ensures.no_bridge, c.alone-in-Migrate.ensures.no_board) (
      c.run_migrate.ensures (g.P.Ports.told c.args.ports).faults (g.C.Crew.refusals c.args.crew.now),
      record { ports = refl; talk = refl; bridge = refl; serve = record { crew = refl; house = refl; refused = refl; board = refl } },
    )

pub returns-in-Replay-clause-runs : goal.returns-in-Replay-clause-runs
returns-in-Replay-clause-runs g c =
    rw (c.in-Replay.is, c.alone-in-Replay.ensures.status, c.alone-in-Replay.ensures.none, c.alone-in-Replay.ensures.no_house, c.alone-in-Replay.ensures.no_refusal, c.alone-in-Replay.ensures.no_bridge, c.alone-in-Replay.ensures.no_board) (
      c.run_replay-status.ensures.runs (g.P.Ports.told c.args.ports).faults,
      record { ports = refl; talk = refl; house = refl; refused = refl; bridge = refl; board = refl },
    )

pub returns-in-Talk-clause-runs : goal.returns-in-Talk-clause-runs
returns-in-Talk-clause-runs g c = rw c.in-Talk.is (c.run_talk-ended.ensures.runs (g.C.Crew.refusals c.args.crew.now))

pub returns-in-Serve-clause-runs : goal.returns-in-Serve-clause-runs
returns-in-Serve-clause-runs g c = rw c.in-Serve.is c.run_serve.ensures.runs

pub returns-in-Bridge-clause-runs : goal.returns-in-Bridge-clause-runs
returns-in-Bridge-clause-runs g c = rw c.in-Bridge.is (c.run_bridge.ensures.runs (g.S.Input.told c.args.input.now) (g.C.Crew.refusals c.args.crew.now))

pub returns-in-Serve-clause-idle : goal.returns-in-Serve-clause-idle
returns-in-Serve-clause-idle g c none = absurd (subst (λ (command : Command). HasThreads command → ⊥) c.in-Serve.is none tt)

pub returns-in-Replay-clause-idle : goal.returns-in-Replay-clause-idle
returns-in-Replay-clause-idle g c none =
    c.run_replay-status.ensures.idle (false_from_ne_true c.in-Replay.threads (subst (λ (command : Command). HasThreads command → ⊥) c.in-Replay.is none))
