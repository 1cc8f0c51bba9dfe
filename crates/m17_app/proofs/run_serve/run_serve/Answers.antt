use Rattle.std.proofs.Common.{ℕ, List, None, Option, false, refl, sym, ap, subst, ◌∙◌, inr}
use Rattle.std.specs.Option.{option_map}
use Rattle.m17_serve.specs.Served.{ComesToServe, HasCauses, NeverRan, counts}
use Rattle.m17_app.specs.declared.fitted.Fittings.{Fittings}
use Rattle.m17_app.specs.Doing.{doing, beside_of, serve_side}
use Rattle.m17_app.specs.Status.{Streams, code_of, streams}
use Rattle.m17_app.proofs.Fitting.{fails_inner}
use Rattle.m17_app.proofs.ServeRuns.{has_room, keeps_by, memory_ending, served, taken_on, wants_room, without_rules}
use Rattle.m17_app.proofs.run_serve.run_serve.Goals as goal

pub returns-in-Ok-clause-runs : goal.returns-in-Ok-clause-runs
returns-in-Ok-clause-runs g c =
    let order = c.args.order.now in
    let ran = c.serve-served in
    let done = c.end_served in
    let taken = c.in-Ok.ensures in
    let fittings = c.in-Ok.fittings in
    let source = g.S.Input.told c.fittings_for.new.input in
    let before : Streams = streams (g.S.Input.told c.args.input.now) (g.K.Sink.told c.args.out.now) in
    let kept : Streams = streams source (g.K.Sink.told c.fittings_for.new.out) in
    let mid : Streams = streams source (g.K.Sink.told ran.new.out) in
    let run = doing g.P.Ear.Ear.told g.P.Mouth.Mouth.told g.P.Book.Book.told (g.P.Ports.told c.args.ports) (g.P.Ports.told ran.new.ports.ports)
    (g.C.Crew.refusals c.args.crew.now) (g.C.Crew.refusals ran.new.crew)
    (record { status = code_of done.result.status; talk = None; house = ran.result.house; refused = ran.result.refused; bridge = None; board = ran.result.board }) in
    rw (done.ensures.no_talk, done.ensures.no_bridge, done.ensures.house, done.ensures.refused, done.ensures.board) (
      served order (serve_side run) c.no_rules_are_refused.ensures fittings ran.result.ending done.result.status before mid _ (beside_of run)
          (taken_on order.rules fittings.rules.rules before kept mid taken.rules refl)
          taken.fill
          taken.guards
          taken.paces
          taken.each
          ran.ensures.known
          (taken.causes.no_read_fault (λ e. cc))
          (λ none. keeps_by order.rules before kept mid (ap (λ out. streams source (g.K.Sink.told out)) (ran.ensures.untouched (subst NeverRan (sym none) tt))) taken.kept)
          (subst (λ (first : Option (List ℕ)). ComesToServe order ran.result.ending (serve_side run) first mid.sink.written) taken.nothing_written ran.ensures.ended)
          (subst (λ (n : ℕ). HasCauses ran.result.ending (counts run.before.faults run.crew_before n) (counts run.after.faults run.crew_after mid.sink.faults)) (taken.causes.no_write_fault (λ e. cc)) ran.ensures.causes)
          (λ other. done.ensures.concluded other source)
          (λ none. let same = done.ensures.memory none in (same.0, ap (λ out. streams source (g.K.Sink.told out)) same.1)),
      (refl, refl, (λ none. ap (option_map _) (ran.ensures.unnamed none))),
    )

pub returns-in-Ok-clause-fails_last : goal.returns-in-Ok-clause-fails_last
returns-in-Ok-clause-fails_last g c =
    fails_inner g.P.Ports.told (λ fitted. fitted.ports) (record { ports = c.args.ports; fittings = c.in-Ok.fittings; clock = c.serve-served.new.ports.clock }) c.serve-served.new.ports
    c.serve-served.ensures.fails_last

pub returns-in-Ok-clause-unasked : goal.returns-in-Ok-clause-unasked
returns-in-Ok-clause-unasked g c is none =
    let ran = c.serve-served in
    let mid : Streams = streams (record { left = None; at_hand = false; faults = 0 }) (g.K.Sink.told ran.new.out) in
    ran.ensures.unasked (inr (memory_ending ran.result.ending c.end_served.result.status mid _ (λ other. c.end_served.ensures.concluded other mid.source) is))
    (sym c.end_served.ensures.board ∙ none)

pub returns-in-Ok-clause-watch : goal.returns-in-Ok-clause-watch
returns-in-Ok-clause-watch g c some named none =
    c.serve-served.ensures.watch (λ no. some (c.end_served.ensures.refused ∙ no)) named (sym c.end_served.ensures.board ∙ none)

pub returns-in-Ok-clause-withheld : goal.returns-in-Ok-clause-withheld
returns-in-Ok-clause-withheld g c withheld = c.end_served.ensures.board ∙ c.serve-served.ensures.withheld withheld

pub returns-in-Err-clause-runs : goal.returns-in-Err-clause-runs
returns-in-Err-clause-runs g c =
    let failure = c.in-Err.failure in
    let source = g.S.Input.told c.fittings_for.new.input in
    let before : Streams = streams (g.S.Input.told c.args.input.now) (g.K.Sink.told c.args.out.now) in
    let mid : Streams = streams source (g.K.Sink.told c.fittings_for.new.out) in
    let run = doing {R = g.row.R.Denot} g.P.Ear.Ear.told g.P.Mouth.Mouth.told g.P.Book.Book.told (g.P.Ports.told c.args.ports) (g.P.Ports.told c.args.ports)
    (g.C.Crew.refusals c.args.crew.now) (g.C.Crew.refusals c.args.crew.now)
    (record { status = code_of c.conclude.result; talk = None; house = None; refused = None; bridge = None; board = None }) in
    rw (c.alone.ensures.status, c.alone.ensures.none, c.alone.ensures.no_house, c.alone.ensures.no_refusal, c.alone.ensures.no_bridge, c.alone.ensures.no_board) (
      without_rules c.args.order.now (serve_side run) c.no_rules_are_refused.ensures Fittings failure c.conclude.result before mid _ (beside_of run)
          c.in-Err.ensures.asked c.in-Err.ensures.no_memory (refl, (refl, refl, refl)) refl refl
          c.in-Err.ensures.refused c.in-Err.ensures.causes c.in-Err.ensures.nothing_written
          (λ other. rw c.into_ending.ensures at (c.conclude.ensures.concluded (has_room failure _ c.into_ending.ensures other) source))
          (λ none. let same = c.conclude.ensures.memory (wants_room failure _ c.into_ending.ensures none) in (same.0, ap (λ out. streams source (g.K.Sink.told out)) same.1)),
      (refl, refl, (λ _. refl)),
    )
