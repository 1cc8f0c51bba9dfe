use Rattle.std.proofs.Common.{Bool, sym, subst}
use Rattle.m17_app.specs.Replayed.{replay_terms}
use Rattle.m17_app.specs.Status.{Count, beside, count_from, streams}
use Rattle.m17_app.specs.Terms.{RunsCommand}
use Rattle.m17_app.proofs.run_replay.run_replay.Goals as goal

pub returns-then-threads-clause-runs : goal.returns-then-threads-clause-runs
returns-then-threads-clause-runs g c = λ ports.
    let crew : Count = count_from (g.C.Crew.refusals c.args.crew.now) (g.C.Crew.refusals c.run_over_threads.new.crew) in
    subst (λ (threads : Bool). RunsCommand (replay_terms c.args.plan.now c.args.summary threads crew) c.run_over_threads.result
    (streams (g.S.Input.told c.args.input.now) (g.K.Sink.told c.args.out.now))
    (streams (g.S.Input.told c.run_over_threads.new.input) (g.K.Sink.told c.run_over_threads.new.out)) (beside (count_from ports ports) crew))
    (sym c.if-threads.true) (c.run_over_threads.ensures.runs ports)

pub returns-else-threads-clause-runs : goal.returns-else-threads-clause-runs
returns-else-threads-clause-runs g c = λ ports.
    let crew : Count = count_from (g.C.Crew.refusals c.args.crew.now) (g.C.Crew.refusals c.args.crew.now) in
    subst (λ (threads : Bool). RunsCommand (replay_terms c.args.plan.now c.args.summary threads crew) c.run_in_one_thread.result
    (streams (g.S.Input.told c.args.input.now) (g.K.Sink.told c.args.out.now))
    (streams (g.S.Input.told c.run_in_one_thread.new.input) (g.K.Sink.told c.run_in_one_thread.new.out)) (beside (count_from ports ports) crew))
    (sym c.if-threads.false) (c.run_in_one_thread.ensures ports (g.C.Crew.refusals c.args.crew.now))
