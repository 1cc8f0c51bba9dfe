use Rattle.m17_app.proofs.ServeRuns.{has_memory, no_memory}
use Rattle.m17_app.proofs.run_serve.end_served.Goals as goal

pub returns-clause-memory : goal.returns-clause-memory
returns-clause-memory g c none = c.conclude.ensures.memory (no_memory c.args.served.ending _ c.into_ending.ensures none)

pub returns-clause-concluded : goal.returns-clause-concluded
returns-clause-concluded g c other source =
    rw c.into_ending.ensures at (c.conclude.ensures.concluded (has_memory c.args.served.ending _ c.into_ending.ensures other) source)
