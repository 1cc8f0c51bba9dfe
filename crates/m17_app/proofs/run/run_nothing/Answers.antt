use Rattle.m17_app.proofs.MakeRuns.{refused}
use Rattle.m17_app.proofs.run.run_nothing.Goals as goal

pub returns : goal.returns
returns g c = λ ports crew.
    refused c.refuse_words.result _ _ ports crew (c.refuse_words.ensures (g.S.Input.told c.args.input.now))
