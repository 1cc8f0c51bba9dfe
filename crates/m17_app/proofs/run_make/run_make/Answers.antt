use Rattle.std.proofs.Common.{refl}
use Rattle.m17_app.specs.Status.{Streams, streams}
use Rattle.m17_app.proofs.MakeRuns.{ran, failed}
use Rattle.m17_app.proofs.run_make.run_make.Goals as goal

pub returns-in-Ok : goal.returns-in-Ok
returns-in-Ok g c = λ ports crew.
    let mid : Streams = streams (g.S.Input.told c.args.input.now) (g.K.Sink.told c.make.new.out) in
    ran c.args.seed c.args.count c.end_with.result _ mid _ ports crew c.in-Ok.ensures.ok c.make.ensures.cause.counted c.in-Ok.ensures.cause.no_fault refl (c.end_with.ensures mid.source)

pub returns-in-Err : goal.returns-in-Err
returns-in-Err g c = λ ports crew.
    failed c.args.seed c.args.count _ _ ports crew c.in-Err.ensures.err c.make.ensures.cause.counted c.in-Err.ensures.cause.failed refl
