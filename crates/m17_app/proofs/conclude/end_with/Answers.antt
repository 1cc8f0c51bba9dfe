use Rattle.m17_app.proofs.LastLines.{handed_on, not_handed_on, not_written}
use Rattle.m17_app.proofs.conclude.end_with.Goals as goal

pub returns-in-Ok-flush : goal.returns-in-Ok-flush
returns-in-Ok-flush g c = λ source.
    handed_on c.args.line.now c.args.status source _ (g.K.Sink.told c.write.new.self) _ c.in-Ok.ensures.ok c.flush.ensures.same
    c.in-Ok.ensures.cause.no_fault c.in-Ok-flush.ensures.cause.no_fault c.in-Ok-flush.ensures.handed_on

pub returns-in-Err-flush : goal.returns-in-Err-flush
returns-in-Err-flush g c = λ source.
    not_handed_on c.args.line.now c.args.status source _ (g.K.Sink.told c.write.new.self) _ c.in-Ok.ensures.ok c.flush.ensures.same
    c.in-Ok.ensures.cause.no_fault c.in-Err-flush.ensures.cause.failed c.flush.ensures.cause.counted

pub returns-in-Err : goal.returns-in-Err
returns-in-Err g c = λ source.
    not_written c.args.line.now c.args.status source _ _ c.in-Err.ensures.err c.in-Err.ensures.cause.failed c.write.ensures.cause.counted
