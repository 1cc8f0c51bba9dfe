use Rattle.std.proofs.Common.{List, [], Some, sym, subst}
use Rattle.m17_io.specs.Faults.{HasCauses}
use Rattle.m17_values.specs.declared.heard.Heard.{Heard}
use Rattle.m17_print.proofs.Grown.{grows_none, grows_then}
use Rattle.m17_replay.specs.Replay.{streams, ComesToReplay}
use Rattle.m17_replay.specs.Run.{stopped_by, IsPrinted}
use Rattle.m17_replay.proofs.Ends.{in_err, in_ok, printed_causes, printed_ends, printed_grows}
use Rattle.m17_replay.proofs.replay_command.replay.Goals as goal

pub returns-in-Ok-Err-clause-ended : goal.returns-in-Ok-Err-clause-ended
returns-in-Ok-Err-clause-ended g c = λ bytes told.
    let says = in_err c.in-Ok-Err.field-0 _ _ c.in-Ok-Err.ending c.in-Ok-Err.field-0-is (c.in-Ok-Err.ensures.read bytes told) in
    says c.args.plan.now c.args.summary

pub returns-in-Ok-clause-causes : goal.returns-in-Ok-clause-causes
returns-in-Ok-clause-causes g c =
    printed_causes _ _ _ _ _ _ c.in-Ok.ensures.printed _ _ _
    (subst (λ read. HasCauses ((g.S.Input.told c.args.input.now).faults, (g.K.Sink.told c.args.out.now).faults) ((g.S.Input.told c.read_heard.new.input).faults, (g.K.Sink.told c.read_heard.new.out).faults) (stopped_by read))
    c.in-Ok-Ok.field-0-is c.in-Ok-Ok.ensures.causes)

pub returns-in-Ok-clause-ended : goal.returns-in-Ok-clause-ended
returns-in-Ok-clause-ended g c = λ bytes told.
    let read = in_ok c.in-Ok-Ok.field-0 _ _ c.in-Ok-Ok.heard c.in-Ok-Ok.field-0-is (c.in-Ok-Ok.ensures.read bytes told) in
    let printed = subst (λ (heard : List Heard). IsPrinted c.args.plan.now c.args.summary heard c.in-Ok.ending (g.K.Sink.told c.read_heard.new.out) (g.K.Sink.told c.play.new.out)) c.deref.ensures.value c.in-Ok.ensures.printed in
    subst (λ left. ComesToReplay c.args.plan.now c.args.summary c.in-Ok.ending (streams bytes left (g.K.Sink.told c.args.out.now).written (g.K.Sink.told c.play.new.out).written)) (sym read.1)
    (subst (λ first. ComesToReplay c.args.plan.now c.args.summary c.in-Ok.ending (streams bytes (Some []) first (g.K.Sink.told c.play.new.out).written)) c.in-Ok-Ok.ensures.nothing_written
    (printed_ends _ _ _ _ _ _ printed bytes read.0))

pub returns-in-Ok-clause-appended : goal.returns-in-Ok-clause-appended
returns-in-Ok-clause-appended g c =
    grows_then _ _ _ (grows_none _ _ c.in-Ok-Ok.ensures.nothing_written) (printed_grows _ _ _ _ _ _ c.in-Ok.ensures.printed)
