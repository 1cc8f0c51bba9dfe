use Rattle.std.proofs.Common.{◌≡◌, ℕ, ◌*◌, ◌++◌, Some, Err, drop, refl, ap, subst, ◌∙◌, arith}
use Rattle.m17_print.proofs.Grown.{grows_none, grows_then, grows_line, grows_part}
use Rattle.m17_io.specs.Fill.{IsFilled}
use Rattle.m17_text_commands.proofs.JudgeRun.{at_start, next_judged, one_more, all_judged, finished, cut, read_failed, write_failed, line_failed}
use Rattle.m17_text_commands.proofs.judge_command.judge_records.Goals as goal

pub loop-index-init : goal.loop-index-init
loop-index-init g c = record {
  after = λ bytes told. at_start bytes _ _ _ told c.requires;
  appended = grows_none _ _ refl;
  size = refl;
  reads = omega arith;
  writes = omega arith;
}

pub returns-in-Ok-eq0-clause-ended : goal.returns-in-Ok-eq0-clause-ended
returns-in-Ok-eq0-clause-ended g c = λ bytes told.
    let after = c.loop-index.invariant.after bytes told in
    finished bytes c.loop-index.index _ _ _ _ _ _ c.loop-index.record _ c.in-Ok-eq0.field-0 (omega arith) (omega arith) c.loop-index.invariant.size c.in-Ok-eq0.ensures.nothing_written after (c.in-Ok-eq0.ensures.filled (drop (64 * c.loop-index.index) bytes) after.rest_left)

pub returns-in-Ok-eq0-clause-appended : goal.returns-in-Ok-eq0-clause-appended
returns-in-Ok-eq0-clause-appended g c = grows_then _ _ _ c.loop-index.invariant.appended (grows_none _ _ c.in-Ok-eq0.ensures.nothing_written)

pub returns-in-Ok-clause-ended : goal.returns-in-Ok-clause-ended
returns-in-Ok-clause-ended g c = λ bytes told.
    let after = c.loop-index.invariant.after bytes told in
    cut bytes c.loop-index.index _ _ _ _ _ _ c.loop-index.record _ c.in-Ok.n (omega (arith, c.in-Ok.n-test.1)) (omega (arith, c.in-Ok.n-test.0.1, c.in-Ok.ensures.within)) (omega arith) c.loop-index.invariant.size c.in-Ok.ensures.nothing_written after (c.in-Ok.ensures.filled (drop (64 * c.loop-index.index) bytes) after.rest_left)

pub returns-in-Ok-clause-appended : goal.returns-in-Ok-clause-appended
returns-in-Ok-clause-appended g c = grows_then _ _ _ c.loop-index.invariant.appended (grows_none _ _ c.in-Ok.ensures.nothing_written)

pub returns-in-Err-Read-clause-ended : goal.returns-in-Err-Read-clause-ended
returns-in-Err-Read-clause-ended g c = λ bytes told.
    let after = c.loop-index.invariant.after bytes told in
    read_failed bytes c.loop-index.index _ _ _ _ _ _ _ (omega arith) c.loop-index.invariant.size c.in-Err-Read.ensures.nothing_written after (c.in-Err-Read.ensures.cut_short (ap Err c.in-Err-Read.field-0-is) (drop (64 * c.loop-index.index) bytes) after.rest_left)

pub returns-in-Err-Read-clause-appended : goal.returns-in-Err-Read-clause-appended
returns-in-Err-Read-clause-appended g c = grows_then _ _ _ c.loop-index.invariant.appended (grows_none _ _ c.in-Err-Read.ensures.nothing_written)

pub returns-in-Err-Write-clause-ended : goal.returns-in-Err-Write-clause-ended
returns-in-Err-Write-clause-ended g c = λ bytes told.
    write_failed bytes c.loop-index.index _ _ _ _ _ _ (omega arith) c.in-Err-Write.ensures.nothing_written (c.loop-index.invariant.after bytes told)

pub returns-in-Err-Write-clause-appended : goal.returns-in-Err-Write-clause-appended
returns-in-Err-Write-clause-appended g c = grows_then _ _ _ c.loop-index.invariant.appended (grows_none _ _ c.in-Err-Write.ensures.nothing_written)

pub returns-clause-full : goal.returns-clause-full
returns-clause-full g c = λ bytes told. all_judged bytes c.loop-index.index _ _ _ _ (omega arith) (c.loop-index.invariant.after bytes told)

pub returns-clause-appended : goal.returns-clause-appended
returns-clause-appended g c = c.loop-index.invariant.appended

pub returns-in-Err-clause-ended : goal.returns-in-Err-clause-ended
returns-in-Err-clause-ended g c = λ bytes told.
    let after = c.loop-index.invariant.after bytes told in
    let whole : c.in-Ok-eq64.field-0 ≡ 64 = omega arith in
    let filled = subst (λ (n : ℕ). IsFilled (drop (64 * c.loop-index.index) bytes) n c.loop-index.record c.fill.new.into (g.S.Input.told c.fill.new.input).left) whole (c.in-Ok-eq64.ensures.filled (drop (64 * c.loop-index.index) bytes) after.rest_left) in
    let next = next_judged c.later_acts_change_no_verdict.ensures bytes c.loop-index.index _ _ _ _ _ _ c.loop-index.record c.fill.new.into c.judge_record.new.line after c.loop-index.invariant.size filled c.judge_record.ensures in
    line_failed bytes c.loop-index.index _ _ (g.K.Sink.told c.args.out.now).written (g.K.Sink.told c.fill.new.out).written (g.K.Sink.told c.write.new.self).written after.text c.judge_record.new.line (omega arith) next
    (λ before told_now. c.in-Ok-eq64.ensures.nothing_written ∙ after.printed before told_now)
    (λ before told_now. rw (← c.bytes.ensures.value) (c.in-Err.ensures.err before told_now))

pub returns-in-Err-clause-appended : goal.returns-in-Err-clause-appended
returns-in-Err-clause-appended g c =
    grows_then _ _ _ c.loop-index.invariant.appended (grows_then _ _ _ (grows_none _ _ c.in-Ok-eq64.ensures.nothing_written) (grows_part _ _ _ c.in-Err.ensures.err))

pub loop-index-preserved : goal.loop-index-preserved
loop-index-preserved g c = record {
  after = λ bytes told.
      let after = c.loop-index.invariant.after bytes told in
      let whole : c.in-Ok-eq64.field-0 ≡ 64 = omega arith in
      let filled = subst (λ (n : ℕ). IsFilled (drop (64 * c.loop-index.index) bytes) n c.loop-index.record c.fill.new.into (g.S.Input.told c.fill.new.input).left) whole (c.in-Ok-eq64.ensures.filled (drop (64 * c.loop-index.index) bytes) after.rest_left) in
      let next = next_judged c.later_acts_change_no_verdict.ensures bytes c.loop-index.index _ _ _ _ _ _ c.loop-index.record c.fill.new.into c.judge_record.new.line after c.loop-index.invariant.size filled c.judge_record.ensures in
      one_more bytes c.loop-index.index _ _ (g.K.Sink.told c.args.out.now).written (g.K.Sink.told c.fill.new.out).written (g.K.Sink.told c.write.new.self).written after.text c.judge_record.new.line next
      (λ before told_now. c.in-Ok-eq64.ensures.nothing_written ∙ after.printed before told_now)
      (λ before told_now. c.in-Ok-write.ensures.ok before told_now ∙ ap (λ xs. Some (before ++ xs)) c.bytes.ensures.value);
  appended = grows_then _ _ _ c.loop-index.invariant.appended (grows_then _ _ _ (grows_none _ _ c.in-Ok-eq64.ensures.nothing_written) (grows_line _ _ _ c.in-Ok-write.ensures.ok));
  size = c.fill.auto.into ∙ c.loop-index.invariant.size;
  reads = c.in-Ok-eq64.ensures.causes.no_read_fault (λ e. cc) ∙ c.loop-index.invariant.reads;
  writes = c.in-Ok-write.ensures.cause.no_fault ∙ c.in-Ok-eq64.ensures.causes.no_write_fault (λ e. cc) ∙ c.loop-index.invariant.writes;
}
