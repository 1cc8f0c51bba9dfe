use Rattle.std.proofs.Common.{[], ◌∷◌, ◌++◌, refl, ap, ◌∙◌}
use Rattle.m17_print.specs.Refused.{stream_refusal_text}
use Rattle.m17_print.specs.Verdicts.{verdict_text}
use Rattle.m17_text_commands.proofs.RecordLines.{refusal_line, verdict_line}
use Rattle.m17_text_commands.proofs.judging.judge_record.Goals as goal

pub returns-in-Err : goal.returns-in-Err
returns-in-Err c = λ acts size stands.
    let text = c.push_byte-in-Err.ensures ∙ ap (λ xs. xs ++ 10 ∷ []) (c.push_stream_refusal.ensures.appended ∙ ap (λ xs. xs ++ stream_refusal_text c.in-Err.refusal) c.begin.ensures.begun) in
    (_, c.pass.ensures acts stands, refusal_line acts c.args.index _ c.args.bytes.now _ c.in-Err.refusal size c.record_moment-at.ensures (rw c.record_packet.ensures at ((c.in-Err.ensures.err c.in-Err.refusal).0 refl)) text)

pub returns-in-Ok : goal.returns-in-Ok
returns-in-Ok c = λ acts size stands.
    let text = c.push_byte.ensures ∙ ap (λ xs. xs ++ 10 ∷ []) (c.push_verdict.ensures.appended ∙ ap (λ xs. xs ++ verdict_text c.judge-verdict.result) c.begin.ensures.begun) in (
      _,
      c.judge-verdict.ensures.stands acts stands,
      verdict_line acts c.args.index _ _ c.args.bytes.now _ c.in-Ok.packet c.judge-verdict.result size c.record_moment-at.ensures
          c.record_talker.ensures (rw c.record_packet.ensures at ((c.in-Ok.ensures.ok c.in-Ok.packet).0 refl)) (c.judge-verdict.ensures.ruled acts stands) text,
    )
