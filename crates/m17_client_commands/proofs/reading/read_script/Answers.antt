use Rattle.std.proofs.Common.{◌≡◌, ◌*◌, ◌+◌, ◌≤◌, List, [], ◌∷◌, ◌++◌, length, subst, sym, ap, ◌∙◌, arith}
use Rattle.std.proofs.lemmas.Grind.{common_steps}
use Rattle.std.proofs.lemmas.List.{length_push}
use Rattle.m17_client.specs.Talk.{IsInOrder}
use Rattle.m17_client_commands.specs.Script.{Due, last_moment}
use Rattle.m17_client_commands.specs.Reading.{SaysFailure}
use Rattle.m17_client_commands.specs.declared.reason.ScriptFailure.{ScriptFailure}
use Rattle.m17_client_commands.proofs.Records.{IsAfter, at_end, one_more, in_order_more, last_more}
use Rattle.m17_client_commands.proofs.Stops.{stops, past_ok, past_err}
use Rattle.m17_client_commands.proofs.reading.read_script.Goals as goal

pub returns-in-Ok-eq0-clause-script : goal.returns-in-Ok-eq0-clause-script
returns-in-Ok-eq0-clause-script g c = λ bytes told.
    at_end bytes c.loop-index.script.items c.loop-index.bytes _ c.in-Ok-eq0.field-0 _ _ c.in-Ok-eq0.field-0-test (omega (arith, c.loop-index.invariant.size)) (c.loop-index.invariant.after bytes told)
    (c.in-Ok-eq0.ensures.filled _ (c.loop-index.invariant.after bytes told).rest_left)

pub returns-in-Err-read_record-clause-refused : goal.returns-in-Err-read_record-clause-refused
returns-in-Err-read_record-clause-refused g c = λ bytes told.
    let after = c.loop-index.invariant.after bytes told in
    let count : length c.loop-index.script.items ≡ c.loop-index.index = c.loop-index.invariant.count in
    let at : 62 * c.loop-index.index + c.in-Err-read_record.k ≡ 62 * length c.loop-index.script.items + c.in-Err-read_record.k = omega arith in
    let refuses = stops bytes c.loop-index.script.items c.loop-index.last c.loop-index.bytes c.fill.new.into c.in-Ok.taken c.in-Err-read_record.k _ c.in-Err-read_record.reason _ _
    c.loop-index.invariant.size (omega (arith, c.in-Ok.ensures.within, c.loop-index.invariant.size)) (omega arith) c.loop-index.invariant.last_is at after
    (c.in-Ok.ensures.filled _ after.rest_left) c.in-Err-read_record.ensures in
    subst (λ (f : ScriptFailure). SaysFailure f bytes) (sym c.refused.ensures) refuses

pub loop-index-preserved : goal.loop-index-preserved
loop-index-preserved g c =
    let pushed : c.push.new.self.items ≡ c.loop-index.script.items ++ c.in-Ok-read_record.due ∷ [] = grind (arith, common_steps) in
    let later : last_moment c.loop-index.script.items ≤ c.in-Ok-read_record.due.0 = omega (arith, c.in-Ok-read_record.ensures.1, c.loop-index.invariant.last_is) in
    let count : length c.loop-index.script.items ≡ c.loop-index.index = c.loop-index.invariant.count in
    record {
      after = λ bytes told.
          let after = c.loop-index.invariant.after bytes told in
          subst (λ (s : List Due). IsAfter bytes s (g.S.Input.told c.fill.new.input).left) (sym pushed)
          (one_more bytes c.loop-index.script.items c.in-Ok-read_record.due c.loop-index.bytes c.fill.new.into c.in-Ok.taken _ _
          (omega (arith, c.in-Ok.ensures.within, c.loop-index.invariant.size)) (omega arith) after (c.in-Ok.ensures.filled _ after.rest_left) c.in-Ok-read_record.ensures.0 later);
      in_order = subst (λ (s : List Due). IsInOrder s) (sym pushed) (in_order_more c.loop-index.script.items c.in-Ok-read_record.due c.loop-index.invariant.in_order later);
      last_is = sym (ap (λ (s : List Due). last_moment s) pushed ∙ last_more c.loop-index.script.items c.in-Ok-read_record.due);
      count = ap (λ (s : List Due). length s) pushed ∙ length_push c.loop-index.script.items c.in-Ok-read_record.due ∙ ap (λ n. n + 1) count;
      size = c.fill.auto.into ∙ c.loop-index.invariant.size;
      reads = c.in-Ok.ensures.causes.no_read_fault (λ e. cc) ∙ c.loop-index.invariant.reads;
      writes = c.in-Ok.ensures.causes.no_write_fault (λ e. cc) ∙ c.loop-index.invariant.writes;
      written = c.in-Ok.ensures.nothing_written ∙ c.loop-index.invariant.written;
    }

pub returns-clause-script : goal.returns-clause-script
returns-clause-script g c = past_ok (λ script. script.items) c.look_past.result c.loop-index.script.items _ _ _ c.look_past.ensures.kept c.look_past.ensures.looks c.loop-index.invariant.after

pub returns-clause-refused : goal.returns-clause-refused
returns-clause-refused g c = past_err c.look_past.result c.loop-index.script.items _ _ _ (omega (arith, c.loop-index.invariant.count)) c.look_past.ensures.looks c.loop-index.invariant.after
