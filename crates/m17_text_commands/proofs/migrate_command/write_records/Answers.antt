use Rattle.std.proofs.Common.{ℕ, ◌++◌, Some, sym, ap, subst, ◌∙◌, arith, rules, append_assoc, append-nil}
use Rattle.std.specs.List.{flat_map}
use Rattle.std.proofs.lemmas.List.{take_all}
use Rattle.m17_io.specs.Faults.{HasRisen}
use Rattle.m17_book.specs.Records.{record_bytes}
use Rattle.m17_text_commands.proofs.Written.{bytes_to, one_more, one_fits, begins_with, part_written}
use Rattle.m17_text_commands.proofs.migrate_command.write_records.Goals as goal

pub loop-one-init : goal.loop-one-init
loop-one-init g c = record {
  written = λ before told. told ∙ ap Some (sym (append-nil before));
  no_fault = search rules;
}

pub write_record-requires : goal.write_record-requires
write_record-requires g c = one_fits c.args.records.now c.loop-one.one-index c.one-item.result c.requires (omega arith) c.one-item.is

pub loop-one-preserved : goal.loop-one-preserved
loop-one-preserved g c = record {
  written = λ before told.
      let more = one_more c.args.records.now c.loop-one.one-index c.one-item.result (omega arith) c.one-item.is in
      (rw c.as_slice.ensures.value at c.in-Ok.ensures.ok) _ (c.loop-one.invariant.written before told)
      ∙ ap Some (append_assoc before (bytes_to c.args.records.now c.loop-one.one-index) _
      ∙ ap (λ xs. before ++ (bytes_to c.args.records.now c.loop-one.one-index ++ xs)) c.write_record.ensures.1 ∙ ap (λ xs. before ++ xs) (sym more));
  no_fault = c.in-Ok.ensures.cause.no_fault ∙ c.loop-one.invariant.no_fault;
}

pub returns-in-Err-clause-cause : goal.returns-in-Err-clause-cause
returns-in-Err-clause-cause g c = record {
  counted = omega (arith, c.in-Err.ensures.cause.counted, c.loop-one.invariant.no_fault);
  failed = subst (λ (n : ℕ). HasRisen n (g.K.Sink.told c.write.new.self).faults) c.loop-one.invariant.no_fault c.in-Err.ensures.cause.failed;
  no_fault = tt;
}

pub returns-in-Err-clause-err : goal.returns-in-Err-clause-err
returns-in-Err-clause-err g c = λ before told.
    part_written before (bytes_to c.args.records.now c.loop-one.one-index) _ _ (flat_map record_bytes c.args.records.now) _
    (begins_with c.args.records.now c.loop-one.one-index c.one-item.result _ (omega arith) c.one-item.is c.write_record.ensures.1)
    ((rw c.as_slice.ensures.value at c.in-Err.ensures.err) _ (c.loop-one.invariant.written before told))

pub returns-clause-cause : goal.returns-clause-cause
returns-clause-cause g c = record { counted = omega (arith, c.loop-one.invariant.no_fault); failed = tt; no_fault = c.loop-one.invariant.no_fault }

pub returns-clause-ok : goal.returns-clause-ok
returns-clause-ok g c = λ before told.
    let all = take_all c.loop-one.one-index c.args.records.now (omega arith) in
    c.loop-one.invariant.written before told ∙ ap (λ xs. Some (before ++ flat_map record_bytes xs)) all
