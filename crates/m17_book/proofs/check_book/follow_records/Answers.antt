use Rattle.std.proofs.Common.{◌<◌, ◌-◌, ◌^◌, [], length, inl, inr, refl, ap, rules, arith}
use Rattle.m17_book.specs.Records.{SpellsRecord}
use Rattle.m17_book.specs.Walk.{spot, WrongRecord}
use Rattle.m17_book.specs.declared.report.Breach.{Breach}
use Rattle.m17_book.specs.declared.report.Report.{Report}
use Rattle.m17_book.specs.declared.version.Version.TheVariants.{Two}
use Rattle.std.specs.Prelude.{Result}
use Rattle.m17_book.specs.declared.refusal.FormRefusal.TheVariants.{Large}
use Rattle.m17_book.proofs.Passing.{first_passed, added, ended, stopped}
use Rattle.m17_book.proofs.SeenBook.{few_records}
use Rattle.m17_book.proofs.check_book.follow_records.Goals as goal

pub records-init : goal.records-init
records-init g c = record {
  passed = λ ahead is. ([], inl c.new-checker.ensures, first_passed (SpellsRecord Two) (spot c.args.cursor.now (g.S.Input.told c.args.source.now).left) ahead [] refl is);
  sound = search rules;
}

pub records-preserved : goal.records-preserved
records-preserved g c = record {
  passed = λ ahead is.
      let before = c.records.invariant.passed ahead is in
      let few : length before.0 < 2 ^ 64 - 1 = few_records (c.records_are_clear.ensures Two) c.args.cursor.now.place ahead before.0 (spot c.records.cursor (g.S.Input.told c.records.source).left) before.2 (omega arith) in
      let step = c.in-Ok-true.ensures.read c.args.limit before.2.rest before.0 before.2.rest_is before.1 few in (
        step.0,
        step.1,
        added (SpellsRecord Two) (WrongRecord Two) c.args.cursor.now.place ahead before.0 step.0
            (spot c.records.cursor (g.S.Input.told c.records.source).left) (spot c.follow_record.new.cursor (g.S.Input.told c.follow_record.new.source).left) before.2
            c.in-Ok-true.field-0 c.in-Ok-true.field-0-test step.2,
      );
  sound = search rules;
}

pub returns-in-Ok-false-clause-read : goal.returns-in-Ok-false-clause-read
returns-in-Ok-false-clause-read g c = λ ahead is.
    let before = c.records.invariant.passed ahead is in
    let few : length before.0 < 2 ^ 64 - 1 = few_records (c.records_are_clear.ensures Two) c.args.cursor.now.place ahead before.0 (spot c.records.cursor (g.S.Input.told c.records.source).left) before.2 (omega arith) in
    let step = c.in-Ok-false.ensures.read c.args.limit before.2.rest before.0 before.2.rest_is before.1 few in (
      step.0,
      c.outcome.ensures c.args.limit step.0 step.1,
      ended (SpellsRecord Two) (WrongRecord Two) c.args.cursor.now.place ahead before.0 step.0
          (spot c.records.cursor (g.S.Input.told c.records.source).left) (spot c.follow_record.new.cursor (g.S.Input.told c.follow_record.new.source).left) before.2
          (Result Report Breach) c.outcome.result 67108872 c.in-Ok-false.field-0 c.in-Ok-false.field-0-test (omega arith) step.2,
    )

pub returns-in-Err-clause-read : goal.returns-in-Err-clause-read
returns-in-Err-clause-read g c = λ ahead is.
    let before = c.records.invariant.passed ahead is in
    let few : length before.0 < 2 ^ 64 - 1 = few_records (c.records_are_clear.ensures Two) c.args.cursor.now.place ahead before.0 (spot c.records.cursor (g.S.Input.told c.records.source).left) before.2 (omega arith) in
    let step = c.in-Err.ensures.read c.args.limit before.2.rest before.0 before.2.rest_is before.1 few in (
      step.0,
      tt,
      stopped (SpellsRecord Two) (WrongRecord Two) c.args.cursor.now.place ahead before.0 step.0
          (spot c.records.cursor (g.S.Input.told c.records.source).left) (spot c.follow_record.new.cursor (g.S.Input.told c.follow_record.new.source).left) before.2
          (Result Report Breach) 67108872 c.in-Err.refusal (omega arith) step.2,
    )

pub returns-then-place-most-clause-read : goal.returns-then-place-most-clause-read
returns-then-place-most-clause-read g c = λ ahead is.
    let before = c.records.invariant.passed ahead is in
    (before.0, tt, inr (before.0, (before.2, inl (omega arith, ap Large c.most_bytes-most.ensures))))
