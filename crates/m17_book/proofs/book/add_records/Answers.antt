use Rattle.std.proofs.Common.{ℕ, rules, arith}
use Rattle.m17_book.specs.Records.{SpellsRecord}
use Rattle.m17_book.specs.Walk.{spot, WrongRecord}
use Rattle.m17_book.proofs.Passing.{first_passed, added, ended, stopped}
use Rattle.m17_book.proofs.book.add_records.Goals as goal
use Rattle.m17_book.specs.Versions.{most_book_bytes}

pub records-init : goal.records-init
records-init g c = record {
  passed = λ ahead is. first_passed (SpellsRecord c.args.version) (spot c.args.cursor.now (g.S.Input.told c.args.source.now).left) ahead c.args.records.now.items c.requires.fits is;
  sound = search rules;
  writable = search rules;
}

pub records-preserved : goal.records-preserved
records-preserved g c = record {
  passed = λ ahead is.
      let before = c.records.invariant.passed ahead is in
      added (SpellsRecord c.args.version) (WrongRecord c.args.version) c.args.cursor.now.place ahead c.records.records.items c.add_record.new.records.items
      (spot c.records.cursor (g.S.Input.told c.records.source).left) (spot c.add_record.new.cursor (g.S.Input.told c.add_record.new.source).left) before
      c.in-Ok-true.field-0 c.in-Ok-true.field-0-test (c.in-Ok-true.ensures.read before.rest before.rest_is);
  sound = search rules;
  writable = search rules;
}

pub returns-in-Ok-false-clause-read : goal.returns-in-Ok-false-clause-read
returns-in-Ok-false-clause-read g c = λ ahead is.
    let before = c.records.invariant.passed ahead is in
    ended (SpellsRecord c.args.version) (WrongRecord c.args.version) c.args.cursor.now.place ahead c.records.records.items c.add_record.new.records.items
    (spot c.records.cursor (g.S.Input.told c.records.source).left) (spot c.add_record.new.cursor (g.S.Input.told c.add_record.new.source).left) before
    ℕ 0 (most_book_bytes c.args.version) c.in-Ok-false.field-0 c.in-Ok-false.field-0-test (omega arith) (c.in-Ok-false.ensures.read before.rest before.rest_is)

pub returns-in-Err-clause-read : goal.returns-in-Err-clause-read
returns-in-Err-clause-read g c = λ ahead is.
    let before = c.records.invariant.passed ahead is in
    stopped (SpellsRecord c.args.version) (WrongRecord c.args.version) c.args.cursor.now.place ahead c.records.records.items c.add_record.new.records.items
    (spot c.records.cursor (g.S.Input.told c.records.source).left) (spot c.add_record.new.cursor (g.S.Input.told c.add_record.new.source).left) before
    ℕ (most_book_bytes c.args.version) c.in-Err.refusal (omega arith) (c.in-Err.ensures.read before.rest before.rest_is)
