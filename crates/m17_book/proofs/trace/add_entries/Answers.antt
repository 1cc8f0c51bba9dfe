use Rattle.std.proofs.Common.{ℕ, rules, arith}
use Rattle.m17_book.specs.Entries.{SpellsEntry}
use Rattle.m17_book.specs.Walk.{spot, WrongEntry}
use Rattle.m17_book.proofs.Passing.{first_passed, added, ended, stopped}
use Rattle.m17_book.proofs.trace.add_entries.Goals as goal

pub entries-init : goal.entries-init
entries-init g c = record {
  passed = λ ahead is. first_passed SpellsEntry (spot c.args.cursor.now (g.S.Input.told c.args.source.now).left) ahead c.args.heard.now.items c.requires.fits is;
  few = search rules;
  sound = search rules;
}

pub entries-preserved : goal.entries-preserved
entries-preserved g c = record {
  passed = λ ahead is.
      let before = c.entries.invariant.passed ahead is in
      added SpellsEntry WrongEntry c.args.cursor.now.place ahead c.entries.heard.items c.add_entry.new.heard.items
      (spot c.entries.cursor (g.S.Input.told c.entries.source).left) (spot c.add_entry.new.cursor (g.S.Input.told c.add_entry.new.source).left) before
      c.in-Ok-true.field-0 c.in-Ok-true.field-0-test (c.in-Ok-true.ensures.read before.rest before.rest_is);
  few = search rules;
  sound = search rules;
}

pub returns-in-Ok-false-clause-read : goal.returns-in-Ok-false-clause-read
returns-in-Ok-false-clause-read g c = λ ahead is.
    let before = c.entries.invariant.passed ahead is in
    ended SpellsEntry WrongEntry c.args.cursor.now.place ahead c.entries.heard.items c.add_entry.new.heard.items
    (spot c.entries.cursor (g.S.Input.told c.entries.source).left) (spot c.add_entry.new.cursor (g.S.Input.told c.add_entry.new.source).left) before
    ℕ 0 67108864 c.in-Ok-false.field-0 c.in-Ok-false.field-0-test (omega arith) (c.in-Ok-false.ensures.read before.rest before.rest_is)

pub returns-in-Err-clause-read : goal.returns-in-Err-clause-read
returns-in-Err-clause-read g c = λ ahead is.
    let before = c.entries.invariant.passed ahead is in
    stopped SpellsEntry WrongEntry c.args.cursor.now.place ahead c.entries.heard.items c.add_entry.new.heard.items
    (spot c.entries.cursor (g.S.Input.told c.entries.source).left) (spot c.add_entry.new.cursor (g.S.Input.told c.add_entry.new.source).left) before
    ℕ 67108864 c.in-Err.refusal (omega arith) (c.in-Err.ensures.read before.rest before.rest_is)
