use Rattle.std.proofs.Common.{◌≡◌, ◌+◌, length, inr, ap, ◌∙◌, rules, arith}
use Rattle.m17_book.specs.Ahead.{held}
use Rattle.m17_book.specs.Flaws.{RecordFlaw}
use Rattle.m17_book.specs.Limits.{told}
use Rattle.m17_book.specs.Records.{SpellsRecord}
use Rattle.m17_book.proofs.NextStep.{window, record_told, taken, none_left, is_enough, same_told}
use Rattle.m17_book.proofs.RecordClear.{writable}
use Rattle.m17_book.proofs.steps.next_record.Goals as goal

pub returns-then-is_empty-clause-next : goal.returns-then-is_empty-clause-next
returns-then-is_empty-clause-next g c = λ ahead before.
    let is = c.fill.ensures.kept ahead before in
    let enough = is_enough _ _ ahead _ _ before c.in-Ok.ensures.enough in
    let none : length (held c.fill.new.self) ≡ 0 = search rules in
    let left = none_left (held c.fill.new.self) ahead _ none is enough in
    (left.0, left.1, c.fill.ensures.place)

pub returns-in-Ok-parse_record-clause-next : goal.returns-in-Ok-parse_record-clause-next
returns-in-Ok-parse_record-clause-next g c = λ ahead before.
    let is = c.fill.ensures.kept ahead before in
    taken (SpellsRecord c.args.version) (RecordFlaw c.args.version) c.in-Ok-parse_record.record (held c.fill.new.self) (held c.pass.new.self) ahead c.in-Ok-parse_record.size
    c.args.cursor.now.place c.pass.new.self.place _ is (rw c.held-held.ensures at c.in-Ok-parse_record.ensures) c.pass.ensures.held
    (c.pass.ensures.place ∙ ap (λ n. told (n + c.in-Ok-parse_record.size)) c.fill.ensures.place)

pub returns-in-Err-clause-next : goal.returns-in-Err-clause-next
returns-in-Err-clause-next g c = λ ahead before.
    let is = c.fill.ensures.kept ahead before in
    let b = held c.fill.new.self in
    let enough = is_enough _ _ ahead _ _ before c.in-Ok.ensures.enough in
    let tells = record_told c.args.version b ahead c.in-Err.flaw c.fill.new.self.place (omega arith) (window b ahead (g.S.Input.told c.fill.new.source).left is enough) (rw c.held-held.ensures at c.in-Err.ensures) in
    inr (rw c.refusal_of.ensures.told (same_told (RecordFlaw c.args.version) ahead c.fill.new.self.place c.args.cursor.now.place c.place.result c.held-held.result.now b c.in-Err.flaw
    c.fill.ensures.place c.place.ensures c.held-held.ensures tells))

pub returns-in-Ok-parse_record-clause-writable : goal.returns-in-Ok-parse_record-clause-writable
returns-in-Ok-parse_record-clause-writable g c = writable c.args.version c.in-Ok-parse_record.record c.in-Ok-parse_record.ensures.spelled.0
