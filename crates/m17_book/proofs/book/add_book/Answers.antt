use Rattle.std.proofs.Common.{ℕ, [], refl}
use Rattle.m17_book.specs.Ahead.{held}
use Rattle.m17_book.specs.Walk.{spot, IsHeaderOf}
use Rattle.m17_book.specs.declared.head.Head.{Head}
use Rattle.m17_book.proofs.WholeBook.{bad_header, behind_header, stops_behind}
use Rattle.m17_book.proofs.book.add_book.Goals as goal

pub returns-in-Ok-add_records-clause-read : goal.returns-in-Ok-add_records-clause-read
returns-in-Ok-add_records-clause-read g c = λ bytes zero is.
    let header = c.in-Ok.ensures.header bytes is in
    behind_header c.args.version IsHeaderOf c.in-Ok.head c.in-Ok.head bytes c.add_records.new.records.items (held c.pass_header.new.cursor)
    (g.S.Input.told c.pass_header.new.source).left c.args.cursor.now.place c.pass_header.new.cursor.place
    (spot c.add_records.new.cursor (g.S.Input.told c.add_records.new.source).left) zero header c.in-Ok-add_records.field-0
    (c.in-Ok-add_records.ensures.read header.1 header.3) refl

pub returns-in-Err-add_records-clause-read : goal.returns-in-Err-add_records-clause-read
returns-in-Err-add_records-clause-read g c = λ bytes zero is.
    let header = c.in-Ok.ensures.header bytes is in
    stops_behind c.args.version Head ℕ IsHeaderOf c.in-Err-add_records.refusal c.in-Ok.head bytes c.add_records.new.records.items (held c.pass_header.new.cursor)
    (g.S.Input.told c.pass_header.new.source).left c.args.cursor.now.place c.pass_header.new.cursor.place
    (spot c.add_records.new.cursor (g.S.Input.told c.add_records.new.source).left) zero header
    (c.in-Err-add_records.ensures.read header.1 header.3)

pub returns-in-Err-clause-read : goal.returns-in-Err-clause-read
returns-in-Err-clause-read g c = λ bytes zero is.
    bad_header c.args.version Head IsHeaderOf c.in-Err.refusal bytes [] c.args.cursor.now.place
    (spot c.pass_header.new.cursor (g.S.Input.told c.pass_header.new.source).left) zero
    (c.in-Err.ensures.header bytes is) (c.in-Err.ensures.kept bytes is) c.in-Err.ensures.place
