use Rattle.std.proofs.Common.{[]}
use Rattle.m17_book.specs.Ahead.{held}
use Rattle.m17_book.specs.Checks.{TellsBook}
use Rattle.m17_book.specs.Walk.{spot}
use Rattle.m17_book.specs.declared.version.Version.TheVariants.{Two}
use Rattle.m17_book.proofs.SeenBook.{seen_behind}
use Rattle.m17_book.proofs.WholeBook.{bad_header}
use Rattle.m17_book.proofs.check_book.follow_book.Goals as goal

pub returns-in-Ok-clause-read : goal.returns-in-Ok-clause-read
returns-in-Ok-clause-read g c = λ bytes zero is.
    let header = c.in-Ok.ensures.header bytes is in
    let found = c.follow_records.ensures.read header.1 header.3 in (
      found.0,
      seen_behind c.follow_records.result c.in-Ok.head bytes found.0 (held c.pass_header.new.cursor) (g.S.Input.told c.pass_header.new.source).left
          c.args.cursor.now.place c.pass_header.new.cursor.place (spot c.follow_records.new.cursor (g.S.Input.told c.follow_records.new.source).left) zero header
          found.1 found.2,
    )

pub returns-in-Err-clause-read : goal.returns-in-Err-clause-read
returns-in-Err-clause-read g c = λ bytes zero is. (
  [],
  bad_header Two _ TellsBook c.in-Err.refusal bytes [] c.args.cursor.now.place (spot c.pass_header.new.cursor (g.S.Input.told c.pass_header.new.source).left) zero
      (c.in-Err.ensures.header bytes is) (c.in-Err.ensures.kept bytes is) c.in-Err.ensures.place,
)
