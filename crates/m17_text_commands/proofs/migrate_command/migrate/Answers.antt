use Rattle.std.proofs.Common.{◌∙◌}
use Rattle.m17_text_commands.specs.Migrate.{migrated_text}
use Rattle.m17_text_commands.proofs.MigrateComing.{finished, failed, ended}
use Rattle.m17_text_commands.proofs.migrate_command.migrate.Goals as goal

pub returns-in-Ok-clause-ended : goal.returns-in-Ok-clause-ended
returns-in-Ok-clause-ended g c = λ bytes left.
    finished c.in-Ok-Ok.letter c.in-Ok-Ok.records.items bytes (g.S.Input.told c.read_records.new.input).left (g.K.Sink.told c.args.out.now).written
    (g.K.Sink.told c.read_records.new.out).written (g.K.Sink.told c.write_book.new.out).written c.in-Ok-Ok.ensures.nothing_written
    (rw c.in-Ok-Ok.field-0-is at (c.in-Ok-Ok.ensures.read bytes left)) (rw c.deref.ensures.value at c.in-Ok.ensures.ok)

pub returns-in-Ok-clause-appended : goal.returns-in-Ok-clause-appended
returns-in-Ok-clause-appended g c = λ before told.
    let text = migrated_text c.in-Ok-Ok.letter c.in-Ok-Ok.records.items in
    (text, (rw c.deref.ensures.value at c.in-Ok.ensures.ok) before (c.in-Ok-Ok.ensures.nothing_written ∙ told))

pub returns-in-Ok-Ok-clause-ended : goal.returns-in-Ok-Ok-clause-ended
returns-in-Ok-Ok-clause-ended g c = λ bytes left.
    failed c.in-Ok-Ok.letter c.in-Ok-Ok.records.items bytes (g.S.Input.told c.read_records.new.input).left (g.K.Sink.told c.args.out.now).written
    (g.K.Sink.told c.read_records.new.out).written (g.K.Sink.told c.write_book.new.out).written c.in-Ok-Ok.ensures.nothing_written
    (rw c.in-Ok-Ok.field-0-is at (c.in-Ok-Ok.ensures.read bytes left)) (rw c.deref.ensures.value at c.in-Err-write_book.ensures.err)

pub returns-in-Ok-Err-clause-ended : goal.returns-in-Ok-Err-clause-ended
returns-in-Ok-Err-clause-ended g c = λ bytes left.
    ended c.in-Ok-Err.ending bytes (g.S.Input.told c.read_records.new.input).left (g.K.Sink.told c.args.out.now).written
    (g.K.Sink.told c.read_records.new.out).written c.in-Ok-Err.ensures.nothing_written
    (rw c.in-Ok-Err.field-0-is at (c.in-Ok-Err.ensures.read bytes left))
