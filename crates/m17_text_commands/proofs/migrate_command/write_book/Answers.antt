use Rattle.std.proofs.Common.{ℕ, ap, subst, ◌∙◌}
use Rattle.std.specs.List.{flat_map}
use Rattle.m17_io.specs.Faults.{HasCause}
use Rattle.m17_book.specs.Records.{record_bytes}
use Rattle.m17_book.specs.Versions.{book_header, header_of}
use Rattle.m17_book.specs.declared.version.Version.TheVariants.{Two}
use Rattle.m17_text_commands.proofs.Written.{then_ok, then_err, header_failed}
use Rattle.m17_text_commands.proofs.migrate_command.write_book.Goals as goal

pub returns-in-Ok-clause-cause : goal.returns-in-Ok-clause-cause
returns-in-Ok-clause-cause g c =
    subst (λ (n : ℕ). HasCause n (g.K.Sink.told c.write_records.new.out).faults c.write_records.result) c.in-Ok.ensures.cause.no_fault c.write_records.ensures.cause

pub returns-in-Ok-clause-ok : goal.returns-in-Ok-clause-ok
returns-in-Ok-clause-ok g c =
    then_ok c.write_records.result _ (g.K.Sink.told c.write.new.self).written _ (book_header Two (header_of c.args.letter)) (flat_map record_bytes c.args.records.now)
    (rw (c.write_header-header.ensures.header ∙ ap (book_header Two) c.head_of.ensures) at c.in-Ok.ensures.ok) c.write_records.ensures.ok

pub returns-in-Ok-clause-err : goal.returns-in-Ok-clause-err
returns-in-Ok-clause-err g c =
    then_err c.write_records.result _ (g.K.Sink.told c.write.new.self).written _ (book_header Two (header_of c.args.letter)) (flat_map record_bytes c.args.records.now)
    (rw (c.write_header-header.ensures.header ∙ ap (book_header Two) c.head_of.ensures) at c.in-Ok.ensures.ok) c.write_records.ensures.err

pub returns-in-Err-clause-err : goal.returns-in-Err-clause-err
returns-in-Err-clause-err g c =
    header_failed _ _ (book_header Two (header_of c.args.letter)) (flat_map record_bytes c.args.records.now) (rw (c.write_header-header.ensures.header ∙ ap (book_header Two) c.head_of.ensures) at c.in-Err.ensures.err)
