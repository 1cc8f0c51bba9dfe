use Rattle.std.proofs.Common.{◌++◌, ◌∙◌, ap, sym}
use Rattle.m17_disk.specs.Queue.{joined}
use Rattle.m17_disk.proofs.Texts.{text_more}
use Rattle.m17_disk.proofs.writing.write_next.Goals as goal

pub returns-clause-text : goal.returns-clause-text
returns-clause-text g c = λ start h.
    text_more c.books_are_written_in_turn.ensures start (g.B.Book.told c.args.book.now) (g.B.Book.told c.write.new.self)
    (joined c.args.slips.now.popped) c.as_slice.result.now (joined c.gather-batch.new.slips.popped)
    c.is_err.result c.write.result
    (c.gather-batch.ensures.bytes ∙ ap (λ l. joined c.args.slips.now.popped ++ l) (sym c.as_slice.ensures.value))
    c.is_err.ensures.value c.write.ensures.cause c.write.ensures.appended c.write.ensures.prefix
    c.write.ensures.same_device h
