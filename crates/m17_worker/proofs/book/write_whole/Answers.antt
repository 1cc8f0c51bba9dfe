use Rattle.std.proofs.Common.{◌≡◌, true, false, rules}
use Rattle.m17_ports.specs.Book.{HasText}
use Rattle.m17_worker.proofs.Texts.{text_more}
use Rattle.m17_worker.proofs.book.write_whole.Goals as goal

pub returns-then-not-failed : goal.returns-then-not-failed
returns-then-not-failed g c = λ start text h.
    let was : c.args.failed.now ≡ false = search rules in
    text_more c.books_are_written_in_turn.ensures start text c.args.bytes.now (g.B.Book.told c.args.book.now) (g.B.Book.told c.write.new.self)
    c.args.failed.now c.is_err.result c.write.result was c.is_err.ensures.value
    c.write.ensures.cause c.write.ensures.appended c.write.ensures.prefix c.write.ensures.same_device h

pub returns-else-not-failed : goal.returns-else-not-failed
returns-else-not-failed g c = λ start text h.
    let was : c.args.failed.now ≡ true = search rules in
    let cut : HasText start text true (g.B.Book.told c.args.book.now) = rw was at h in
    rw was (c.books_are_written_in_turn.ensures.given_up start (g.B.Book.told c.args.book.now) text c.args.bytes.now cut)
