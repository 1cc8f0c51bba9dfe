use Rattle.std.proofs.Common.{◌≡◌, false, true, rules}
use Rattle.m17_client.specs.TalkDevices.{kept_record}
use Rattle.m17_client.proofs.Logged.{logs_none, logs_one}
use Rattle.m17_client.proofs.log.Log.keep.Goals as goal

pub returns-then-not-self : goal.returns-then-not-self
returns-then-not-self g c = λ start before h.
    let was : c.args.self.now.failed ≡ false = search rules in
    logs_one c.books_are_written_in_turn.ensures start
    (g.B.Book.told c.args.book.now) (g.B.Book.told c.write.new.self)
    before (kept_record c.args.moment c.args.packet.now) c.args.self.now
    (record { kept = c.saturating_add-self.result; failed = c.is_err-self.result })
    c.write.result was c.saturating_add-self.ensures c.is_err-self.ensures.value c.write.ensures.cause
    (rw c.record.ensures at c.write.ensures.appended) (rw c.record.ensures at c.write.ensures.prefix)
    c.write.ensures.same_device h

pub returns-else-not-self : goal.returns-else-not-self
returns-else-not-self g c = λ start before h.
    let was : c.args.self.now.failed ≡ true = search rules in
    logs_none c.books_are_written_in_turn.ensures start (g.B.Book.told c.args.book.now)
    before (kept_record c.args.moment c.args.packet.now) c.args.self.now
    (record { kept = c.saturating_add-self.result; failed = c.args.self.now.failed })
    was c.saturating_add-self.ensures was h
