use Rattle.std.proofs.Common.{subst}
use Rattle.m17_ports.specs.Book.{HasText}
use Rattle.m17_receiver.specs.Devices.{trace_text}
use Rattle.m17_receiver.proofs.Traced.{stays_failed, stays_untold, writes_more}
use Rattle.m17_receiver.proofs.trace.write_trace.Goals as goal
use Rattle.m17_receiver.proofs.trace.write_trace.Goals.{then-failed-via-then-failed, then-failed-via-else-failed+then-not-is_kept}

pub returns-then-failed : goal.returns-then-failed
returns-then-failed g c = λ start heard iff h.
    let law = c.books_are_written_in_turn.ensures in
    let book = g.B.Book.told c.args.trace.now in
    elim c.then-failed.branch [
      | then-failed-via-then-failed w ↦ rw w.if-failed.true (stays_failed law start heard c.args.entry.now c.args.first iff book (rw w.if-failed.true at h))
      | then-failed-via-else-failed+then-not-is_kept w ↦
          stays_untold law start heard c.args.entry.now c.args.first iff book c.args.failed.now (w.is_kept.ensures.untold w.if-not-is_kept.true).0 h
    ]

pub returns : goal.returns
returns g c = λ start heard iff h.
    let book = g.B.Book.told c.args.trace.now in
    writes_more c.books_are_written_in_turn.ensures start heard c.args.entry.now c.args.first iff book (g.B.Book.told c.write.new.self)
    c.is_err.result c.write.result c.spelled-bytes.result.items c.spelled-bytes.ensures c.is_err.ensures.value c.write.ensures.cause
    (rw c.as_slice.ensures.value at c.write.ensures.appended) (rw c.as_slice.ensures.value at c.write.ensures.prefix) c.write.ensures.same_device
    (subst (λ b. HasText start (trace_text heard) b book) c.if-failed.false h)
