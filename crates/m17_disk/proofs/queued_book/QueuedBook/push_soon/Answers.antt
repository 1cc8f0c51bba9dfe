use Rattle.std.proofs.Common.{ap, arith}
use Rattle.m17_disk.specs.Queue.{QueueKept}
use Rattle.m17_disk.proofs.queued_book.QueuedBook.push_soon.Goals as goal

pub unreachable-requires : goal.unreachable-requires
unreachable-requires g c =
    let same = ap (λ (b : QueueKept). b.rests) c.self.view_is in
    omega (arith, c.loop-rested.invariant.rests, c.loop-rested-test.false, same)
