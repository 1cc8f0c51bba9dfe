use Rattle.std.proofs.Common.{◌≡◌, false}
use Rattle.m17_disk.specs.Queue.{joined}
use Rattle.m17_ports.specs.Book.{HasText}
use Rattle.m17_disk.proofs.writer.Writer.work.Given as goal

-- all that it took is written so far
abbrev pub invariant-loop : goal.invariant-loop
invariant-loop g l = record {
  slips : l.self.slips ≡ record l.fn.self.slips { popped = l.self.slips.popped };
  text : HasText (g.B.Book.told l.fn.self.book) (joined l.self.slips.popped) false (g.B.Book.told l.self.book);
  sound : l.self.failed ≡ false;
}
