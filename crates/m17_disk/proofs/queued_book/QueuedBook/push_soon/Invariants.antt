use Rattle.std.proofs.Common.{◌≡◌, ◌+◌, ◌++◌, replicate}
use Rattle.m17_disk.specs.Queue.{IsSameEnd}
use Rattle.m17_disk.proofs.queued_book.QueuedBook.push_soon.Given as goal

-- the slip is still to be pushed, the lane refused it once for each rest, and otherwise has what it had
abbrev pub invariant-loop-rested : goal.invariant-loop-rested
invariant-loop-rested g l = record {
  slip : l.slip ≡ l.fn.slip;
  kept : l.self.slips.pushed ≡ l.fn.self.slips.pushed;
  refused : l.self.slips.refused ≡ l.fn.self.slips.refused ++ replicate l.rested l.fn.slip;
  rests : l.self.rests + l.rested ≡ l.fn.self.rests;
  same_lane : IsSameEnd l.fn.self.slips l.self.slips;
  same : l.self ≡ record l.fn.self { slips = l.self.slips; rests = l.self.rests; over = l.self.over };
}
