use Rattle.std.proofs.Common.{◌≡◌, ◌++◌}
use Rattle.m17_disk.specs.Queue.{joined}
use Rattle.m17_disk.proofs.writing.gather.Given as goal

-- what was taken so far stands in the batch
abbrev pub invariant-loop : goal.invariant-loop
invariant-loop g l = record {
  slips : l.slips ≡ record l.fn.slips { popped = l.slips.popped };
  bytes : joined l.slips.popped ≡ joined l.fn.slips.popped ++ l.bytes.items;
}
