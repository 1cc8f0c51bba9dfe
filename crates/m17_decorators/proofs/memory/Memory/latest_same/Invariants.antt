use Rattle.m17_decorators.specs.GuardMemory.{is_copy, bytes_bucket_of, bytes_bucket}
use Rattle.m17_decorators.proofs.Links.{IsAt}
use Rattle.m17_decorators.proofs.memory.Memory.latest_same.Given as goal

abbrev pub invariant-walk : goal.invariant-walk
invariant-walk l = IsAt l.self.slots.items (bytes_bucket_of l.self.keys) (is_copy l.from l.bytes)
    l.self.count (bytes_bucket l.self.keys l.from l.bytes) l.order

abbrev pub decreases-walk : goal.decreases-walk
decreases-walk l = l.order
