use Rattle.m17_decorators.specs.GuardMemory.{is_of, peer_bucket_of, peer_bucket}
use Rattle.m17_decorators.proofs.Links.{IsAt}
use Rattle.m17_decorators.proofs.memory.Memory.latest_of.Given as goal

abbrev pub invariant-walk : goal.invariant-walk
invariant-walk l = IsAt l.self.slots.items (peer_bucket_of l.self.keys) (is_of l.from) l.self.count
    (peer_bucket l.self.keys l.from) l.order

abbrev pub decreases-walk : goal.decreases-walk
decreases-walk l = l.order
