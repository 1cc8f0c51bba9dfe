use Rattle.std.proofs.Common.{◌≤◌, ◌-◌, length}
use Rattle.m17_decorators.specs.GuardMemory.{AreNew}
use Rattle.m17_decorators.proofs.guards.Guards.make.Given as goal

abbrev pub invariant-take : goal.invariant-take
invariant-take l = (length l.memories.items ≤ l.links) × AreNew l.memories.items

abbrev pub decreases-take : goal.decreases-take
decreases-take l = l.links - length l.memories.items
