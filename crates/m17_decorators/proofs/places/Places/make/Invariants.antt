use Rattle.std.proofs.Common.{◌≤◌, ◌-◌, length}
use Rattle.m17_decorators.specs.PaceMemory.{AreFresh}
use Rattle.m17_decorators.proofs.places.Places.make.Given as goal

abbrev pub invariant-fill : goal.invariant-fill
invariant-fill l = (length l.list.items ≤ l.count) × AreFresh l.most l.list.items

abbrev pub decreases-fill : goal.decreases-fill
decreases-fill l = l.count - length l.list.items
