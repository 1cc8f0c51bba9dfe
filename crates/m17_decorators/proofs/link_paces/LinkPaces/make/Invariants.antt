use Rattle.std.proofs.Common.{◌≤◌, ◌-◌, length}
use Rattle.m17_decorators.specs.PaceMemory.{AreNew}
use Rattle.m17_decorators.proofs.link_paces.LinkPaces.make.Given as goal

abbrev pub invariant-fill : goal.invariant-fill
invariant-fill l = (length l.made.items ≤ l.links) × AreNew l.most l.made.items

abbrev pub decreases-fill : goal.decreases-fill
decreases-fill l = l.links - length l.made.items
