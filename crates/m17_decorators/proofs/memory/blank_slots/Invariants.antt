use Rattle.std.proofs.Common.{◌≤◌, ◌-◌, length}
use Rattle.m17_decorators.proofs.memory.blank_slots.Given as goal

abbrev pub invariant-fill : goal.invariant-fill
invariant-fill l = length l.slots.items ≤ 16384

abbrev pub decreases-fill : goal.decreases-fill
decreases-fill l = 16384 - length l.slots.items
