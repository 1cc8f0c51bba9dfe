use Rattle.std.proofs.Common.{◌≡◌, ◌<◌, ◌≤◌, ◌-◌, ℕ, false, length}
use Rattle.m17_decorators.specs.PaceMemory.{holds, place_at}
use Rattle.m17_decorators.proofs.places.Places.find.Given as goal

abbrev pub invariant-look : goal.invariant-look
invariant-look l = (l.place ≤ length l.self.list.items)
    × ((i : ℕ) → i < l.place → holds l.to (place_at l.self.list.items i).peer ≡ false)

abbrev pub decreases-look : goal.decreases-look
decreases-look l = length l.self.list.items - l.place
