use Rattle.std.proofs.Common.{◌≡◌, ◌<◌, ◌≤◌, ◌-◌, ℕ, false, length}
use Rattle.m17_decorators.specs.PaceMemory.{is_idle, place_at}
use Rattle.m17_decorators.proofs.places.Places.find_idle.Given as goal

abbrev pub invariant-look : goal.invariant-look
invariant-look l = (l.place ≤ length l.self.list.items)
    × ((i : ℕ) → i < l.place → is_idle l.cut (place_at l.self.list.items i) ≡ false)

abbrev pub decreases-look : goal.decreases-look
decreases-look l = length l.self.list.items - l.place
