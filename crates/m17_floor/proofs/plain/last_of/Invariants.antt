use Rattle.std.proofs.Common.{◌≡◌, ◌≤◌, length}
use Rattle.m17_lookup.specs.Lookup.{last_below}
use Rattle.m17_floor.specs.Plain.{is_answered_own}
use Rattle.m17_floor.proofs.plain.last_of.Given as goal

abbrev pub invariant-loop-a : goal.invariant-loop-a
invariant-loop-a l =
    (l.a ≤ length l.acts)
    × (last_below (is_answered_own l.places l.acts l.answered l.k) l.a ≡ last_below (is_answered_own l.places l.acts l.answered l.k) (length l.acts))

abbrev pub decreases-loop-a : goal.decreases-loop-a
decreases-loop-a l = l.a
