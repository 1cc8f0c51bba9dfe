use Rattle.std.proofs.Common.{◌≡◌, ◌≤◌, length}
use Rattle.m17_lookup.specs.Lookup.{last_below}
use Rattle.m17_floor.specs.Plain.{was_answered}
use Rattle.m17_floor.proofs.plain.last_admitted.Given as goal

abbrev pub invariant-loop-a : goal.invariant-loop-a
invariant-loop-a l =
    (l.a ≤ length l.acts) × (last_below (was_answered l.answered) l.a ≡ last_below (was_answered l.answered) (length l.acts))

abbrev pub decreases-loop-a : goal.decreases-loop-a
decreases-loop-a l = l.a
