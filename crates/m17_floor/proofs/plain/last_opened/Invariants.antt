use Rattle.std.proofs.Common.{◌≡◌, ◌≤◌}
use Rattle.m17_lookup.specs.Lookup.{last_below}
use Rattle.m17_floor.specs.Plain.{was_answered_opened}
use Rattle.m17_floor.proofs.plain.last_opened.Given as goal

abbrev pub invariant-loop-o : goal.invariant-loop-o
invariant-loop-o l =
    (l.o ≤ l.n) × (last_below (was_answered_opened l.answered) l.o ≡ last_below (was_answered_opened l.answered) l.n)

abbrev pub decreases-loop-o : goal.decreases-loop-o
decreases-loop-o l = l.o
