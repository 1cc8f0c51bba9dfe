use Rattle.std.proofs.Common.{◌≡◌, length}
use Rattle.m17_lookup.specs.Lookup.{last_below}
use Rattle.m17_floor.specs.Acts.{kind_at, settles}
use Rattle.m17_floor.proofs.plain.last_settling.Given as goal

abbrev pub invariant-loop-j : goal.invariant-loop-j
invariant-loop-j l = last_below (λ i. settles l.k (kind_at l.acts i)) l.j ≡ last_below (λ i. settles l.k (kind_at l.acts i)) (length l.acts)

abbrev pub decreases-loop-j : goal.decreases-loop-j
decreases-loop-j l = l.j
