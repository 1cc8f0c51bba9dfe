use Rattle.std.proofs.Common.{◌≡◌, length}
use Rattle.m17_floor.specs.Setup.{floor_setup}
use Rattle.m17_floor.proofs.VerdictsSoFar.{AreVerdicts}
use Rattle.m17_floor.proofs.plain.verdicts.Given as goal

abbrev pub invariant-loop : goal.invariant-loop
invariant-loop l = (length l.verdicts.items ≡ l.index) × AreVerdicts (floor_setup l.places l.limit) l.acts l.verdicts.items
