use Rattle.std.proofs.Common.{◌≡◌, ◌<◌, ℕ, true}
use Rattle.std.specs.List.{list_any}
use Rattle.m17_directory.specs.Outcome.{has_place}
use Rattle.m17_house.proofs.choice.free_place.Given as goal

abbrev pub invariant-loop-place : goal.invariant-loop-place
invariant-loop-place l = (lower : ℕ) → lower < l.place → list_any (has_place lower) l.directory.known ≡ true
