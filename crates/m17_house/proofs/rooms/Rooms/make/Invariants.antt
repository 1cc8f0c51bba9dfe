use Rattle.std.proofs.Common.{◌≡◌, ◌+◌, ◌≤◌, ℕ, slice_get, Option, Some, vec_len, vec_capacity}
use Rattle.m17_module.specs.StandsFor.{ModuleKept}
use Rattle.m17_house.specs.Carried.{IsNewRoom}
use Rattle.m17_house.proofs.rooms.Rooms.make.Given as goal

abbrev pub invariant-loop-letter : goal.invariant-loop-letter
invariant-loop-letter l = (vec_capacity l.cells ≡ 26) × (vec_len l.cells + 65 ≡ l.letter) × (l.letter ≤ 91)
    × ((k : ℕ) (cell : Option ModuleKept) → slice_get l.cells.items k ≡ Some cell → IsNewRoom l.plan (k + 65) cell)
