-- The cells of a tape, by the notes of those that are filled.
use Rattle.std.specs.Prelude.{◌==◌, ℕ, suc, ◌<◌, ◌≤◌, List, [], ◌∷◌, length, map, slice_index_or, Option, None, Some, if◌then◌else◌}
use Rattle.std.specs.List.{range_with_len}
use Rattle.m17_tape.specs.declared.notes.Note.{Note}

-- what the notes have of the cell with this number
abbrev pub noted : {T : Type 0} → ℕ → List (Note T) → Option T
noted n [] = None
noted n (note ∷ notes) = if note.index == n then Some note.what else noted n notes

-- this number of cells: each has what is noted of it
abbrev pub cells_of : {T : Type 0} → ℕ → List (Note T) → List (Option T)
cells_of cells notes = map (λ n. noted n notes) (range_with_len 0 cells)

-- the numbers of the notes rise strictly, from `low`, and stay below `high`
abbrev pub AreRising : {T : Type 0} → ℕ → ℕ → List (Note T) → Type 0
AreRising low high [] = Unit {0}
AreRising low high (note ∷ notes) =
    (low ≤ note.index) × (note.index < high) × AreRising (suc note.index) high notes

-- the notes of this number of cells, with room for one of each
pub record IsTape {T : Type 0} (cells capacity : ℕ) (notes : List (Note T)) : Type 0 where
  pub room : cells ≤ capacity
  pub order : AreRising 0 cells notes

-- the notes before this place are of cells before this one, and the others are not
pub record IsPlaceFor {T : Type 0} (notes : List (Note T)) (n place : ℕ) : Type 0 where
  pub within : place ≤ length notes
  pub before : (k : ℕ) (d : Note T) → k < place → (slice_index_or notes k d).index < n
  pub behind : (k : ℕ) (d : Note T) → place ≤ k → k < length notes →
      n ≤ (slice_index_or notes k d).index
