-- A text that is a line for each item: of records, of lines, of entries, of peers.
use Rattle.std.specs.Prelude.{◌≡◌, ℕ, ◌<◌, List, ◌++◌, length, slice_get, Some}
use Rattle.std.specs.List.{flat_map}

-- the lines one after another
abbrev pub joined_lines : List (List ℕ) → List ℕ
joined_lines lines = flat_map (λ line. line) lines

-- The text is `count` lines, one for each item in order. `has_line` says which lines an item may
-- have.
pub record IsTextOf (has_line : ℕ → List ℕ → Type 0) (count : ℕ) (text : List ℕ) : Type 0 where
  pub lines : List (List ℕ)
  pub lines_count : length lines ≡ count
  pub each : (n : ℕ) → n < count → (line : List ℕ) × (slice_get lines n ≡ Some line)
      × has_line n line
  pub joined : text ≡ joined_lines lines

-- The text is a first part of such a text: that is what a sink that failed may have taken of it.
pub record BeginsTextOf (has_line : ℕ → List ℕ → Type 0) (count : ℕ) (text : List ℕ) : Type 0 where
  pub whole : List ℕ
  pub after : List ℕ
  pub is_text : IsTextOf has_line count whole
  pub begins : whole ≡ text ++ after
