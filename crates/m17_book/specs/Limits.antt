-- What traces and books have in common: their limits, values one after another, and how a place is told.
use Rattle.std.specs.Prelude.{◌≡◌, ℕ, ◌-◌, ◌^◌, ◌≤◌, min, List, [], ◌∷◌, ◌++◌}

-- the most bytes and the most entries of a trace
abbrev pub most_trace_bytes : ℕ
most_trace_bytes = 67108864

abbrev pub most_entries : ℕ
most_entries = 1000000

-- a place in an input, which is told as a number of 64 bits
abbrev pub told : ℕ → ℕ
told place = min place (2 ^ 64 - 1)

-- the kinds of entries and of records
abbrev pub IsKind : ℕ → Type 0
IsKind kind = (1 ≤ kind) × (kind ≤ 3)

-- The values are spelled by the bytes, one after another, with nothing between them.
abbrev pub SpellsEach : {Value : Type 0} → (Value → List ℕ → Type 0) → List Value → List ℕ → Type 0
SpellsEach Spells [] bytes = bytes ≡ []
SpellsEach Spells (value ∷ values) bytes = (front : List ℕ) × (back : List ℕ)
    × Spells value front × SpellsEach Spells values back × (bytes ≡ front ++ back)
