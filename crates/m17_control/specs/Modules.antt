-- Sets of modules, and the texts that name them.
use Rattle.std.specs.Prelude.{◌≡◌, ◌≢◌, ◌==◌, ◌&&◌, ℕ, ◌-◌, ◌^◌, ◌<◌, List, Bool, length, nat_le, slice_index, filter}
use Rattle.std.specs.Int.{bit_at}
use Rattle.std.specs.List.{range_with_len}
use Rattle.m17_control.specs.Forms.{IsModule}
use Rattle.m17_control.specs.declared.modules.Modules.{Modules}
use Rattle.m17_control.specs.declared.modules.ModulesRefusal.{ModulesRefusal}
use Rattle.m17_control.specs.declared.modules.ModulesRefusal.TheVariants.{Empty, Letter, Twice}

-- the module with this letter is in the set
unfoldable pub serves : Modules → ℕ → Bool
serves m letter = nat_le 65 letter && nat_le letter 90 && bit_at m.0 (letter - 65) == 1

-- The value is a set of modules: it has no other bits than those of its letters. So equal sets are equal values.
abbrev pub IsSet : Modules → Type 0
IsSet m = m.0 < 2 ^ 26

-- the letters of the set, in order
abbrev pub letters_of : Modules → List ℕ
letters_of m = filter (serves m) (range_with_len 65 26)

-- the letters of the set before this one, in order
abbrev pub letters_before : Modules → ℕ → List ℕ
letters_before m letter = filter (serves m) (range_with_len 65 (letter - 65))

-- the bytes before a place are letters of modules, each once
pub record IsFront (text : List ℕ) (place : ℕ) : Type 0 where
  pub letters : (k : ℕ) → k < place → IsModule (slice_index text k)
  pub once : (j k : ℕ) → j < k → k < place → slice_index text j ≢ slice_index text k

-- The text names modules: one letter or more, each once.
abbrev pub IsModulesText : List ℕ → Type 0
IsModulesText text = (0 < length text) × IsFront text (length text)

-- The text names no modules, and this is the first reason: it is empty, or the byte at a place is no letter of a module,
-- or is one that stands earlier too.
abbrev pub IsModulesRefused : List ℕ → ModulesRefusal → Type 0
IsModulesRefused text Empty = length text ≡ 0
IsModulesRefused text (Letter place) = (place < length text) × IsFront text place
    × (IsModule (slice_index text place) → ⊥)
IsModulesRefused text (Twice place) = (place < length text) × IsFront text place
    × IsModule (slice_index text place)
    × (k : ℕ) × (k < place) × (slice_index text k ≡ slice_index text place)
