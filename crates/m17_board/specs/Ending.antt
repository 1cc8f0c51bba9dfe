-- What the end of a watched board does, step by step.
use Rattle.std.specs.Prelude.{◌≡◌, ◌⊎◌, ℕ, ◌+◌, ◌<◌, ◌≤◌, false, List, All, slice_get, slice_index, Some}
use Rattle.std.specs.List.{AllPairs}
use Rattle.m17_ports.specs.Book.{BookTold}
use Rattle.m17_control.specs.declared.modules.Modules.{Modules}
use Rattle.m17_board.specs.Ends.{EyeEnd}
use Rattle.m17_board.specs.declared.glance.Glance.{Glance}
use Rattle.m17_board.specs.Shows.{Shown}
use Rattle.m17_board.specs.Written.{BoardLine, HasSeen, IsBefore, WroteBy}
use Rattle.m17_board.specs.declared.watch.Watch.{Watch}

-- The watch is as it is before its thread begins: no line was written, and no write failed.
pub record IsFresh {B T : Type 0} (watch : Watch B T) : Type 0 where
  pub going : watch.failed ≡ false
  pub none : (place : ℕ) → slice_index watch.last.items place ≡ 0

-- For proofs alone: the glance is one that an eye saw, or the last one of its module.
abbrev pub TellsIn : List EyeEnd → List Glance → ℕ → Glance → Type 0
TellsIn eyes glances place glance =
    HasSeen eyes place glance ⊎ (slice_get glances place ≡ Some glance)

-- what was written goes on with lines of these glances
abbrev pub GoesOn : {B L : Type 0} → (B → BookTold L) → Modules → List Glance → Shown B → Shown B
    → Type 0
GoesOn {B} told modules glances a b = (eyes : List EyeEnd) (from : Shown B) (lines : List BoardLine)
    → WroteBy (TellsIn eyes glances) told modules from a lines
    → (more : List BoardLine) × WroteBy (TellsIn eyes glances) told modules from b more

-- of each module up to a place the last line has no fewer records than its glance
abbrev pub HasLast : List Glance → List ℕ → ℕ → Type 0
HasLast glances last count = (place : ℕ) (glance : Glance) → place < count
    → slice_get glances place ≡ Some glance → glance.records ≤ slice_index last place

-- What was written between two moments is lines of these glances, in order of letters, all of letters before this one.
pub record InOrder {B L : Type 0} (told : B → BookTold L) (modules : Modules) (glances : List Glance)
    (letter : ℕ) (from to : Shown B) : Type 0 where
  pub lines : List BoardLine
  pub wrote : WroteBy (λ place glance. slice_get glances place ≡ Some glance) told modules from to
      lines
  pub in_order : AllPairs IsBefore lines
  pub before : All (λ line. line.letter < letter) lines

-- the same goes on with the module of this letter
abbrev pub GoesInOrder : {B L : Type 0} → (B → BookTold L) → Modules → List Glance → ℕ → Shown B
    → Shown B → Type 0
GoesInOrder {B} told modules glances letter a b = (from : Shown B)
    → InOrder told modules glances letter from a → InOrder told modules glances (letter + 1) from b
