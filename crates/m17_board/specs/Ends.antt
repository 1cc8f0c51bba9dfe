-- What contracts see of a board's ends.
use Rattle.std.specs.Prelude.{◌≡◌, ℕ, suc, List, [], ◌∷◌, ◌++◌, length, nat_lt, if◌then◌else◌}
use Rattle.std.specs.List.{All, AllZip}
use Rattle.atomic_table.specs.Seated.{TableId}
use Rattle.m17_book.specs.declared.record.Record.{Record}
use Rattle.m17_board.specs.declared.glance.Glance.{Glance}
use Rattle.m17_board.specs.Glance.{glance_of, IsGlanceWithin}

-- A poster: its cell, its module's number on the board, what it posted, and the bytes that the book over it took, if there is
-- one.
pub record PostEnd : Type 0 where
  pub cell : TableId
  pub number : ℕ
  pub posted : List Record
  pub taken : List ℕ

-- An eye: its cell, its module's number, the first records that it knows of, and what it saw, look by look.
pub record EyeEnd : Type 0 where
  pub cell : TableId
  pub number : ℕ
  pub known : List Record
  pub seen : List Glance

-- A note: its cell, its module, and what was posted when it was taken.
pub record NoteEnd : Type 0 where
  pub cell : TableId
  pub number : ℕ
  pub known : List Record

-- the longer list of the two
abbrev pub longer : List Record → List Record → List Record
longer a b = if nat_lt (length a) (length b) then b else a

-- the poster and the eye of one cell, new: nothing was posted, and nothing was seen
abbrev pub IsNewPair : ℕ → PostEnd → EyeEnd → Type 0
IsNewPair m p e = (p ≡ record { cell = e.cell; number = m; posted = []; taken = [] })
    × (e ≡ record { cell = p.cell; number = m; known = []; seen = [] })

-- the ends of one module
abbrev pub IsPair : PostEnd → EyeEnd → Type 0
IsPair p e = (e.cell ≡ p.cell) × (e.number ≡ p.number)

-- Each poster stands with the eye of its own cell, in the same order.
abbrev pub AreOfOneBoard : List PostEnd → List EyeEnd → Type 0
AreOfOneBoard posters eyes = AllZip IsPair posters eyes

-- what the eye saw are glances at first parts of what the poster posted
abbrev pub SawFirstParts : PostEnd → EyeEnd → Type 0
SawFirstParts p e = All (IsGlanceWithin p.posted) e.seen

-- the eye has seen as much, and the glance at this first part last
abbrev pub seen_more : EyeEnd → List Record → EyeEnd
seen_more e more = record e {
  known = e.known ++ more;
  seen = e.seen ++ glance_of (e.known ++ more) ∷ [];
}

-- Posters and eyes of a new board, one of each for each module.
abbrev pub NewPairs : ℕ → List PostEnd → List EyeEnd → Type 0
NewPairs from [] [] = Unit {0}
NewPairs from [] (e ∷ es) = ⊥
NewPairs from (p ∷ ps) [] = ⊥
NewPairs from (p ∷ ps) (e ∷ es) = IsNewPair from p e × NewPairs (suc from) ps es

-- The board has this number of modules, numbered from 0, and nothing was posted or seen.
abbrev pub AreNew : ℕ → List PostEnd → List EyeEnd → Type 0
AreNew modules posters eyes = (length posters ≡ modules) × NewPairs 0 posters eyes
