-- Shelves and the books over them.
use Rattle.std.specs.Prelude.{◌≡◌, ℕ, Bool, true, false, List, [], ◌∷◌, Some}
use Rattle.m17_ports.specs.Book.{BookTold}
use Rattle.m17_ports.specs.declared.shelf.Shelf.{Shelf}
use Rattle.m17_board.specs.Ends.{PostEnd}
use Rattle.m17_board.specs.Kept.{told_or}
use Rattle.m17_board.specs.Whole.{StandWhole}
use Rattle.m17_board_run.specs.Kept.{told_of_shelf}
use Rattle.m17_board_run.specs.declared.kept.Kept.{Kept}
use Rattle.m17_board_run.specs.declared.kept.Kept.TheVariants.{Plain, Posting}

module _ {B R L : Type 0} where
  -- the shelf as it is
  abbrev pub plain : Shelf B → Kept B R L
  plain shelf = Plain shelf

  -- the shelf of a trace or a book
  abbrev pub plain_of : Kept B R L → Shelf B
  plain_of (Plain shelf) = shelf
  plain_of (Posting book) = book.inner

  -- the book posts
  abbrev pub IsPosting : Kept B R L → Type 0
  IsPosting (Plain shelf) = ⊥
  IsPosting (Posting book) = Unit {0}

  -- it posts where this is true, and else it is the shelf as it is
  abbrev pub IsKept : Bool → Kept B R L → Type 0
  IsKept true kept = IsPosting kept
  IsKept false (Plain shelf) = Unit {0}
  IsKept false (Posting book) = ⊥

  -- the posters of those that post, in order
  abbrev pub posters_of : List (Kept B R L) → List PostEnd
  posters_of [] = []
  posters_of (Plain shelf ∷ kept) = posters_of kept
  posters_of (Posting book ∷ kept) = book.poster ∷ posters_of kept

-- the posters are those of one board, at one place each, whatever they posted
pub record IsSameEnd (p q : PostEnd) : Type 0 where
  pub cell : p.cell ≡ q.cell
  pub number : p.number ≡ q.number

-- What was posted is what stands whole in the bytes of the shelf, or where it tells none in those that were taken, where no
-- write failed.
abbrev pub IsBack : {B L : Type 0} → (B → BookTold L) → Shelf B → PostEnd → Type 0
IsBack told shelf poster = (bytes : List ℕ)
    → told_or (told_of_shelf told shelf).written poster.taken ≡ Some bytes
    → (told_of_shelf told shelf).faults ≡ 0 → StandWhole bytes poster.posted
