-- What was made for a run.
use Rattle.std.specs.Prelude.{◌≡◌, ℕ, ◌≤◌, Bool, true, false, List, [], replicate, vec_capacity, Option, None, Some}
use Rattle.m17_board.specs.Ends.{AreNew, AreOfOneBoard, PostEnd}
use Rattle.m17_board_run.specs.declared.board.Board.{Board}
use Rattle.m17_board_run.specs.declared.board.Desk.{Desk}
use Rattle.m17_board_run.specs.declared.board.Rooms.{Rooms}

-- there is room for the traces of this number of links and the books of this number of modules, and nothing is there yet
pub record HasRooms {B R L : Type 0} (links modules : ℕ) (rooms : Rooms B R L) : Type 0 where
  pub kept_traces : (rooms.kept_traces.items ≡ []) × (links ≤ vec_capacity rooms.kept_traces)
  pub kept_books : (rooms.kept_books.items ≡ []) × (modules ≤ vec_capacity rooms.kept_books)
  pub traces : (rooms.traces.items ≡ []) × (links ≤ vec_capacity rooms.traces)
  pub books : (rooms.books.items ≡ []) × (modules ≤ vec_capacity rooms.books)
  pub posters : (rooms.posters.items ≡ []) × (modules ≤ vec_capacity rooms.posters)

-- there is a poster and an eye for each of this number of modules, of which nothing was posted or seen, and no line yet
pub record HasEnds (modules : ℕ) (posters : List PostEnd) (desk : Desk) : Type 0 where
  pub new : AreNew modules posters desk.eyes.items
  pub ends : AreOfOneBoard posters desk.eyes.items
  pub last : desk.last.items ≡ replicate modules 0
  pub glances : (desk.glances.items ≡ []) × (modules ≤ vec_capacity desk.glances)

-- there is a poster for each module where the board is shown, and else none
abbrev pub IsDesk : ℕ → Bool → List PostEnd → Option Desk → Type 0
IsDesk modules true posters (Some desk) = HasEnds modules posters desk
IsDesk modules true posters None = ⊥
IsDesk modules false posters desk = posters ≡ []

-- It was made for this number of links and of modules, and for a board that is shown or is not.
pub record IsMade {B R L : Type 0} (links modules : ℕ) (shown : Bool) (board : Board B R L) : Type 0
  where
    pub rooms : HasRooms links modules board.rooms
    pub desk : IsDesk modules shown board.posters.items board.desk
