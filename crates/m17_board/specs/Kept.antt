-- What contracts see of a book that posts.
use Rattle.std.specs.Prelude.{◌≡◌, ℕ, List, [], Option, None, Some}
use Rattle.m17_ports.specs.Book.{BookTold}
use Rattle.m17_book.specs.declared.record.Record.{Record}
use Rattle.m17_board.specs.Ends.{PostEnd}
use Rattle.m17_board.specs.declared.board_book.BoardLabel.{BoardLabel}
use Rattle.m17_board.specs.Whole.{StandWhole, FeedKept, HasRead}

-- A book that posts: the inner book, its poster, and what is kept of the bytes.
pub record BoardKept (B : Type 0) : Type 0 where
  pub inner : B
  pub poster : PostEnd
  pub feed : FeedKept

-- The writes that the inner book took had these bytes: the records that stand whole in them were posted, and they are read
-- so far.
pub record HasTaken {B : Type 0} (book : BoardKept B) (taken : List ℕ) : Type 0 where
  pub whole : StandWhole taken book.poster.posted
  pub read : HasRead book.feed taken book.poster.posted

-- the bytes that are told, or these where none are
abbrev pub told_or : Option (List ℕ) → List ℕ → Option (List ℕ)
told_or None taken = Some taken
told_or (Some bytes) taken = Some bytes

-- the poster before it posted, over a book that took nothing
abbrev pub unposted : PostEnd → PostEnd
unposted poster = record poster { posted = []; taken = [] }

-- What it tells: what the inner book does, or where that tells no bytes those that it took; with its poster, as it was before
-- it posted, in the label.
abbrev pub board_told : {B L : Type 0} → (B → BookTold L) → BoardKept B → BookTold (BoardLabel L)
board_told told book = record {
  written = told_or (told book.inner).written book.poster.taken;
  faults = (told book.inner).faults;
  device = record {
    mark = (told book.inner).device.mark;
    label = record {
      inner = (told book.inner).device.label;
      poster = unposted book.poster;
    };
  };
}

-- What was taken is read. Where the inner book tells its bytes and never failed, they are what was taken.
abbrev pub IsInStep : {L : Type 0} → BookTold L → FeedKept → PostEnd → Type 0
IsInStep told feed poster = HasRead feed poster.taken poster.posted
    × ((bytes : List ℕ) → told.written ≡ Some bytes → told.faults ≡ 0
    → HasRead feed bytes poster.posted)
