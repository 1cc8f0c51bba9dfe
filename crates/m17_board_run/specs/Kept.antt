-- What is told of the books of a run with a board.
use Rattle.std.specs.Prelude.{◌-◌, ◌^◌, ◌≤◌, List, [], ◌∷◌, map, Option, None, Some}
use Rattle.std.proofs.Common.{lit≤}
use Rattle.std.specs.Option.{option_map}
use Rattle.m17_ports.specs.Book.{BookTold, shelf_told}
use Rattle.m17_ports.specs.declared.shelf.Shelf.{Shelf}
use Rattle.m17_board.specs.Ends.{PostEnd}
use Rattle.m17_board.specs.Kept.{board_told, told_or, unposted}
use Rattle.m17_reflect.specs.Run.{Devices}
use Rattle.m17_board_run.specs.declared.kept.Kept.{Kept}
use Rattle.m17_board_run.specs.declared.kept.Kept.TheVariants as kept
use Rattle.m17_board_run.specs.declared.kept.KeptLabel.{KeptLabel}
use Rattle.m17_board_run.specs.declared.kept.KeptLabel.TheVariants.{Plain, Posting}

-- what a shelf tells, by what is told of books
abbrev pub told_of_shelf : {B L : Type 0} → (B → BookTold L) → Shelf B → BookTold (Option L)
told_of_shelf told shelf = shelf_told (option_map told shelf.inner)

-- what a book tells, with another label
abbrev pub labelled : {L K : Type 0} → (L → K) → BookTold L → BookTold K
labelled label told = record {
  written = told.written;
  faults = told.faults;
  device = record { mark = told.device.mark; label = label told.device.label };
}

-- What is told of a trace or a book: what its shelf tells, or the book over it that posts. Its label says which.
abbrev pub kept_told : {B R L : Type 0} → (B → BookTold L) → Kept B R L → BookTold (KeptLabel L)
kept_told told (kept.Plain shelf) = labelled Plain (told_of_shelf told shelf)
kept_told told (kept.Posting book) = labelled Posting (board_told (told_of_shelf told) book)

-- The shelf as it is, and with this poster over it: then it tells the bytes that the book over it took, where it tells none.
abbrev pub plain_told : {L : Type 0} → BookTold (Option L) → BookTold (KeptLabel L)
plain_told told = labelled Plain told

abbrev pub posting_told : {L : Type 0} → PostEnd → BookTold (Option L) → BookTold (KeptLabel L)
posting_told poster told = record {
  written = told_or told.written poster.taken;
  faults = told.faults;
  device = record {
    mark = told.device.mark;
    label = Posting record { inner = told.device.label; poster = unposted poster };
  };
}

-- the books with these posters, one over each as long as there are any
abbrev pub posting_each : {L : Type 0} → List PostEnd → List (BookTold (Option L))
    → List (BookTold (KeptLabel L))
posting_each [] books = map plain_told books
posting_each (poster ∷ posters) [] = []
posting_each (poster ∷ posters) (book ∷ books) =
    posting_told poster book ∷ posting_each posters books

-- What a reflector sees of its devices: traces as they are, books that post by these posters, or as they are where there are
-- none, and the others as they are.
abbrev pub on_board : {E M L : Type 0} → List PostEnd → Devices E M (Option L)
    → Devices E M (KeptLabel L)
on_board posters devices = record {
  ears = devices.ears;
  mouths = devices.mouths;
  traces = map plain_told devices.traces;
  books = posting_each posters devices.books;
}

-- A count of faults is a number of 64 bits, of shelves and of books over them, where it is one of books.
inner-fits : {B L : Type 0} (told : B → BookTold L) → ((book : B) → (told book).faults ≤ 2 ^ 64 - 1)
    → (inner : Option B) → (shelf_told (option_map told inner)).faults ≤ 2 ^ 64 - 1
inner-fits told fits None = lit≤ tt
inner-fits told fits (Some book) = fits book

pub kept-fits : {B R L : Type 0} (told : B → BookTold L)
    → ((book : B) → (told book).faults ≤ 2 ^ 64 - 1)
    → (one : Kept B R L) → (kept_told told one).faults ≤ 2 ^ 64 - 1
kept-fits told fits (kept.Plain shelf) = inner-fits told fits shelf.inner
kept-fits told fits (kept.Posting book) = inner-fits told fits book.inner.inner
