-- The records of a module's events, beside what its book keeps act by act.
use Rattle.std.specs.Prelude.{◌≡◌, ◌≤◌, List}
use Rattle.m17_control.specs.declared.event.Event.{Event}
use Rattle.m17_floor.specs.Legal.{book_places}
use Rattle.m17_module.specs.Book as keeps
use Rattle.m17_module.specs.Items.{Setup}
use Rattle.m17_book.specs.Checks.{kept_of, IsLegalBook}
use Rattle.m17_worker.specs.Records.{records_of}

-- The records keep just what the module's book is to keep.
abbrev pub RecordsKeepTheActs : Type 0
RecordsKeepTheActs =
    (setup : Setup) (events : List Event) →
    kept_of (records_of setup events) ≡ keeps.kept_of setup events

-- The records of a module of at most 256 places are legal under its limit.
abbrev pub BooksAreLegal : Type 0
BooksAreLegal =
    (setup : Setup) (events : List Event) → setup.places ≤ book_places →
    IsLegalBook setup.limit (records_of setup events)
