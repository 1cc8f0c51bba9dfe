-- What is told of a run of the program whose streams and devices its caller doesn't see.
use Rattle.std.specs.Prelude.{◌≡◌, ◌≢◌, ◌⊎◌, ◌↔◌, ℕ, List, length, reverse, All, Option, None, Some, IfSome}
use Rattle.std.specs.List.{AllZip}
use Rattle.m17_disk.specs.Writing.{EndsAs, IsWritten}
use Rattle.m17_disk.specs.declared.writer.Writer.{Writer}
use Rattle.m17_net.specs.Devices.{BookKept, IsBegun, file_book_told}
use Rattle.m17_reflect.specs.declared.returned.HouseRefusal.{HouseRefusal}
use Rattle.m17_reflect.specs.Run as reflect
use Rattle.m17_ports.specs.Book.{BookTold, shelf_told}
use Rattle.m17_ports.specs.Ports.{PortsTold}
use Rattle.m17_client_commands.specs.Devices.{DevicesTold}
use Rattle.m17_client.specs.CrossDevices as bridge
use Rattle.m17_decorators.specs.declared.guarded.GuardLabel.{GuardLabel}
use Rattle.m17_app.specs.declared.status.Status.{Status}
use Rattle.m17_app.specs.declared.status.Status.TheVariants.{NoMemory}
use Rattle.m17_app.specs.Commands.{RunsWords}
use Rattle.m17_app.specs.Fitted.{DevicesBack}
use Rattle.m17_app.specs.Habits.{Keep}
use Rattle.m17_app.specs.Status.{Streams, Count, Tells}

-- What is told of a book that may be missing is what such a one tells: one that isn't there has written nothing, and never
-- failed.
abbrev pub IsOfShelf : {B : Type 0} → BookTold (Option B) → Type 0
IsOfShelf {B} told = (book : Option (BookTold B)) × (told ≡ shelf_told book)

-- The same of the book of a talk, and of the traces and books of a reflector that ran or refused to.
pub record AreOfShelves {E M B : Type 0} (talk : Option (DevicesTold E M (Option B)))
    (house : Option (DevicesBack E M B × reflect.Handed))
    (refused : Option (DevicesBack E M B × HouseRefusal)) : Type 0 where
  pub in_talk : IfSome talk (λ d. IsOfShelf d.book)
  pub in_house : IfSome house (λ h. All IsOfShelf h.0.traces × All IsOfShelf h.0.books)
  pub in_refused : IfSome refused (λ h. All IsOfShelf h.0.traces × All IsOfShelf h.0.books)

-- A run of these words ended with this status. The ports told `first` before it and `last` after it, and `crew` is the
-- number of starts that the crew had refused before it and after it. E, M and B are the kinds of the labels of its
-- ears, mouths and books.
pub record HasRun (E M B : Type 0) (words : List (List ℕ)) (status : Status)
    (first last : PortsTold) (crew : Count) : Type 0 where
  pub before : Streams
  pub after : Streams
  pub talk : Option (DevicesTold E M (Option B))
  pub house : Option (DevicesBack E M B × reflect.Handed)
  pub refused : Option (DevicesBack E M B × HouseRefusal)
  pub bridge : Option (bridge.DevicesTold (GuardLabel E) M)
  pub board : Option (BookTold B)
  pub shelves : AreOfShelves talk house refused
  pub ran : RunsWords words status before after (record {
    before = first;
    after = last;
    crew_before = crew.before;
    crew_after = crew.after;
    talk = talk;
    house = house;
    refused = refused;
    bridge = bridge;
    board = board;
  })

-- The same, where there was memory for the words; else nothing was run.
abbrev pub HasRunIfAny : (E M B : Type 0) → Option (List (List ℕ)) → Status → PortsTold
    → PortsTold → Count → Type 0
HasRunIfAny E M B None status first last crew =
    (status ≡ NoMemory) × (last ≡ first) × (crew.after ≡ crew.before)
HasRunIfAny E M B (Some words) status first last crew =
    HasRun E M B words status first last crew

-- The number is that of the status of a run of the program, whose ears, mouths and books have labels of these kinds.
pub record EndsAsRun (E M B : Type 0) (code : ℕ) : Type 0 where
  pub words : Option (List (List ℕ))
  pub first : PortsTold
  pub last : PortsTold
  pub crew : Count
  pub told : Tells code (λ status. HasRunIfAny E M B words status first last crew)

-- What became of threads that were started for new books, the last first.
pub record AreEnded {F : Type 0} (ended : List (Option (Writer (BookKept F)))) : Type 0 where
  pub started : List (Writer (BookKept F))
  pub new : All IsBegun started
  pub each : AllZip (EndsAs file_book_told) (reverse started) ended

-- Where the ports of a run had counted no fault before, as they do where a thread can't be started, each trace and book that
-- the command of its words keeps has its thread among these. They had not been asked for anything.
pub record AreAll {B : Type 0} (words : Option (List (List ℕ))) (first : PortsTold)
    (ended : List (Option (Writer B))) : Type 0 where
  pub unasked : first.calls ≡ 0
  pub all : first.faults ≡ 0 → IfSome words (λ words. Keep words (length ended))

-- The words of a run are those that were given to it.
abbrev pub AreGiven : Option (List (List ℕ)) → Option (List (List ℕ)) → Type 0
AreGiven given words = IfSome words (λ words. given ≡ Some words)

-- The number that a process ends with, by what became of the threads of its books and by the number that its command ended
-- with. It is the same, but where that is 0: then it is 0 exactly where each thread ended and no write failed, and else 8,
-- or 4.
pub record IsClosed {B : Type 0} (books : List (Option (Writer B))) (ended code : ℕ) : Type 0 where
  pub kept : ended ≢ 0 → code ≡ ended
  pub written : ended ≡ 0 → (code ≡ 0) ↔ All IsWritten books
  pub failed : ended ≡ 0 → (All IsWritten books → ⊥) → (code ≡ 8) ⊎ (code ≡ 4)
