-- What follows for what stands whole in bytes, for the lines of a watch, and for its ends.
use Rattle.std.specs.Prelude.{◌≡◌, ℕ, false, List, ◌++◌, map}
use Rattle.std.specs.List.{AllZip}
use Rattle.m17_ports.specs.Book.{BookTold}
use Rattle.m17_book.specs.Book.{HasBookForm}
use Rattle.m17_book.specs.declared.head.Head.{Head}
use Rattle.m17_book.specs.declared.record.Record.{Record}
use Rattle.m17_book.specs.declared.version.Version.TheVariants.{Two}
use Rattle.m17_board.specs.Glance.{IsFirstPart}
use Rattle.m17_board.specs.Whole.{StandWhole}
use Rattle.m17_board.specs.Ends.{PostEnd, AreOfOneBoard, SawFirstParts}
use Rattle.m17_board.specs.Shows.{shown_of, WatchDid}
use Rattle.m17_board.specs.Written.{BoardLine, Wrote, TellFirstParts}
use Rattle.m17_board.specs.declared.watch.Watch.{Watch}

-- Of bytes one list of records stands whole at most; of a book just its records; and as more bytes come, no record goes
-- and none comes before another.
pub record OneListStandsWhole : Type 0 where
  pub one : (bytes : List ℕ) (a b : List Record) → StandWhole bytes a → StandWhole bytes b → a ≡ b
  pub whole : (bytes : List ℕ) (head : Head) (records posted : List Record)
      → HasBookForm Two bytes head records → StandWhole bytes posted → posted ≡ records
  pub on : (bytes more : List ℕ) (a b : List Record)
      → StandWhole bytes a → StandWhole (bytes ++ more) b → IsFirstPart a b

-- What a watch wrote whose book had not failed before is lines, and their numbers rise, module by module.
abbrev pub NumbersRise : {B L : Type 0} → (T : Type 0) → (B → BookTold L) → Type 0
NumbersRise {B} T told = (j k : Watch B T) → WatchDid told j k → j.failed ≡ false
    → (lines : List BoardLine) × Wrote told j.modules (shown_of j) (shown_of k) lines

-- Where what its eyes saw are glances at first parts of what these posters posted, as the end of the board says, each line
-- tells what is shown of such a first part.
abbrev pub LinesTellFirstParts : {B L : Type 0} → (T : Type 0) → (B → BookTold L) → Type 0
LinesTellFirstParts {B} T told = (j k : Watch B T) (lines : List BoardLine) (posters : List PostEnd)
    → Wrote told j.modules (shown_of j) (shown_of k) lines
    → AllZip SawFirstParts posters k.eyes.items → TellFirstParts posters lines

-- An ended watch has the ends of the board that it had, in the same places, and the same book.
pub record HasSameEnds {B L T : Type 0} (told : B → BookTold L) (j k : Watch B T) : Type 0 where
  pub cells : map (λ eye. eye.cell) k.eyes.items ≡ map (λ eye. eye.cell) j.eyes.items
  pub numbers : map (λ eye. eye.number) k.eyes.items ≡ map (λ eye. eye.number) j.eyes.items
  pub board : (posters : List PostEnd) → AreOfOneBoard posters j.eyes.items
      → AreOfOneBoard posters k.eyes.items
  pub device : (told k.book).device ≡ (told j.book).device

abbrev pub EndsStay : {B L : Type 0} → (T : Type 0) → (B → BookTold L) → Type 0
EndsStay {B} T told = (j k : Watch B T) → WatchDid told j k → HasSameEnds told j k
