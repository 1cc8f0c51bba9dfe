-- The book of a run, and that it is legal.
use Rattle.std.specs.Prelude.{◌≡◌, ℕ, ◌≤◌, Bool, List, length, Option, Some}
use Rattle.m17_io.specs.Faults.{HasRisen}
use Rattle.m17_ports.specs.Book.{BookTold}
use Rattle.m17_ports.specs.Told.{StartsEmpty}
use Rattle.m17_control.specs.declared.event.Event.{Event}
use Rattle.m17_floor.specs.Legal.{book_places}
use Rattle.m17_lane.specs.Ends.{TrailEnd}
use Rattle.m17_book.specs.Checks.{IsLegalBook}
use Rattle.m17_book.specs.Versions.{most_book_bytes}
use Rattle.m17_book.specs.declared.record.Record.{Record}
use Rattle.m17_book.specs.declared.version.Version.TheVariants.{Two}
use Rattle.m17_worker.specs.Records.{book_text, records_of, IsBookText}
use Rattle.m17_reflect.specs.Links.{At, setup_at}
use Rattle.m17_reflect.specs.Trails.{events_of}
use Rattle.m17_reflect.specs.Judged.{head_at}
use Rattle.m17_reflect.specs.Headline.{Headline}
use Rattle.m17_reflect.specs.Run.{Devices, Run, Handed}
use Rattle.m17_words.specs.declared.order.ServeOrder.{ServeOrder}
use Rattle.m17_serve.specs.Served.{run_told, Around, IsServable, Serves}
use Rattle.m17_text_commands.specs.Check.{IsLegalInput, RefusesInput}
use Rattle.m17_text_commands.specs.declared.check_reason.CheckReason.{CheckReason}

-- the records of module m of a run that has this trail
abbrev pub trail_records : {E M B : Type 0} → Run E M B → ℕ → TrailEnd Event → List Record
trail_records run m trail = records_of (setup_at run.plan m) (events_of trail)

-- The bytes are the book of module m: its header, and the records of its trail, each of which fits
-- its bytes, and which break no rule under the limit of that header.
pub record HaveLegalBook {E M B : Type 0} (run : Run E M B) (m : ℕ) (bytes : List ℕ) : Type 0
  where
    pub trail : TrailEnd Event
    pub is_there : At run.handed.trails m trail
    pub text : bytes ≡ book_text (head_at run.plan m) (trail_records run m trail)
    pub spelled : IsBookText (head_at run.plan m) (trail_records run m trail)
    pub legal : IsLegalBook (head_at run.plan m).limit (trail_records run m trail)

-- A book that told nothing at first and tells bytes in the end, and whose count of faults didn't
-- rise, is a legal book of its module, under the limit of its header.
abbrev pub BooksOfRunsAreLegal : (E M B : Type 0) → Type 0
BooksOfRunsAreLegal E M B =
    (run : Run E M B) (headline : Headline run) → run.plan.places ≤ book_places →
    (m : ℕ) (before after : BookTold B) (bytes : List ℕ) → At run.before.books m before →
    At run.after.books m after → StartsEmpty before.written → after.written ≡ Some bytes →
    ¬ HasRisen before.faults after.faults → HaveLegalBook run m bytes

-- A book that `serve` hands back, tells its bytes and has never failed is a legal book of its
-- module, under the limit of its header.
abbrev pub BooksOfServeAreLegal : (E M B : Type 0) → Type 0
BooksOfServeAreLegal E M B =
    (order : ServeOrder) (run : Around E M B) (devices : Devices E M (Option B)) (handed : Handed)
    (failed : Bool) (serves : Serves order run devices handed failed) → IsServable order →
    (m : ℕ) (book : BookTold (Option B)) (bytes : List ℕ) → At devices.books m book →
    book.written ≡ Some bytes → book.faults ≡ 0 →
    HaveLegalBook (run_told order run devices handed failed serves) m bytes

-- `check` finds the bytes legal: they are a book of these records, which break no rule, and it
-- refuses them nowhere.
pub record AreFoundLegal (bytes : List ℕ) (records : List Record) : Type 0 where
  pub legal : IsLegalInput bytes records
  pub unrefused : (place : ℕ) (reason : CheckReason) → ¬ RefusesInput bytes place reason

-- A book of a run that is legal, and has at most 67,108,872 bytes, is found so by `check`.
abbrev pub CheckFindsBooksLegal : (E M B : Type 0) → Type 0
CheckFindsBooksLegal E M B =
    (run : Run E M B) (m : ℕ) (bytes : List ℕ) (book : HaveLegalBook run m bytes) →
    length bytes ≤ most_book_bytes Two → AreFoundLegal bytes (trail_records run m book.trail)
