-- What was decided, and what was written of it: admitted packets, tapes, traces and books.
use Rattle.std.specs.Prelude.{◌≡◌, ℕ, ◌<◌, ◌≤◌, Bool, true, List, length, map, Option, None, Some}
use Rattle.m17_ports.specs.Book.{BookTold, HasText}
use Rattle.m17_control.specs.declared.event.Event.{Event}
use Rattle.m17_floor.specs.Setup.{FloorSetup}
use Rattle.m17_floor.specs.Floor.{admitted_count}
use Rattle.m17_floor.specs.declared.verdict.Verdict.{Verdict}
use Rattle.m17_module.specs.Events.{acts_of}
use Rattle.m17_module.specs.Items as module_items
use Rattle.m17_lane.specs.Ends.{TrailEnd}
use Rattle.m17_directory.specs.Entries.{Entry, Setup}
use Rattle.m17_directory.specs.Routed.{link_verdict}
use Rattle.m17_directory.specs.declared.verdict.LinkVerdict.{LinkVerdict}
use Rattle.m17_receiver.specs.Devices.{trace_text}
use Rattle.m17_book.specs.declared.head.Head.{Head}
use Rattle.m17_plan.specs.declared.plan.Plan.{Plan}
use Rattle.m17_worker.specs.Records.{book_text, records_of, IsBookText}
use Rattle.m17_worker.specs.Tape as worker_tape
use Rattle.m17_reflect.specs.Links.{Link, At, link_setup, letter_of, setup_at}
use Rattle.m17_reflect.specs.Run.{Run, module_count}
use Rattle.m17_reflect.specs.Trails.{events_of}

-- The tape of a link has as many cells as the plan has entries: each has the verdict of the entry with its number, or
-- nothing where there is none.
pub record IsLinkTape (setup : Setup) (entries : List Entry) (cells : ℕ)
    (tape : List (Option LinkVerdict)) : Type 0 where
  pub length_is : length tape ≡ cells
  pub filled : (n : ℕ) → n < cells → n < length entries →
      At tape n (Some (link_verdict setup entries n))
  pub empty : (n : ℕ) → n < cells → length entries ≤ n → At tape n None

-- The tape of a module has as many cells as the plan has entries: each has the floor rule's verdict on the packet that
-- came by the entry of link 0 with the cell's number, or nothing where none came.
pub record IsModuleTape (setup : module_items.Setup) (events : List Event) (cells : ℕ)
    (tape : List (Option Verdict)) : Type 0 where
  pub length_is : length tape ≡ cells
  pub verdicts : worker_tape.IsTaped setup events tape

-- The text was written, all of it; or a write failed, which the run then says, its count rose, and
-- a beginning was written.
abbrev pub IsWritten : {L : Type 0} → Bool → BookTold L → List ℕ → BookTold L → Type 0
IsWritten run_failed before text after =
    (failed : Bool) × HasText before text failed after × (failed ≡ true → run_failed ≡ true)

-- What the floor of each module is made with.
abbrev pub floors_of : Plan → FloorSetup
floors_of plan = record { places = plan.places; limit = plan.limit }

-- What the header of a module's book says: the module's letter, and the limit of the plan.
abbrev pub head_at : Plan → ℕ → Head
head_at plan m = record { «module» = letter_of plan m; limit = plan.limit }

-- Each trace has the text of what its link heard, and each book that of its module's trail: where it tells its bytes, this
-- text is a book of just these records.
pub record AreWritten {E M B : Type 0} (run : Run E M B) (links : List Link) : Type 0 where
  pub trace_count : length run.after.traces ≡ length links
  pub traces : (i : ℕ) (link : Link) (before after : BookTold B) → At links i link →
      At run.before.traces i before → At run.after.traces i after →
      IsWritten run.handed.book_failed before (trace_text link.heard) after
  pub book_count : length run.after.books ≡ module_count run.plan
  pub books : (m : ℕ) (trail : TrailEnd Event) (before after : BookTold B) →
      At run.handed.trails m trail →
      At run.before.books m before → At run.after.books m after →
      IsWritten run.handed.book_failed before
      (book_text (head_at run.plan m) (records_of (setup_at run.plan m) (events_of trail))) after
  pub spelled : (m : ℕ) (trail : TrailEnd Event) (after : BookTold B) (bytes : List ℕ) →
      At run.handed.trails m trail → At run.after.books m after → after.written ≡ Some bytes →
      IsBookText (head_at run.plan m) (records_of (setup_at run.plan m) (events_of trail))

-- A packet is admitted exactly where the floor rule of its module's trail says so: the number of packets that each
-- module admitted is the number by that rule, and the tapes show each verdict. Traces and books are written from what
-- was heard and decided (`AreWritten`).
pub record IsJudged {E M B : Type 0} (run : Run E M B) (links : List Link) : Type 0 where
  pub admitted : run.handed.admitted
      ≡ map (λ trail. admitted_count (floors_of run.plan) (acts_of (events_of trail)))
      run.handed.trails
  pub link_tape_count : length run.handed.link_tapes ≡ length links
  pub link_tapes : (i : ℕ) (link : Link) (tape : List (Option LinkVerdict)) → At links i link →
      At run.handed.link_tapes i tape →
      IsLinkTape (link_setup run.plan i) link.entries run.plan.entries tape
  pub tape_count : length run.handed.tapes ≡ module_count run.plan
  pub tapes : (m : ℕ) (trail : TrailEnd Event) (tape : List (Option Verdict)) →
      At run.handed.trails m trail → At run.handed.tapes m tape →
      IsModuleTape (setup_at run.plan m) (events_of trail) run.plan.entries tape
  pub written : AreWritten run links
