-- What `serve` does, and how it ends.
use Rattle.std.specs.Prelude.{◌≡◌, ◌⊎◌, ℕ, ◌<◌, ◌≤◌, Bool, ◌||◌, List, ◌++◌, string_bytes, vec_len, Option, None, Some, IfSome, if◌then◌else◌}
use Rattle.std.specs.Option.{option_map}
use Rattle.m17_io.specs.Faults.{HasRisen}
use Rattle.m17_io.specs.Sink.{AppendsPrefix}
use Rattle.m17_ports.specs.Book.{BookTold}
use Rattle.m17_ports.specs.Ear.{EarTold}
use Rattle.m17_ports.specs.Mouth.{MouthTold}
use Rattle.m17_ports.specs.Ports.{HasAsked, PortsTold}
use Rattle.m17_control.specs.Modules.{letters_of}
use Rattle.m17_plan.specs.declared.plan.Plan.{Plan}
use Rattle.m17_plan.specs.Planned.{IsPlan}
use Rattle.m17_words.specs.declared.order.ServeOrder.{ServeOrder}
use Rattle.m17_client_commands.specs.Devices.{FailsAmong}
use Rattle.m17_board_run.specs.Boarded.{run_on_board, LinesBack, RanOnBoard}
use Rattle.m17_board_run.specs.declared.kept.KeptLabel.{KeptLabel}
use Rattle.m17_reflect.specs.declared.returned.HouseRefusal.{HouseRefusal}
use Rattle.m17_reflect.specs.declared.returned.HouseRefusal.TheVariants as refusals
use Rattle.m17_reflect.specs.Patience.{SomeLost, SomeRose}
use Rattle.m17_reflect.specs.Run.{Devices, Run, Handed}
use Rattle.m17_serve.specs.declared.served.ServeEnding.{ServeEnding}
use Rattle.m17_serve.specs.declared.served.ServeEnding.TheVariants.{Finished, LinkLost, BookFailed, WriteFailed, PortFailed, CrewRefused, NoMemory}
use Rattle.m17_serve.specs.declared.served.Served.{Served}
use Rattle.m17_serve.specs.Asked.{board_call, questions_of}
use Rattle.m17_serve.specs.Devices.{AreNew, AreOf, IsNewBoard, house_back, refused_back}
use Rattle.m17_serve.specs.Lines.{module_lines}

-- the plan of the words: nothing waits for room, and no tapes are kept
abbrev pub serve_plan : ServeOrder → Plan
serve_plan order = record {
  name = order.call;
  modules = order.modules;
  parrots = order.parrots;
  places = order.places;
  patient = Bool.false;
  entries = 0;
  limit = order.limit;
}

-- The values of the words are within their bounds.
pub record IsServable (order : ServeOrder) : Type 0 where
  pub plan : IsPlan (serve_plan order)
  pub some_link : 0 < vec_len order.binds
  pub few_links : vec_len order.binds ≤ 4
  pub few_seconds : IfSome order.seconds (λ seconds. seconds ≤ 1000000)

-- What is told of a run of the command beside its lines: of the ports before it and after it, and what it hands back.
-- That is the devices with what went through the threads, where the reflector ran, and the devices with the reason, where
-- it refused to; and the book of the lines of a board.
pub record Around (E M B : Type 0) : Type 0 where
  pub before : PortsTold
  pub after : PortsTold
  pub house : Option (Devices E M (Option B) × Handed)
  pub refused : Option (Devices E M (Option B) × HouseRefusal)
  pub board : Option (BookTold B)

-- what is told of the run that came to `served`; `ear`, `mouth` and `book` say what each kind of device tells
abbrev pub around : {E M B X Y Z : Type 0} → (E → EarTold X) → (M → MouthTold Y)
    → (B → BookTold Z) → PortsTold → PortsTold → Served E M B → Around X Y Z
around ear mouth book before after served = record {
  before = before;
  after = after;
  house = house_back ear mouth book served.house;
  refused = refused_back ear mouth book served.refused;
  board = option_map book served.board;
}

module _ {E M B : Type 0} where
  -- nothing is handed back
  abbrev pub HandsNothing : Around E M B → Type 0
  HandsNothing run = (run.house ≡ None) × (run.refused ≡ None) × (run.board ≡ None)

  -- no port was asked for anything, and nothing is handed back
  abbrev pub AsksNothing : Around E M B → Type 0
  AsksNothing run = (run.after ≡ run.before) × HandsNothing run

  -- The ports failed at the last of the questions that were asked, which are the first of those of the words. Nothing is
  -- handed back.
  abbrev pub FailsAtPort : ServeOrder → Around E M B → Type 0
  FailsAtPort order run =
      FailsAmong (questions_of order) run.before run.after × HandsNothing run

  -- The ports handed out these devices, which were new, and the book of the lines of a board, new too, where one is named.
  pub record AreOpened (order : ServeOrder) (before after : PortsTold)
      (new : Devices E M (Option B)) (empty : Option (BookTold B)) : Type 0 where
    pub asked : HasAsked (questions_of order) before after
    pub no_fault : after.faults ≡ before.faults
    pub are_new : AreNew order before.calls new
    pub board : IsNewBoard (option_map string_bytes order.board) (board_call order before.calls)
        empty

  -- The reflector refused to run over the devices that the ports handed out, or the crew refused to start the watch of the
  -- board, for this reason. The devices are handed back, still new, and so is the book of the lines, but where it is the
  -- watch that was refused.
  pub record Refuses (order : ServeOrder) (why : HouseRefusal) (run : Around E M B) : Type 0 where
    pub devices : Devices E M (Option B)
    pub empty : Option (BookTold B)
    pub opened : AreOpened order run.before run.after devices empty
    pub handed_back : run.refused ≡ Some (devices, why)
    pub none : run.house ≡ None
    pub lines : LinesBack why empty run.board

  -- The reflector ran over the devices that the ports handed out, and the same devices are handed back: the headline holds
  -- of that run, and the lines of the board show what was posted, where one is named, and whether a write of a line failed.
  pub record Serves (order : ServeOrder) (run : Around E M B) (devices : Devices E M (Option B))
      (handed : Handed) (lines_failed : Bool) : Type 0 where
    pub new : Devices E M (Option B)
    pub empty : Option (BookTold B)
    pub opened : AreOpened order run.before run.after new empty
    pub on_board : RanOnBoard (serve_plan order) new devices handed lines_failed empty run.board
    pub handed_back : run.house ≡ Some (devices, handed)
    pub none : run.refused ≡ None

  -- what such a run of the reflector shows
  abbrev pub run_told : (order : ServeOrder) (run : Around E M B) (devices : Devices E M (Option B))
      (handed : Handed) (failed : Bool) → Serves order run devices handed failed
      → Run E M (KeptLabel B)
  run_told order run devices handed failed serves =
      run_on_board (serve_plan order) serves.on_board.posters serves.new devices handed

-- How a run ends whose lines were printed: a lost link comes before a failed book, and a board that failed is one.
abbrev pub ending_by : Bool → Bool → ServeEnding
ending_by lost book_failed =
    if lost then LinkLost else (if book_failed then BookFailed else Finished)

-- A board failed only where its count of faults rose, as what the lines show says (`ShowsBoard`).
abbrev pub ending_of : Handed → Bool → ServeEnding
ending_of handed lines_failed = ending_by handed.lost (handed.book_failed || lines_failed)

-- the lines of a run
abbrev pub lines_of : ServeOrder → Handed → List ℕ
lines_of order handed = module_lines (letters_of order.modules) handed.admitted handed.missed

module _ {E M B : Type 0} where
  -- The reflector ran, its lines were appended to what stood written, and this is how the command ends then.
  abbrev pub EndsServe : ServeOrder → ServeEnding → Around E M B → Option (List ℕ)
      → Option (List ℕ) → Type 0
  EndsServe order ending run first written =
      (devices : Devices E M (Option B)) × (handed : Handed) × (lines_failed : Bool)
      × Serves order run devices handed lines_failed
      × (ending ≡ ending_of handed lines_failed) × ((before : List ℕ) → first ≡ Some before
      → written ≡ Some (before ++ lines_of order handed))

  -- The reflector ran, and a first part of its lines was appended.
  abbrev pub CutsServe : ServeOrder → Around E M B → Option (List ℕ) → Option (List ℕ) → Type 0
  CutsServe order run first written =
      (devices : Devices E M (Option B)) × (handed : Handed) × (lines_failed : Bool)
      × Serves order run devices handed lines_failed
      × ((before : List ℕ) → first ≡ Some before
      → AppendsPrefix before (lines_of order handed) written)

  -- What each ending of `serve` says. Nothing is printed before the reflector has run. Want of memory comes before the
  -- ports are asked for anything, or before anything was heard.
  abbrev pub ComesToServe : ServeOrder → ServeEnding → Around E M B → Option (List ℕ)
      → Option (List ℕ) → Type 0
  ComesToServe order Finished run first written = EndsServe order Finished run first written
  ComesToServe order LinkLost run first written = EndsServe order LinkLost run first written
  ComesToServe order BookFailed run first written = EndsServe order BookFailed run first written
  ComesToServe order WriteFailed run first written = CutsServe order run first written
  ComesToServe order PortFailed run first written = FailsAtPort order run × (written ≡ first)
  ComesToServe order CrewRefused run first written =
      Refuses order refusals.Crew run × (written ≡ first)
  ComesToServe order NoMemory run first written =
      (AsksNothing run ⊎ Refuses order refusals.NoMemory run) × (written ≡ first)

  -- This is known of the ears and the mouths that are handed back, if any are.
  abbrev pub AreKnown : (ℕ → E → Type 0) → (ℕ → M → Type 0) → Around E M B → Type 0
  AreKnown ears mouths run = IfSome run.house (λ back. AreOf ears mouths back.0)
      × IfSome run.refused (λ back. AreOf ears mouths back.0)

-- The reflector never ran.
abbrev pub NeverRan : ServeEnding → Type 0
NeverRan Finished = ⊥
NeverRan LinkLost = ⊥
NeverRan BookFailed = ⊥
NeverRan WriteFailed = ⊥
NeverRan PortFailed = Unit {0}
NeverRan CrewRefused = Unit {0}
NeverRan NoMemory = Unit {0}

-- The crew was never asked for anything: the ports failed, or there was no memory.
abbrev pub NeverAsked : ServeEnding → Type 0
NeverAsked ending = (ending ≡ PortFailed) ⊎ (ending ≡ NoMemory)

-- How often the ports and the sink have failed, and how many starts the crew has refused.
pub record Counts : Type 0 where
  pub ports : ℕ
  pub crew : ℕ
  pub sink : ℕ

abbrev pub counts : ℕ → ℕ → ℕ → Counts
counts ports crew sink = record { ports = ports; crew = crew; sink = sink }

-- The count rose where this is so, and stands where it is not.
pub record RoseWhere (cause : Type 0) (before after : ℕ) : Type 0 where
  pub rose : cause → HasRisen before after
  pub stands : (cause → ⊥) → after ≡ before

-- A failure is told exactly where the count of what failed rose.
pub record HasCauses (ending : ServeEnding) (before after : Counts) : Type 0 where
  pub ports : RoseWhere (ending ≡ PortFailed) before.ports after.ports
  pub crew : RoseWhere (ending ≡ CrewRefused) before.crew after.crew
  pub sink : RoseWhere (ending ≡ WriteFailed) before.sink after.sink
  pub sink_counted : before.sink ≤ after.sink

-- Nothing stood against a run of the reflector: no link's list ended in 16 faults, and no count of a trace, a book or the book
-- of a board's lines rose.
pub record IsUntroubled {E M B : Type 0} (order : ServeOrder) (run : Around E M B)
    (devices : Devices E M (Option B)) (handed : Handed) (lines_failed : Bool)
    (serves : Serves order run devices handed lines_failed) : Type 0 where
  pub no_link_lost : ¬ SomeLost serves.on_board.ran.headline.carried_out.links
  pub no_trace_failed : ¬ SomeRose (λ book. book.faults)
      (run_told order run devices handed lines_failed serves).before.traces
      (run_told order run devices handed lines_failed serves).after.traces
  pub no_book_failed : ¬ SomeRose (λ book. book.faults)
      (run_told order run devices handed lines_failed serves).before.books
      (run_told order run devices handed lines_failed serves).after.books
  pub no_lines_failed : (empty lines : BookTold B) → serves.empty ≡ Some empty
      → run.board ≡ Some lines → ¬ HasRisen empty.faults lines.faults
