-- What is told of a run of the program beside its streams.
use Rattle.std.specs.Prelude.{◌≡◌, ℕ, Option, None}
use Rattle.std.specs.Option.{option_map}
use Rattle.m17_ports.specs.Book.{BookTold}
use Rattle.m17_ports.specs.Ear.{EarTold}
use Rattle.m17_ports.specs.Mouth.{MouthTold}
use Rattle.m17_ports.specs.Ports.{PortsTold}
use Rattle.m17_decorators.specs.Guarded.{guard_told}
use Rattle.m17_decorators.specs.declared.guarded.GuardLabel.{GuardLabel}
use Rattle.m17_reflect.specs.declared.returned.HouseRefusal.{HouseRefusal}
use Rattle.m17_reflect.specs.Run as reflect
use Rattle.m17_serve.specs.Devices.{house_back, refused_back, told_of_shelf}
use Rattle.m17_client_commands.specs.Devices.{DevicesTold, devices_told}
use Rattle.m17_client_commands.specs.Talked.{Handed, handed}
use Rattle.m17_client.specs.CrossDevices as bridge
use Rattle.m17_client_commands.specs.Bridged as bridged
use Rattle.m17_app.specs.declared.done.Done.{Done}
use Rattle.m17_app.specs.declared.done.Ended.{Ended}
use Rattle.m17_app.specs.Fitted.{DevicesBack, ServeRun, behind_told, mouth_told}
use Rattle.m17_app.specs.Status.{Beside, Count, beside, code_of, count_from}

-- What the ports told before the run and after it, how many starts the crew had refused then, and what the run hands
-- back: the devices of a talk that ran, those of a reflector that ran with what went through its threads, those of one
-- that refused to run with the reason, or those of a bridge that ran; and beside those of a reflector the book of its board.
-- The ears of a reflector come back behind all that stands before them, its mouths behind their paces, and the ears of a
-- bridge behind guards.
pub record Doing (E M B : Type 0) : Type 0 where
  pub before : PortsTold
  pub after : PortsTold
  pub crew_before : ℕ
  pub crew_after : ℕ
  pub talk : Option (DevicesTold E M (Option B))
  pub house : Option (DevicesBack E M B × reflect.Handed)
  pub refused : Option (DevicesBack E M B × HouseRefusal)
  pub bridge : Option (bridge.DevicesTold (GuardLabel E) M)
  pub board : Option (BookTold B)

module _ {E M B : Type 0} where
  -- what is told of the run that came to `done`; `ear`, `mouth` and `book` say what each kind of device tells
  abbrev pub doing : {R X Y Z : Type 0} → (E → EarTold X) → (M → MouthTold Y) → (B → BookTold Z)
      → PortsTold → PortsTold → ℕ → ℕ → Done E M B R X → Doing X Y Z
  doing ear mouth book before after crew_before crew_after done = record {
    before = before;
    after = after;
    crew_before = crew_before;
    crew_after = crew_after;
    talk = option_map (λ d. devices_told (ear d.0) (mouth d.1) (told_of_shelf book d.2)) done.talk;
    house = house_back (behind_told ear) (mouth_told mouth) book done.house;
    refused = refused_back (behind_told ear) (mouth_told mouth) book done.refused;
    bridge = option_map (bridged.bridge_told (guard_told ear) mouth) done.bridge;
    board = option_map book done.board;
  }

  -- a run that ended so, with the number of its status
  abbrev pub done_of : {R L : Type 0} → Ended E M B R L → Done E M B R L
  done_of ended = record {
    status = code_of ended.status;
    talk = ended.talk;
    house = ended.house;
    refused = ended.refused;
    bridge = ended.bridge;
    board = ended.board;
  }

  -- the part of it that the clauses of `talk` speak of, that of `bridge`, and that of `serve`
  abbrev pub talk_side : Doing E M B → Handed E M B
  talk_side run = handed run.before run.after run.talk

  abbrev pub bridge_side : Doing E M B → bridged.Handed (GuardLabel E) M
  bridge_side run = bridged.handed run.before run.after run.bridge

  abbrev pub serve_side : Doing E M B → ServeRun E M B
  serve_side run = record {
    before = run.before;
    after = run.after;
    house = run.house;
    refused = run.refused;
    board = run.board;
  }

  -- how many starts the crew refused
  abbrev pub crew_of : Doing E M B → Count
  crew_of run = count_from run.crew_before run.crew_after

  -- what it counts beside the streams
  abbrev pub beside_of : Doing E M B → Beside
  beside_of run = beside (count_from run.before.faults run.after.faults) (crew_of run)

  -- the ports were asked for nothing, and no devices are handed back
  pub record AsksForNothing (run : Doing E M B) : Type 0 where
    pub ports : run.after ≡ run.before
    pub talk : run.talk ≡ None
    pub house : run.house ≡ None
    pub refused : run.refused ≡ None
    pub bridge : run.bridge ≡ None
    pub board : run.board ≡ None

  -- no reflector was to run: the crew was asked for nothing, and no devices of one are handed back
  pub record ServesNothing (run : Doing E M B) : Type 0 where
    pub crew : run.crew_after ≡ run.crew_before
    pub house : run.house ≡ None
    pub refused : run.refused ≡ None
    pub board : run.board ≡ None

  -- nothing was asked for, and nothing is handed back
  pub record DoesNothing (run : Doing E M B) : Type 0 where
    pub ports : run.after ≡ run.before
    pub talk : run.talk ≡ None
    pub bridge : run.bridge ≡ None
    pub serve : ServesNothing run
