-- What a run of the program promises, by its words.
use Rattle.std.specs.Prelude.{◌≡◌, ◌⊎◌, ℕ, ◌≤◌, Bool, true, List, Option, None, IsSome}
use Rattle.m17_control.specs.declared.modules.Modules.{Modules}
use Rattle.m17_plan.specs.declared.plan.Plan.{Plan}
use Rattle.m17_plan.specs.Planned.{IsPlan}
use Rattle.m17_words.specs.declared.command.Command.{Command}
use Rattle.m17_words.specs.declared.command.Command.TheVariants.{Judge, Show, Replay, Make, Check, Migrate, Talk, Serve, Bridge}
use Rattle.m17_words.specs.Words.{Names}
use Rattle.m17_app.specs.declared.status.Status.{Status}
use Rattle.m17_app.specs.declared.status.Status.TheVariants.{NoMemory}
use Rattle.m17_app.specs.Bridge.{bridge_terms}
use Rattle.m17_app.specs.Doing.{Doing, AsksForNothing, DoesNothing, ServesNothing, beside_of, bridge_side, crew_of, talk_side}
use Rattle.m17_app.specs.Make.{make_terms}
use Rattle.m17_app.specs.Replayed.{replay_terms}
use Rattle.m17_app.specs.Run.{AreRefused, refused_terms}
use Rattle.m17_app.specs.Serve.{serve_terms}
use Rattle.m17_app.specs.Status.{Streams}
use Rattle.m17_app.specs.Talk.{talk_terms}
use Rattle.m17_app.specs.Terms.{RunsCommand, Terms}
use Rattle.m17_app.specs.Text.{check_command, judge_command, migrate_command, show_command, text_terms}
use Rattle.m17_serve.specs.Served.{IsServable}
use Rattle.m17_client_commands.specs.Bridged.{IsBridgeable}

-- the plan of a replay: patient, and with no tapes
abbrev pub replay_plan : ℕ → Modules → Modules → ℕ → ℕ → Plan
replay_plan call modules parrots places limit = record {
  name = call;
  modules = modules;
  parrots = parrots;
  places = places;
  patient = Bool.true;
  entries = 0;
  limit = limit;
}

module _ {E M B : Type 0} where
  -- The terms of each command, and what it leaves alone. Only `talk`, `serve` and `bridge` ask the ports for anything, and
  -- hand back devices, each its own, and the book of a board only where one is named; only `serve`, and `replay` over
  -- threads, have the crew start threads.
  abbrev pub terms_of : Command → Doing E M B → Terms
  terms_of Judge run = text_terms judge_command
  terms_of Show run = text_terms show_command
  terms_of (Make seed count) run = make_terms seed count
  terms_of Check run = text_terms check_command
  terms_of Migrate run = text_terms migrate_command
  terms_of (Replay call modules parrots places summary limit threads) run =
      replay_terms (replay_plan call modules parrots places limit) summary threads
      (crew_of run)
  terms_of (Talk order) run = talk_terms order (talk_side run)
  terms_of (Serve order) run = serve_terms order run
  terms_of (Bridge order) run = bridge_terms order (bridge_side run)

  abbrev pub LeavesAlone : Command → Doing E M B → Type 0
  LeavesAlone Judge run = DoesNothing run
  LeavesAlone Show run = DoesNothing run
  LeavesAlone (Make seed count) run = DoesNothing run
  LeavesAlone Check run = DoesNothing run
  LeavesAlone Migrate run = DoesNothing run
  LeavesAlone (Replay call modules parrots places summary limit threads) run = AsksForNothing run
  LeavesAlone (Talk order) run = ServesNothing run × (run.bridge ≡ None)
  LeavesAlone (Serve order) run = (run.talk ≡ None) × (run.bridge ≡ None)
      × (order.board ≡ None → run.board ≡ None)
  LeavesAlone (Bridge order) run = ServesNothing run × (run.talk ≡ None)

  -- What the run of a command promises.
  abbrev pub Runs : Command → Status → Streams → Streams → Doing E M B → Type 0
  Runs command status before after run =
      RunsCommand (terms_of command run) status before after (beside_of run)
      × LeavesAlone command run

  -- What a run promises whose words are refused: that a line says so, and that nothing was asked for.
  abbrev pub RefusesWords : Status → Streams → Streams → Doing E M B → Type 0
  RefusesWords status before after run =
      RunsCommand refused_terms status before after (beside_of run) × DoesNothing run

  -- There was no memory for reading the words, and no device was touched.
  abbrev pub WantsMemory : Status → Streams → Streams → Doing E M B → Type 0
  WantsMemory status before after run =
      (status ≡ NoMemory) × (after ≡ before) × DoesNothing run

  -- What a run promises: that of the command which its words name, or that they are refused where they name none; or
  -- there was no memory for reading them, and no device was touched.
  abbrev pub RunsWords : List (List ℕ) → Status → Streams → Streams → Doing E M B → Type 0
  RunsWords words status before after run =
      ((command : Command) × Names words command × Runs command status before after run)
      ⊎ (AreRefused words × RefusesWords status before after run)
      ⊎ WantsMemory status before after run

  -- What a run promises whose words name no command: that they are refused, or there was no memory for reading them and
  -- no device was touched.
  abbrev pub EndsRefused : Status → Streams → Streams → Doing E M B → Type 0
  EndsRefused status before after run =
      RefusesWords status before after run ⊎ WantsMemory status before after run

-- The command is a reflector with a board; the words name one, or none.
abbrev pub HasBoard : Command → Type 0
HasBoard (Serve order) = IsSome order.board
HasBoard _ = ⊥

abbrev pub NameBoard : List (List ℕ) → Type 0
NameBoard words = (command : Command) × Names words command × HasBoard command

abbrev pub NameNoBoard : List (List ℕ) → Type 0
NameNoBoard words = NameBoard words → ⊥

-- The command has the crew start threads, where it comes so far: a reflector, or a replay over threads; the words name
-- none that does.
abbrev pub HasThreads : Command → Type 0
HasThreads (Replay call modules parrots places summary limit threads) = threads ≡ true
HasThreads (Serve order) = Unit {0}
HasThreads _ = ⊥

abbrev pub NameNoThreads : List (List ℕ) → Type 0
NameNoThreads words = (command : Command) → Names words command → HasThreads command → ⊥

-- The values of a command are within the bounds that its run needs, as those of a command that words name are.
abbrev pub IsRunnable : Command → Type 0
IsRunnable Judge = Unit {0}
IsRunnable Show = Unit {0}
IsRunnable (Make seed count) = count ≤ 100000
IsRunnable Check = Unit {0}
IsRunnable Migrate = Unit {0}
IsRunnable (Replay call modules parrots places summary limit threads) =
    IsPlan (replay_plan call modules parrots places limit)
IsRunnable (Talk order) = Unit {0}
IsRunnable (Serve order) = IsServable order
IsRunnable (Bridge order) = IsBridgeable order
