-- What a run of `serve` promises: one without rules, which reads nothing, and one by the rules of its input.
use Rattle.std.specs.Prelude.{◌≡◌, ◌⊎◌, ℕ, Bool, false, true, List, [], ◌++◌, Option, Some}
use Rattle.m17_io.specs.Faults.{HasRisen}
use Rattle.m17_print.specs.Endings.{crew_refused_line, input_refused_line, last_line, port_failed_line, read_failed_line}
use Rattle.m17_print.specs.declared.ending.NoReason.{NoReason}
use Rattle.m17_reflect.specs.declared.returned.HouseRefusal.TheVariants as refusals
use Rattle.m17_reflect.specs.Run.{Handed}
use Rattle.m17_gate.specs.declared.rule.Rule.{Rule}
use Rattle.m17_gate.specs.Text.{AreRules}
use Rattle.m17_gate.specs.declared.failure.RulesReason.{RulesReason}
use Rattle.m17_gate.specs.Reasons.{rules_reason_words}
use Rattle.m17_gate.specs.Taking.{RefusesRules}
use Rattle.m17_words.specs.declared.order.ServeOrder.{ServeOrder}
use Rattle.m17_serve.specs.declared.served.ServeEnding.{ServeEnding}
use Rattle.m17_serve.specs.Endings.{serve_ending}
use Rattle.m17_serve.specs.Served.{ending_of, lines_of, AsksNothing, FailsAtPort, IsUntroubled, Refuses, Serves}
use Rattle.m17_app.specs.declared.status.Status.{Status}
use Rattle.m17_app.specs.declared.status.Status.TheVariants.{Finished, InputRefused, ReadFailed, WriteFailed, PortFailed, CrewRefused, LinkLost, BookFailed, NoMemory}
use Rattle.m17_app.specs.Doing.{Doing, crew_of, serve_side}
use Rattle.m17_app.specs.Fitted.{AreBehind, ArePaced, DevicesBack, ServeRun}
use Rattle.m17_app.specs.Status.{Count, Streams, status_of}
use Rattle.m17_app.specs.Terms.{Terms}
use Rattle.m17_app.specs.Written.{Adds, AddsPart, LeavesInput}

-- no reason has words, since no input is refused
abbrev pub no_words : NoReason → List ℕ
no_words reason = []

-- the last line of a run that ended so, if it has one, and its status where that line could be written
abbrev pub serve_last_line : ServeEnding → List ℕ
serve_last_line ending = last_line no_words (serve_ending ending)

abbrev pub serve_status : ServeEnding → Status
serve_status ending = status_of (serve_ending ending)

-- the text of a run of the reflector that ended so: the line of each module, and then the last line
abbrev pub serve_text : ServeOrder → Handed → ServeEnding → List ℕ
serve_text order handed ending = lines_of order handed ++ serve_last_line ending

-- The rules are those of the input, which was read to its end.
abbrev pub TakesRules : List Rule → Streams → Streams → Type 0
TakesRules rules before after = (text : List ℕ) → before.source.left ≡ Some text
    → AreRules text rules × (after.source.left ≡ Some [])

-- The rules of a run: those of its input, where the words say so, and else none, and nothing is read.
abbrev pub TakesBy : Bool → List Rule → Streams → Streams → Type 0
TakesBy true rules before after = TakesRules rules before after
TakesBy false rules before after = (rules ≡ []) × LeavesInput before after

-- The rules were taken, if any are.
abbrev pub HasRules : Bool → Streams → Streams → Type 0
HasRules by before after = (rules : List Rule) × TakesBy by rules before after

-- the input is no text of rules, at this place and for this reason
abbrev pub AreNoRules : ℕ → RulesReason → Streams → Type 0
AreNoRules place reason before =
    (text : List ℕ) → before.source.left ≡ Some text → RefusesRules text place reason

-- the input is refused, and the one line says where and why
abbrev pub RefusedRules : Streams → Streams → Type 0
RefusedRules before after = (place : ℕ) × (reason : RulesReason) × AreNoRules place reason before
    × Adds (input_refused_line place (rules_reason_words reason)) before after

-- the last line of a run that ended before it asked the ports, if it has one
abbrev pub IsEarlyLine : List ℕ → Streams → Streams → Type 0
IsEarlyLine line before after = (line ≡ [])
    ⊎ ((line ≡ read_failed_line) × HasRisen before.source.faults after.source.faults)
    ⊎ ((place : ℕ) × (reason : RulesReason) × AreNoRules place reason before
    × (line ≡ input_refused_line place (rules_reason_words reason)))

-- Nothing was written and nothing failed; and without rules no stream was touched.
abbrev pub KeepsBy : Bool → Streams → Streams → Type 0
KeepsBy true before after = (after.sink.written ≡ before.sink.written)
    × (after.source.faults ≡ before.source.faults) × (after.sink.faults ≡ before.sink.faults)
KeepsBy false before after = after ≡ before

-- it takes any input without rules, and else the texts of rules
abbrev pub TakesInput : Bool → Option (List ℕ) → Type 0
TakesInput true left = (text : List ℕ) × (left ≡ Some text)
    × ((rules : List Rule) × AreRules text rules)
TakesInput false left = Unit {0}

module _ {E M B : Type 0} where
  -- The reflector ran over its devices, which are handed back, each ear and each mouth behind what the words ask for; this
  -- went through its threads, and so the command ends where its lines are written.
  abbrev pub RanBy : ServeOrder → ServeRun E M B → List Rule → Handed → ServeEnding
      → Type 0
  RanBy order run rules handed ending =
      (devices : DevicesBack E M B) × (lines_failed : Bool)
      × Serves order run devices handed lines_failed × (ending ≡ ending_of handed lines_failed)
      × AreBehind order rules devices × ArePaced order devices

  -- nothing stood against the run: no link was lost, and no book failed
  abbrev pub IsSmooth : ServeOrder → ServeRun E M B → Type 0
  IsSmooth order run = (devices : DevicesBack E M B) (handed : Handed)
      (lines_failed : Bool) (serves : Serves order run devices handed lines_failed)
      → IsUntroubled order run devices handed lines_failed serves

  -- The reflector ran to an end with this status, and its text stands written.
  pub record RanServe (order : ServeOrder) (run : ServeRun E M B) (status : Status)
      (before after : Streams) : Type 0 where
    pub rules : List Rule
    pub taken : TakesBy order.rules rules before after
    pub handed : Handed
    pub ending : ServeEnding
    pub ran : RanBy order run rules handed ending
    pub status_is : status ≡ serve_status ending
    pub text : Adds (serve_text order handed ending) before after

  -- the same, and a first part of its text stands written
  abbrev pub CutsRun : ServeOrder → ServeRun E M B → Streams → Streams → Type 0
  CutsRun order run before after = (rules : List Rule) × TakesBy order.rules rules before after
      × ((handed : Handed) × (ending : ServeEnding) × RanBy order run rules handed ending
      × AddsPart (serve_text order handed ending) before after)

  -- the crew refused a start, and the devices come back as new as they were
  abbrev pub RefusedServe : ServeOrder → ServeRun E M B → Count → Type 0
  RefusedServe order run crew =
      Refuses order refusals.Crew run × HasRisen crew.before crew.after

  -- The sink failed: before the ports and the crew were asked, after the ports failed, after the crew had refused, or after
  -- the reflector had run; a first part of the text of such a run stands written.
  abbrev pub CutsServe : ServeOrder → ServeRun E M B → Count → Streams → Streams
      → Type 0
  CutsServe order run crew before after =
      ((order.rules ≡ true) × AsksNothing run × (crew.after ≡ crew.before)
      × ((line : List ℕ) × IsEarlyLine line before after × AddsPart line before after))
      ⊎ (HasRules order.rules before after × FailsAtPort order run
      × AddsPart port_failed_line before after)
      ⊎ (HasRules order.rules before after × RefusedServe order run crew
      × AddsPart crew_refused_line before after)
      ⊎ CutsRun order run before after

  -- What each status says of a run of `serve`.
  abbrev pub TellsServe : ServeOrder → ServeRun E M B → Count → Status → Streams
      → Streams → Type 0
  TellsServe order run crew Finished before after = RanServe order run Finished before after
  TellsServe order run crew LinkLost before after = RanServe order run LinkLost before after
  TellsServe order run crew BookFailed before after = RanServe order run BookFailed before after
  TellsServe order run crew InputRefused before after =
      (order.rules ≡ true) × AsksNothing run × RefusedRules before after
  TellsServe order run crew ReadFailed before after =
      (order.rules ≡ true) × AsksNothing run × Adds read_failed_line before after
  TellsServe order run crew WriteFailed before after = CutsServe order run crew before after
  TellsServe order run crew PortFailed before after = HasRules order.rules before after
      × FailsAtPort order run × Adds port_failed_line before after
  TellsServe order run crew CrewRefused before after = HasRules order.rules before after
      × RefusedServe order run crew × Adds crew_refused_line before after
  -- before anything was heard or written, and no device has failed then
  TellsServe order run crew NoMemory before after =
      (AsksNothing run ⊎ Refuses order refusals.NoMemory run) × KeepsBy order.rules before after
  TellsServe order run crew _ before after = ⊥

  -- the terms of a run of `serve`
  abbrev pub serve_terms : ServeOrder → Doing E M B → Terms
  serve_terms order run = record {
    tells = TellsServe order (serve_side run) (crew_of run);
    takes = TakesInput order.rules;
    untroubled = λ left. IsSmooth order (serve_side run);
  }
