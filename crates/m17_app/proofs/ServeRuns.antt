-- A run of `serve`, from what came of its rules and from its ending to what it promises.
use Rattle.std.proofs.Common.{◌≡◌, ◌≢◌, ◌⊎◌, ℕ, zero, suc, ◌<◌, ◌≤◌, Bool, true, false, List, [], ◌++◌, take, length, get_or, Option, None, Some, Err, refl, sym, ap, subst, ◌∙◌, arith, inl, inr}
use Rattle.std.specs.Prelude.{IfSome, IsTrue, ◌||◌, if◌then◌else◌, nat_lt, option_map, slice_get, vec_len}
use Rattle.std.proofs.lemmas.Bool.{le-ltb, lt-ltb}
use Rattle.std.proofs.lemmas.List.{length-map}
use Rattle.std.proofs.lemmas.Option.{slice_get-get_or, slice_get-map}
use Rattle.m17_io.specs.Faults.{HasRisen, HasCauses}
use Rattle.m17_io.specs.Sink.{AppendsPrefix}
use Rattle.m17_io.specs.Source.{SourceTold}
use Rattle.m17_io.specs.declared.fault.Fault.{Fault}
use Rattle.m17_io.specs.declared.fault.Fault.TheVariants.{Read, Write}
use Rattle.m17_ports.specs.Book.{BookTold}
use Rattle.m17_ports.specs.Ear.{EarTold}
use Rattle.m17_ports.specs.Mouth.{MouthTold}
use Rattle.m17_print.specs.declared.ending.Ending.{Ending}
use Rattle.m17_print.specs.declared.ending.Ending.TheVariants as ways
use Rattle.m17_print.specs.declared.ending.NoReason.{NoReason}
use Rattle.m17_print.specs.Endings.{last_line, read_failed_line}
use Rattle.m17_control.specs.declared.modules.Modules.{Modules}
use Rattle.m17_gate.specs.declared.rule.Rule.{Rule}
use Rattle.m17_gate.specs.Links.{rules_at}
use Rattle.m17_gate.specs.Text.{AreRules}
use Rattle.m17_gate.specs.declared.failure.RulesFailure.{RulesFailure}
use Rattle.m17_gate.specs.declared.failure.RulesFailure.TheVariants as failures
use Rattle.m17_gate.specs.declared.failure.RulesReason.{RulesReason}
use Rattle.m17_gate.specs.Endings.{rules_ending}
use Rattle.m17_gate.specs.Laws.{NoRulesAreRefused}
use Rattle.m17_gate.specs.Reasons.{rules_reason_words}
use Rattle.m17_gate.specs.Taking.{SaysFailure, fault_told}
use Rattle.m17_board.specs.Ends.{PostEnd}
use Rattle.m17_board_run.specs.Boarded.{ShowLines}
use Rattle.m17_reflect.specs.declared.returned.HouseRefusal.TheVariants as refusals
use Rattle.m17_reflect.specs.Links.{Link}
use Rattle.m17_reflect.specs.Run.{Handed}
use Rattle.m17_decorators.specs.Paced.{PacesSeen, places_at}
use Rattle.m17_words.specs.declared.order.ServeOrder.{ServeOrder}
use Rattle.m17_serve.specs.declared.served.ServeEnding.{ServeEnding}
use Rattle.m17_serve.specs.declared.served.ServeEnding.TheVariants as endings
use Rattle.m17_serve.specs.Served as serve
use Rattle.m17_serve.specs.Devices.{AreOf}
use Rattle.m17_serve.specs.Endings.{serve_ending}
use Rattle.m17_serve.specs.Served.{ending_by, ending_of, lines_of, AreKnown, AsksNothing, ComesToServe, FailsAtPort, Refuses, RoseWhere, Serves}
use Rattle.m17_app.specs.declared.status.Status.{Status}
use Rattle.m17_app.specs.declared.status.Status.TheVariants.{Finished, InputRefused, ReadFailed, WriteFailed, PortFailed, CrewRefused, LinkLost, BookFailed, NoMemory}
use Rattle.m17_app.specs.declared.fitted.Fittings.{Fittings}
use Rattle.m17_app.specs.Fitted.{AreBehind, ArePaced, DevicesBack, IsBehind, IsPaced, LabelBehind, MouthLabel, ServeRun, Stands, StandsBehind, guards_of, paces_of}
use Rattle.m17_app.specs.Serve.{serve_last_line, serve_status, CutsRun, CutsServe, IsSmooth, KeepsBy, RanBy, RanServe, TakesBy, TakesInput, TellsServe}
use Rattle.m17_app.specs.Status.{Beside, Count, HasCause, Streams, RoseBy, WritesLast, status_of}
use Rattle.m17_app.specs.Terms.{RunsCommand, Terms}
use Rattle.m17_app.proofs.Statuses.{Told, is_write_failed, never, own_status}
use Rattle.m17_app.proofs.Causes.{cause_from, counts, memory_cause, runs_by, sound_from, stays}
use Rattle.m17_app.proofs.Written.{adds_after, adds_part_after, part_longer, same_written}

-- the device of the streams that an ending tells of
abbrev fault_of : ServeEnding → Option Fault
fault_of endings.Finished = None
fault_of endings.LinkLost = None
fault_of endings.BookFailed = None
fault_of endings.WriteFailed = Some Write
fault_of endings.PortFailed = None
fault_of endings.CrewRefused = None
fault_of endings.NoMemory = None

told : (ending : ServeEnding) → ending ≢ endings.NoMemory → Told (serve_status ending) (fault_of ending)
told endings.Finished other = record { read_told = λ e. cc; read_failed = λ e. cc; write_told = λ e. cc; write_failed = λ e. cc; no_memory = λ e. cc }
told endings.LinkLost other = record { read_told = λ e. cc; read_failed = λ e. cc; write_told = λ e. cc; write_failed = λ e. cc; no_memory = λ e. cc }
told endings.BookFailed other = record { read_told = λ e. cc; read_failed = λ e. cc; write_told = λ e. cc; write_failed = λ e. cc; no_memory = λ e. cc }
told endings.WriteFailed other = record { read_told = λ e. cc; read_failed = λ e. cc; write_told = λ _. refl; write_failed = λ _. refl; no_memory = λ e. cc }
told endings.PortFailed other = record { read_told = λ e. cc; read_failed = λ e. cc; write_told = λ e. cc; write_failed = λ e. cc; no_memory = λ e. cc }
told endings.CrewRefused other = record { read_told = λ e. cc; read_failed = λ e. cc; write_told = λ e. cc; write_failed = λ e. cc; no_memory = λ e. cc }
told endings.NoMemory other = absurd (other refl)

no_read : (ending : ServeEnding) → fault_of ending ≢ Some Read
no_read endings.Finished e = cc
no_read endings.LinkLost e = cc
no_read endings.BookFailed e = cc
no_read endings.WriteFailed e = cc
no_read endings.PortFailed e = cc
no_read endings.CrewRefused e = cc
no_read endings.NoMemory e = cc

is_write : (ending : ServeEnding) → fault_of ending ≡ Some Write → ending ≡ endings.WriteFailed
is_write endings.Finished e = cc
is_write endings.LinkLost e = cc
is_write endings.BookFailed e = cc
is_write endings.WriteFailed e = refl
is_write endings.PortFailed e = cc
is_write endings.CrewRefused e = cc
is_write endings.NoMemory e = cc

-- the endings with the statuses 7 and 8
link_ending : (ending : ServeEnding) → LinkLost ≡ serve_status ending → ending ≡ endings.LinkLost
link_ending endings.Finished e = cc
link_ending endings.LinkLost e = refl
link_ending endings.BookFailed e = cc
link_ending endings.WriteFailed e = cc
link_ending endings.PortFailed e = cc
link_ending endings.CrewRefused e = cc
link_ending endings.NoMemory e = cc

book_ending : (ending : ServeEnding) → BookFailed ≡ serve_status ending → ending ≡ endings.BookFailed
book_ending endings.Finished e = cc
book_ending endings.LinkLost e = cc
book_ending endings.BookFailed e = refl
book_ending endings.WriteFailed e = cc
book_ending endings.PortFailed e = cc
book_ending endings.CrewRefused e = cc
book_ending endings.NoMemory e = cc

-- there was memory, or there was none
back_again : (ending : ServeEnding) → serve_ending ending ≡ ways.NoMemory → ending ≡ endings.NoMemory
back_again endings.Finished e = cc
back_again endings.LinkLost e = cc
back_again endings.BookFailed e = cc
back_again endings.WriteFailed e = cc
back_again endings.PortFailed e = cc
back_again endings.CrewRefused e = cc
back_again endings.NoMemory e = refl

pub has_memory : (ending : ServeEnding) (way : Ending NoReason) → way ≡ serve_ending ending → ending ≢ endings.NoMemory → way ≢ ways.NoMemory
has_memory ending way is other e = other (back_again ending (sym is ∙ e))

pub no_memory : (ending : ServeEnding) (way : Ending NoReason) → way ≡ serve_ending ending → ending ≡ endings.NoMemory → way ≡ ways.NoMemory
no_memory ending way is none = is ∙ ap serve_ending none

-- a run without memory ended so
pub memory_ending : (ending : ServeEnding) (status : Status) (mid after : Streams) → (ending ≢ endings.NoMemory → WritesLast (serve_last_line ending) (serve_status ending) status mid after)
    → status ≡ NoMemory → ending ≡ endings.NoMemory
memory_ending endings.Finished status mid after last is = absurd (never NoMemory Finished status ((last (λ e. cc)).answer) (λ e. cc) (λ e. cc) is)
memory_ending endings.LinkLost status mid after last is = absurd (never NoMemory LinkLost status ((last (λ e. cc)).answer) (λ e. cc) (λ e. cc) is)
memory_ending endings.BookFailed status mid after last is = absurd (never NoMemory BookFailed status ((last (λ e. cc)).answer) (λ e. cc) (λ e. cc) is)
memory_ending endings.WriteFailed status mid after last is = absurd (never NoMemory WriteFailed status ((last (λ e. cc)).answer) (λ e. cc) (λ e. cc) is)
memory_ending endings.PortFailed status mid after last is = absurd (never NoMemory PortFailed status ((last (λ e. cc)).answer) (λ e. cc) (λ e. cc) is)
memory_ending endings.CrewRefused status mid after last is = absurd (never NoMemory CrewRefused status ((last (λ e. cc)).answer) (λ e. cc) (λ e. cc) is)
memory_ending endings.NoMemory status mid after last is = refl

-- the endings with the statuses 5 and 6
port_ending : (ending : ServeEnding) → serve_status ending ≡ PortFailed → ending ≡ endings.PortFailed
port_ending endings.Finished e = cc
port_ending endings.LinkLost e = cc
port_ending endings.BookFailed e = cc
port_ending endings.WriteFailed e = cc
port_ending endings.PortFailed e = refl
port_ending endings.CrewRefused e = cc
port_ending endings.NoMemory e = cc

crew_ending : (ending : ServeEnding) → serve_status ending ≡ CrewRefused → ending ≡ endings.CrewRefused
crew_ending endings.Finished e = cc
crew_ending endings.LinkLost e = cc
crew_ending endings.BookFailed e = cc
crew_ending endings.WriteFailed e = cc
crew_ending endings.PortFailed e = cc
crew_ending endings.CrewRefused e = refl
crew_ending endings.NoMemory e = cc

rose_so : (which : Status) (that ending : ServeEnding) (a b : ℕ) → serve_status that ≡ which → (serve_status ending ≡ which → ending ≡ that) → RoseWhere (ending ≡ that) a b
    → RoseBy which (serve_status ending) a b
rose_so which that ending a b is back rose = record {
  rose = λ e. rose.rose (back e);
  stands = λ other _. rose.stands (λ e. other (ap serve_status e ∙ is));
}

-- the causes, as those of the streams
causes_of : (ending : ServeEnding) (before mid : Streams) → mid.source.faults ≡ before.source.faults → before.sink.faults ≤ mid.sink.faults → RoseWhere (ending ≡ endings.WriteFailed) before.sink.faults mid.sink.faults
    → HasCauses (counts before) (counts mid) (fault_of ending)
causes_of ending before mid same counted sink = record {
  reads_counted = omega (arith, same);
  writes_counted = counted;
  read_failed = λ e. absurd (no_read ending e);
  write_failed = λ e. sink.rose (is_write ending e);
  no_read_fault = λ _. same;
  no_write_fault = λ other. sink.stands (λ e. other (ap fault_of e));
}

-- A last line was written behind what an ending printed.
abbrev AddsLine : ServeEnding → Streams → Streams → Type 0
AddsLine ending mid after = (xs : List ℕ) → mid.sink.written ≡ Some xs → after.sink.written ≡ Some (xs ++ serve_last_line ending)

abbrev AddsLinePart : ServeEnding → Streams → Streams → Type 0
AddsLinePart ending mid after = (xs : List ℕ) → mid.sink.written ≡ Some xs → AppendsPrefix xs (serve_last_line ending) after.sink.written

-- there was memory for the rules, or there was none
pub has_room : (failure : RulesFailure) (way : Ending RulesReason) → way ≡ rules_ending failure → failure ≢ failures.NoMemory → way ≢ ways.NoMemory
has_room (failures.Refused place reason) way is other none = absurd (let e = sym is ∙ none in cc)
has_room (failures.Device Read) way is other none = absurd (let e = sym is ∙ none in cc)
has_room (failures.Device Write) way is other none = absurd (let e = sym is ∙ none in cc)
has_room failures.NoMemory way is other none = other refl

pub wants_room : (failure : RulesFailure) (way : Ending RulesReason) → way ≡ rules_ending failure → failure ≡ failures.NoMemory → way ≡ ways.NoMemory
wants_room failure way is none = is ∙ ap rules_ending none

-- what was taken is taken still where the input was left alone
pub taken_on : (by : Bool) (rules : List Rule) (before mid after : Streams) → TakesBy by rules before mid → after.source ≡ mid.source → TakesBy by rules before after
taken_on true rules before mid after taken same = λ text is. ((taken text is).0, ap (λ (s : SourceTold). s.left) same ∙ (taken text is).1)
taken_on false rules before mid after taken same = (taken.0, same ∙ taken.1)

-- what an ending before the ports were asked tells of the streams
refused_told : Told InputRefused None
refused_told = record { read_told = λ e. cc; read_failed = λ e. cc; write_told = λ e. cc; write_failed = λ e. cc; no_memory = λ e. cc }

read_told : Told ReadFailed (Some Read)
read_told = record { read_told = λ _. refl; read_failed = λ _. refl; write_told = λ e. cc; write_failed = λ e. cc; no_memory = λ e. cc }

write_told : Told WriteFailed (Some Write)
write_told = record { read_told = λ e. cc; read_failed = λ e. cc; write_told = λ _. refl; write_failed = λ _. refl; no_memory = λ e. cc }

-- what an ending says of what came back
was_lost : (lost failed : Bool) → endings.LinkLost ≡ ending_by lost failed → IsTrue lost
was_lost true failed e = refl
was_lost false true e = cc
was_lost false false e = cc

had_failed : (lost failed : Bool) → endings.BookFailed ≡ ending_by lost failed → IsTrue failed
had_failed true failed e = cc
had_failed false true e = refl
had_failed false false e = cc

either : (a b : Bool) → IsTrue (a || b) → IsTrue a ⊎ IsTrue b
either true b is = inl refl
either false b is = inr is

-- a write of a line that failed rose the count of the book of the lines
lines_cut : {B : Type 0} (modules : Modules) (count : ℕ) (posters : List PostEnd) (failed : Bool) (empty lines : Option (BookTold B)) → ShowLines modules count posters failed empty lines
    → IsTrue failed → (e : BookTold B) × (l : BookTold B) × (empty ≡ Some e) × (lines ≡ Some l) × HasRisen e.faults l.faults
lines_cut modules count posters failed (Some e) (Some l) shows is = (e, l, refl, refl, (shows.1.text.cut is).2)
lines_cut modules count posters failed (Some e) None shows is = absurd shows
lines_cut modules count posters failed None (Some l) shows is = absurd shows
lines_cut modules count posters failed None None shows is = absurd (let e = sym shows.1 ∙ is in cc)

pub keeps_by : (by : Bool) (before mid after : Streams) → after ≡ mid → KeepsBy by before mid → KeepsBy by before after
keeps_by by before mid after same kept = subst (KeepsBy by before) (sym same) kept

kept_counts : (by : Bool) (before after : Streams) → KeepsBy by before after → (after.source.faults ≡ before.source.faults) × (after.sink.faults ≡ before.sink.faults)
kept_counts true before after kept = (kept.1, kept.2)
kept_counts false before after kept = (ap (λ (o : Streams). o.source.faults) kept, ap (λ (o : Streams). o.sink.faults) kept)

-- the guard of each link is on exactly where there are guards
guard_is : (i n : ℕ) (guard : Bool) → i < n → nat_lt i (if guard then n else 0) ≡ guard
guard_is i n true within = lt-ltb i n within
guard_is i n false within = le-ltb i 0 (omega arith)

-- there is a pace of each link where there is a bound
pace_is : (i n pace full : ℕ) → i < n → 0 < pace → (if nat_lt i (if nat_lt 0 pace then n else 0) then full else 0) ≡ full
pace_is i n pace full within some = rw (lt-ltb 0 pace some, lt-ltb i n within)

module _ {E M B : Type 0} (order : ServeOrder) (run : ServeRun E M B) where
  abbrev pub RunTerms : Count → Terms
  RunTerms crew = record { tells = TellsServe order run crew; takes = TakesInput order.rules; untroubled = λ left. IsSmooth order run }

  -- The reflector ran to this ending, and its lines were appended.
  abbrev RanTo : List Rule → ServeEnding → Option (List ℕ) → Option (List ℕ) → Type 0
  RanTo rules ending first written = (handed : Handed) × RanBy order run rules handed ending × ((before : List ℕ) → first ≡ Some before → written ≡ Some (before ++ lines_of order handed))

  -- What each ending says by these rules, before the last line.
  abbrev Comes : List Rule → ServeEnding → Option (List ℕ) → Option (List ℕ) → Type 0
  Comes rules endings.Finished first written = RanTo rules endings.Finished first written
  Comes rules endings.LinkLost first written = RanTo rules endings.LinkLost first written
  Comes rules endings.BookFailed first written = RanTo rules endings.BookFailed first written
  Comes rules endings.WriteFailed first written = (handed : Handed) × (ending : ServeEnding) × RanBy order run rules handed ending
      × ((before : List ℕ) → first ≡ Some before → AppendsPrefix before (lines_of order handed) written)
  Comes rules endings.PortFailed first written = FailsAtPort order run × (written ≡ first)
  Comes rules endings.CrewRefused first written = Refuses order refusals.Crew run × (written ≡ first)
  Comes rules endings.NoMemory first written = (AsksNothing run ⊎ Refuses order refusals.NoMemory run) × (written ≡ first)

  abbrev Behind : List Rule → Type 0
  Behind rules = (devices : DevicesBack E M B) (handed : Handed) (failed : Bool) → Serves order run devices handed failed → AreBehind order rules devices × ArePaced order devices

  comes_of : (rules : List Rule) (ending : ServeEnding) (first written : Option (List ℕ)) → Behind rules → ComesToServe order ending run first written → Comes rules ending first written
  comes_of rules endings.Finished first written behind (devices, handed, failed, serves, is, printed) = let by = behind devices handed failed serves in (handed, (devices, failed, serves, is, by.0, by.1), printed)
  comes_of rules endings.LinkLost first written behind (devices, handed, failed, serves, is, printed) = let by = behind devices handed failed serves in (handed, (devices, failed, serves, is, by.0, by.1), printed)
  comes_of rules endings.BookFailed first written behind (devices, handed, failed, serves, is, printed) = let by = behind devices handed failed serves in (handed, (devices, failed, serves, is, by.0, by.1), printed)
  comes_of rules endings.WriteFailed first written behind (devices, handed, failed, serves, printed) =
      let by = behind devices handed failed serves in (handed, ending_of handed failed, (devices, failed, serves, refl, by.0, by.1), printed)
  comes_of rules endings.PortFailed first written behind came = came
  comes_of rules endings.CrewRefused first written behind came = came
  comes_of rules endings.NoMemory first written behind came = came

  -- what the ports say of the ears and the mouths that come back
  of_ports : (fittings : Fittings) → AreKnown (λ i label. Stands fittings i label) (λ i label. StandsBehind fittings i label) run
      → (devices : DevicesBack E M B) (handed : Handed) (failed : Bool) → Serves order run devices handed failed → AreOf (λ i label. Stands fittings i label) (λ i label. StandsBehind fittings i label) devices
  of_ports fittings known devices handed failed serves =
      subst (λ (o : Option (DevicesBack E M B × Handed)). IfSome o (λ back. AreOf (λ i label. Stands fittings i label) (λ i label. StandsBehind fittings i label) back.0)) serves.handed_back known.0

  -- the ears stand behind what the words ask for
  ears_of : (fittings : Fittings) → fittings.fills ≡ order.fill → fittings.guards ≡ guards_of order → ((i : ℕ) → i < vec_len order.binds → rules_at fittings.rules i ≡ fittings.rules.rules)
      → (devices : DevicesBack E M B) (handed : Handed) (failed : Bool) → Serves order run devices handed failed
      → AreOf (λ i label. Stands fittings i label) (λ i label. StandsBehind fittings i label) devices → AreBehind order fittings.rules.rules devices
  ears_of fittings fills guards each devices handed failed serves of =
      λ k d inside.
      let ear = get_or devices.ears k d in
      let at : slice_get devices.ears k ≡ Some ear = slice_get-get_or devices.ears k d inside in
      let within : k < vec_len order.binds = omega (arith, inside, serves.on_board.ran.headline.ears.same_count, serves.opened.are_new.ears.count_is) in
      let stands : Stands fittings k ear.device.label =
      of.ears_are k ear.device.label (slice_get-map (λ (one : EarTold (LabelBehind E)). one.device.label) devices.ears k ∙ ap (option_map (λ (one : EarTold (LabelBehind E)). one.device.label)) at) in
      record {
        fill = stands.fill ∙ fills;
        guard = stands.guard ∙ ap (nat_lt k) guards ∙ guard_is k (vec_len order.binds) order.guard within;
        rules = stands.rules ∙ each k within;
      }

  -- as many mouths come back as there are links
  mouths_count : (devices : DevicesBack E M B) (handed : Handed) (failed : Bool) → Serves order run devices handed failed → length devices.mouths ≡ vec_len order.binds
  mouths_count devices handed failed serves =
      let headline = serves.on_board.ran.headline in
      let links = headline.carried_out.links in
      omega (
        arith,
        headline.carried_out.mouths.count,
        length-map links (λ (link : Link). link.heard),
        ap length headline.carried_out.of_heard,
        headline.ears.count,
        serves.opened.are_new.ears.count_is,
      )

  -- the mouths keep the pace of the words
  mouths_of : (fittings : Fittings) → fittings.paces ≡ paces_of order → (devices : DevicesBack E M B) (handed : Handed) (failed : Bool) → Serves order run devices handed failed
      → AreOf (λ i label. Stands fittings i label) (λ i label. StandsBehind fittings i label) devices → ArePaced order devices
  mouths_of fittings paces devices handed failed serves of =
      λ k d inside.
      let mouth = get_or devices.mouths k d in
      let at : slice_get devices.mouths k ≡ Some mouth = slice_get-get_or devices.mouths k d inside in
      let within : k < vec_len order.binds = omega (arith, inside, mouths_count devices handed failed serves) in
      let stands : StandsBehind fittings k mouth.device.label =
      of.mouths_are k mouth.device.label (slice_get-map (λ (one : MouthTold (MouthLabel M)). one.device.label) devices.mouths k ∙ ap (option_map (λ (one : MouthTold (MouthLabel M)). one.device.label)) at) in
      record {
        most = stands.most ∙ ap (λ (p : PacesSeen). p.most) paces;
        places = λ some. stands.places ∙ ap (λ (p : PacesSeen). places_at p k) paces ∙ pace_is k (vec_len order.binds) order.pace 256 within some;
      }

  -- what the ports say of their ears and mouths: they stand behind what the words ask for
  pub behind_of : (fittings : Fittings) → fittings.fills ≡ order.fill → fittings.guards ≡ guards_of order → fittings.paces ≡ paces_of order
      → ((i : ℕ) → i < vec_len order.binds → rules_at fittings.rules i ≡ fittings.rules.rules)
      → AreKnown (λ i label. Stands fittings i label) (λ i label. StandsBehind fittings i label) run → Behind fittings.rules.rules
  behind_of fittings fills guards paces each known devices handed failed serves =
      let of = of_ports fittings known devices handed failed serves in
      (ears_of fittings fills guards each devices handed failed serves of, mouths_of fittings paces devices handed failed serves of)

  -- a run that nothing stood against lost no link, and no book of it failed
  loses : (rules : List Rule) (handed : Handed) → RanBy order run rules handed endings.LinkLost → IsSmooth order run → ⊥
  loses rules handed (devices, failed, serves, is, behind, paced) smooth =
      (smooth devices handed failed serves).no_link_lost (serves.on_board.ran.headline.carried_out.lost.0 (was_lost handed.lost (handed.book_failed || failed) is))

  fails : (rules : List Rule) (handed : Handed) → RanBy order run rules handed endings.BookFailed → IsSmooth order run → ⊥
  fails rules handed (devices, failed, serves, is, behind, paced) smooth =
      let all = smooth devices handed failed serves in
      elim (either handed.book_failed failed (had_failed handed.lost (handed.book_failed || failed) is)) [
        | inl book ↦ elim (serves.on_board.ran.headline.causes.book_failed book) [
          | inl trace ↦ all.no_trace_failed trace
          | inr one ↦ all.no_book_failed one
        ]
        | inr cut ↦ let rose = lines_cut order.modules (length devices.books) serves.on_board.posters failed serves.empty run.board serves.on_board.lines_show cut in all.no_lines_failed rose.0 rose.1 rose.2 rose.3 rose.4
      ]

  ran_tells : (rules : List Rule) (ending : ServeEnding) (before mid after : Streams) → TakesBy order.rules rules before after → AddsLine ending mid after
      → RanTo rules ending before.sink.written mid.sink.written → RanServe order run (serve_status ending) before after
  ran_tells rules ending before mid after taken line (handed, ran, printed) = record {
    rules = rules;
    taken = taken;
    handed = handed;
    ending = ending;
    ran = ran;
    status_is = refl;
    text = adds_after (lines_of order handed) (serve_last_line ending) before mid after printed line;
  }

  -- a first part of the text stands written: all lines and a part of the last line, or a part of the lines
  cut_ran : (rules : List Rule) (ending : ServeEnding) (before mid after : Streams) → TakesBy order.rules rules before after → AddsLinePart ending mid after
      → RanTo rules ending before.sink.written mid.sink.written → CutsRun order run before after
  cut_ran rules ending before mid after taken part (handed, ran, printed) =
      (rules, taken, (handed, ending, ran, adds_part_after (lines_of order handed) (serve_last_line ending) before mid after printed part))

  cut_lines : (rules : List Rule) (before mid after : Streams) → TakesBy order.rules rules before after → AddsLinePart endings.WriteFailed mid after
      → Comes rules endings.WriteFailed before.sink.written mid.sink.written → CutsRun order run before after
  cut_lines rules before mid after taken part (handed, ending, ran, printed) = (
    rules,
    taken,
    (
      handed,
      ending,
      ran,
      (λ first is.
          let p = printed first is in
          part_longer first (lines_of order handed) (serve_last_line ending) after.sink.written (p.0, same_written mid after part (first ++ take p.0 (lines_of order handed)) p.1)),
    ),
  )

  -- the last line was written
  own_tells : (crew : Count) (rules : List Rule) (ending : ServeEnding) (before mid after : Streams) → TakesBy order.rules rules before after
      → serve_status ending ≢ WriteFailed → ending ≢ endings.NoMemory → (ending ≡ endings.CrewRefused → HasRisen crew.before crew.after) → AddsLine ending mid after
      → Comes rules ending before.sink.written mid.sink.written → TellsServe order run crew (serve_status ending) before after
  own_tells crew rules endings.Finished before mid after taken other room rose line came = ran_tells rules endings.Finished before mid after taken line came
  own_tells crew rules endings.LinkLost before mid after taken other room rose line came = ran_tells rules endings.LinkLost before mid after taken line came
  own_tells crew rules endings.BookFailed before mid after taken other room rose line came = ran_tells rules endings.BookFailed before mid after taken line came
  own_tells crew rules endings.WriteFailed before mid after taken other room rose line came = absurd (other refl)
  own_tells crew rules endings.PortFailed before mid after taken other room rose line came = ((rules, taken), came.0, (λ first is. line first (came.1 ∙ is)))
  own_tells crew rules endings.CrewRefused before mid after taken other room rose line came = ((rules, taken), (came.0, rose refl), (λ first is. line first (came.1 ∙ is)))
  own_tells crew rules endings.NoMemory before mid after taken other room rose line came = absurd (room refl)

  -- the sink failed
  cut_tells : (crew : Count) (rules : List Rule) (ending : ServeEnding) (before mid after : Streams) → TakesBy order.rules rules before after
      → ending ≢ endings.NoMemory → (ending ≡ endings.CrewRefused → HasRisen crew.before crew.after) → AddsLinePart ending mid after
      → Comes rules ending before.sink.written mid.sink.written → CutsServe order run crew before after
  cut_tells crew rules endings.Finished before mid after taken room rose part came = inr (inr (inr (cut_ran rules endings.Finished before mid after taken part came)))
  cut_tells crew rules endings.LinkLost before mid after taken room rose part came = inr (inr (inr (cut_ran rules endings.LinkLost before mid after taken part came)))
  cut_tells crew rules endings.BookFailed before mid after taken room rose part came = inr (inr (inr (cut_ran rules endings.BookFailed before mid after taken part came)))
  cut_tells crew rules endings.WriteFailed before mid after taken room rose part came = inr (inr (inr (cut_lines rules before mid after taken part came)))
  cut_tells crew rules endings.PortFailed before mid after taken room rose part came = inr (inl ((rules, taken), came.0, (λ first is. part first (came.1 ∙ is))))
  cut_tells crew rules endings.CrewRefused before mid after taken room rose part came = inr (inr (inl ((rules, taken), (came.0, rose refl), (λ first is. part first (came.1 ∙ is)))))
  cut_tells crew rules endings.NoMemory before mid after taken room rose part came = absurd (room refl)

  refuses_none : NoRulesAreRefused → (crew : Count) (before after : Streams) → TellsServe order run crew InputRefused before after → TakesInput order.rules before.source.left → ⊥
  refuses_none exact crew before after (by, nothing, (place, reason, none, line)) takes =
      let (text, is, (rules, are)) = subst (λ (b : Bool). TakesInput b before.source.left) by takes in exact text rules place reason are (none text is)

  by_terms : NoRulesAreRefused → (status : Status) (before after : Streams) (others : Beside) → HasCause status before after others
      → TellsServe order run others.crew status before after → RunsCommand (RunTerms others.crew) status before after others
  by_terms exact status before after others cause tells =
      runs_by (RunTerms others.crew) status before after others cause tells (refuses_none exact others.crew before after) (λ t. t)
      (λ t smooth. loses t.rules t.handed (subst (λ (e : ServeEnding). RanBy order run t.rules t.handed e) (link_ending t.ending t.status_is) t.ran) smooth)
      (λ t smooth. fails t.rules t.handed (subst (λ (e : ServeEnding). RanBy order run t.rules t.handed e) (book_ending t.ending t.status_is) t.ran) smooth)

  -- what is counted around a run
  abbrev CausesOf : ServeEnding → Beside → ℕ → ℕ → Type 0
  CausesOf ending others before after =
      serve.HasCauses ending (serve.counts others.ports.before others.crew.before before) (serve.counts others.ports.after others.crew.after after)

  -- there was memory
  with_memory : NoRulesAreRefused → (rules : List Rule) (ending : ServeEnding) (status : Status) (before mid after : Streams) (others : Beside)
      → TakesBy order.rules rules before mid → mid.source.faults ≡ before.source.faults → ending ≢ endings.NoMemory → Comes rules ending before.sink.written mid.sink.written
      → CausesOf ending others before.sink.faults mid.sink.faults
      → WritesLast (serve_last_line ending) (serve_status ending) status mid after → RunsCommand (RunTerms others.crew) status before after others
  with_memory exact rules ending status before mid after others taken reads room came causes last =
      let own : status ≢ WriteFailed → status ≡ serve_status ending = own_status (serve_status ending) status last.answer in
      let kept : TakesBy order.rules rules before after = taken_on order.rules rules before mid after taken last.input_untouched in
      let named : HasCause status before after others = cause_from (serve_status ending) (fault_of ending) (serve_last_line ending) status before mid after others
      (told ending room) (causes_of ending before mid reads causes.sink_counted causes.sink) last
      (rose_so PortFailed endings.PortFailed ending _ _ refl (port_ending ending) causes.ports) (rose_so CrewRefused endings.CrewRefused ending _ _ refl (crew_ending ending) causes.crew) in
      let tells : TellsServe order run others.crew status before after = elim (is_write_failed status) [
        | inl four ↦ subst (λ (s : Status). TellsServe order run others.crew s before after) (sym four) (cut_tells others.crew rules ending before mid after kept room causes.crew.rose last.part came)
        | inr other ↦
            subst (λ (s : Status). TellsServe order run others.crew s before after) (sym (own other))
            (own_tells others.crew rules ending before mid after kept (λ e. other (own other ∙ e)) room causes.crew.rose (last.whole other) came)
      ] in
      by_terms exact status before after others named tells

  -- nothing was heard for want of memory
  no_memory_told : NoRulesAreRefused → (before after : Streams) (others : Beside) → (AsksNothing run ⊎ Refuses order refusals.NoMemory run)
      → others.ports.after ≡ others.ports.before → others.crew.after ≡ others.crew.before → KeepsBy order.rules before after → RunsCommand (RunTerms others.crew) NoMemory before after others
  no_memory_told exact before after others came ports crew kept =
      let same = kept_counts order.rules before after kept in
      by_terms exact NoMemory before after others (memory_cause before after others same.0 same.1 ports crew) (came, kept)

  ran_over : NoRulesAreRefused → (rules : List Rule) (ending : ServeEnding) (status : Status) (before mid after : Streams) (others : Beside)
      → TakesBy order.rules rules before mid → mid.source.faults ≡ before.source.faults → (ending ≡ endings.NoMemory → KeepsBy order.rules before mid)
      → Comes rules ending before.sink.written mid.sink.written → CausesOf ending others before.sink.faults mid.sink.faults
      → (ending ≢ endings.NoMemory → WritesLast (serve_last_line ending) (serve_status ending) status mid after)
      → (ending ≡ endings.NoMemory → (status ≡ NoMemory) × (after ≡ mid)) → RunsCommand (RunTerms others.crew) status before after others
  ran_over exact rules endings.Finished status before mid after others taken reads kept came causes last none = with_memory exact rules endings.Finished status before mid after others taken reads (λ e. cc) came causes (last (λ e. cc))
  ran_over exact rules endings.LinkLost status before mid after others taken reads kept came causes last none = with_memory exact rules endings.LinkLost status before mid after others taken reads (λ e. cc) came causes (last (λ e. cc))
  ran_over exact rules endings.BookFailed status before mid after others taken reads kept came causes last none = with_memory exact rules endings.BookFailed status before mid after others taken reads (λ e. cc) came causes (last (λ e. cc))
  ran_over exact rules endings.WriteFailed status before mid after others taken reads kept came causes last none = with_memory exact rules endings.WriteFailed status before mid after others taken reads (λ e. cc) came causes (last (λ e. cc))
  ran_over exact rules endings.PortFailed status before mid after others taken reads kept came causes last none = with_memory exact rules endings.PortFailed status before mid after others taken reads (λ e. cc) came causes (last (λ e. cc))
  ran_over exact rules endings.CrewRefused status before mid after others taken reads kept came causes last none = with_memory exact rules endings.CrewRefused status before mid after others taken reads (λ e. cc) came causes (last (λ e. cc))
  ran_over exact rules endings.NoMemory status before mid after others taken reads kept came causes last none =
      let all = none refl in
      subst (λ (s : Status). RunsCommand (RunTerms others.crew) s before after others) (sym all.0)
      (no_memory_told exact before after others came.0 (causes.ports.stands (λ e. cc)) (causes.crew.stands (λ e. cc)) (keeps_by order.rules before mid after all.1 (kept refl)))

  -- the whole run, over the rules that were taken
  pub served : NoRulesAreRefused → (fittings : Fittings) (ending : ServeEnding) (status : Status) (before mid after : Streams) (others : Beside)
      → TakesBy order.rules fittings.rules.rules before mid → fittings.fills ≡ order.fill → fittings.guards ≡ guards_of order → fittings.paces ≡ paces_of order
      → ((i : ℕ) → i < vec_len order.binds → rules_at fittings.rules i ≡ fittings.rules.rules) → AreKnown (λ i label. Stands fittings i label) (λ i label. StandsBehind fittings i label) run
      → mid.source.faults ≡ before.source.faults → (ending ≡ endings.NoMemory → KeepsBy order.rules before mid) → ComesToServe order ending run before.sink.written mid.sink.written
      → CausesOf ending others before.sink.faults mid.sink.faults → (ending ≢ endings.NoMemory → WritesLast (serve_last_line ending) (serve_status ending) status mid after)
      → (ending ≡ endings.NoMemory → (status ≡ NoMemory) × (after ≡ mid)) → RunsCommand (RunTerms others.crew) status before after others
  served exact fittings ending status before mid after others taken fills guards paces each known reads kept came causes last none =
      let rules = fittings.rules.rules in
      ran_over exact rules ending status before mid after others taken reads kept (comes_of rules ending before.sink.written mid.sink.written (behind_of fittings fills guards paces each known) came) causes last none

  -- there are no rules
  pub without_rules : NoRulesAreRefused → (T : Type 0) (failure : RulesFailure) (status : Status) (before mid after : Streams) (others : Beside) → (failure ≢ failures.NoMemory → order.rules ≡ true)
      → (failure ≡ failures.NoMemory → KeepsBy order.rules before mid) → AsksNothing run → others.ports.after ≡ others.ports.before → others.crew.after ≡ others.crew.before
      → ((text : List ℕ) → before.source.left ≡ Some text → SaysFailure failure text)
      → HasCauses (counts before) (counts mid) (fault_told {T = T} (Err failure)) → mid.sink.written ≡ before.sink.written
      → (failure ≢ failures.NoMemory → WritesLast (last_line rules_reason_words (rules_ending failure)) (status_of (rules_ending failure)) status mid after)
      → (failure ≡ failures.NoMemory → (status ≡ NoMemory) × (after ≡ mid)) → RunsCommand (RunTerms others.crew) status before after others
  without_rules exact T (failures.Refused place reason) status before mid after others asked kept nothing ports crew says causes written last none =
      let by = asked (λ e. cc) in
      let ends = last (λ e. cc) in
      let line = last_line rules_reason_words (rules_ending (failures.Refused place reason)) in
      let cause : HasCause status before after others = cause_from InputRefused None line status before mid after others refused_told causes ends
      (stays PortFailed InputRefused _ _ (λ e. cc) ports) (stays CrewRefused InputRefused _ _ (λ e. cc) crew) in
      by_terms exact status before after others cause (elim (is_write_failed status) [
        | inl four ↦ subst (λ (s : Status). TellsServe order run others.crew s before after) (sym four)
            (inl (by, nothing, crew, (line, inr (inr (place, reason, says, refl)), (λ first is. ends.part first (written ∙ is)))))
        | inr other ↦ subst (λ (s : Status). TellsServe order run others.crew s before after) (sym (own_status InputRefused status ends.answer other))
            (by, nothing, (place, reason, says, (λ first is. ends.whole other first (written ∙ is))))
      ])
  without_rules exact T (failures.Device Read) status before mid after others asked kept nothing ports crew says causes written last none =
      let by = asked (λ e. cc) in
      let ends = last (λ e. cc) in
      let cause : HasCause status before after others = cause_from ReadFailed (Some Read) read_failed_line status before mid after others read_told causes ends
      (stays PortFailed ReadFailed _ _ (λ e. cc) ports) (stays CrewRefused ReadFailed _ _ (λ e. cc) crew) in
      by_terms exact status before after others cause (elim (is_write_failed status) [
        | inl four ↦ subst (λ (s : Status). TellsServe order run others.crew s before after) (sym four)
            (inl (by, nothing, crew, (read_failed_line, inr (inl (refl, sound_from ReadFailed (Some Read) read_failed_line status before mid after causes ends refl)), (λ first is. ends.part first (written ∙ is)))))
        | inr other ↦ subst (λ (s : Status). TellsServe order run others.crew s before after) (sym (own_status ReadFailed status ends.answer other))
            (by, nothing, (λ first is. ends.whole other first (written ∙ is)))
      ])
  without_rules exact T (failures.Device Write) status before mid after others asked kept nothing ports crew says causes written last none =
      let by = asked (λ e. cc) in
      let ends = last (λ e. cc) in
      let four : status ≡ WriteFailed = elim ends.answer [ inl is ↦ is | inr is ↦ is ] in
      let cause : HasCause status before after others = cause_from WriteFailed (Some Write) [] status before mid after others write_told causes ends
      (stays PortFailed WriteFailed _ _ (λ e. cc) ports) (stays CrewRefused WriteFailed _ _ (λ e. cc) crew) in
      by_terms exact status before after others cause (subst (λ (s : Status). TellsServe order run others.crew s before after) (sym four)
      (inl (by, nothing, crew, ([], inl refl, (λ first is. ends.part first (written ∙ is))))))
  without_rules exact T failures.NoMemory status before mid after others asked kept nothing ports crew says causes written last none =
      let all = none refl in
      subst (λ (s : Status). RunsCommand (RunTerms others.crew) s before after others) (sym all.0)
      (no_memory_told exact before after others (inl nothing) ports crew (keeps_by order.rules before mid after all.1 (kept refl)))
