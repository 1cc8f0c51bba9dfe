-- A patient run over one link is a replay in which places are given freely.
use Rattle.std.proofs.Common.{◌≡◌, ℕ, ◌<◌, ◌≤◌, true, List, [], ◌∷◌, length, map, Option, Some, subst, sym, refl, ap, ◌∙◌, arith}
use Rattle.std.specs.Prelude.{slice_get, option_and_then, unwrap_or}
use Rattle.std.specs.List.{filter_map, range_with_len}
use Rattle.std.proofs.lemmas.List.{length-append, length-map}
use Rattle.std.proofs.lemmas.List.FromFn.{length-map-range_with_len}
use Rattle.m17_values.specs.declared.heard.Heard.{Heard}
use Rattle.m17_values.specs.declared.peer.Peer.{Peer}
use Rattle.m17_ports.specs.declared.tally.Tally.{Tally}
use Rattle.m17_ports.specs.Ear.{EarTold}
use Rattle.m17_ports.specs.Marks.{Device, EarMark, MouthMark, mouth_number, peers_of, script_of}
use Rattle.m17_ports.specs.Mouth.{MouthTold}
use Rattle.m17_ports.specs.Tallies.{no_tally}
use Rattle.m17_port_memory.specs.Kept.{ScriptKept, TalliesKept, new_ear}
use Rattle.m17_port_memory.specs.Peers.{named_in, tally_at}
use Rattle.m17_port_memory.specs.Script.{heard_of}
use Rattle.m17_port_memory.specs.Tells.{script_ear_told, tally_mouth_told}
use Rattle.m17_control.specs.declared.event.Event.{Event}
use Rattle.m17_floor.specs.declared.verdict.Verdict.{Verdict}
use Rattle.m17_directory.specs.declared.verdict.LinkVerdict.{LinkVerdict}
use Rattle.m17_directory.specs.Entries.{Entry, SaysEach}
use Rattle.m17_directory.specs.Routed.{link_verdict, routed}
use Rattle.m17_worker.specs.Tape.{verdict_on}
use Rattle.m17_plan.specs.declared.plan.Plan.{Plan}
use Rattle.m17_house.specs.Free.{IsFreelyReplayed}
use Rattle.m17_house.specs.Replay.{packet_verdict, said_to, tally_of, verdict_among, verdicts_of}
use Rattle.m17_plan.specs.Planned.{setup_of, module_setup}
use Rattle.m17_reflect.specs.Headline.{Headline}
use Rattle.m17_reflect.specs.Judged.{IsModuleTape}
use Rattle.m17_reflect.specs.Links.{Link, letter_of, link_setup, setup_at}
use Rattle.m17_reflect.specs.Run.{Run}
use Rattle.m17_reflect.specs.Trails.{events_of}
use Rattle.m17_replay.specs.Ending.{HasAnEnd}
use Rattle.m17_replay.specs.Known.{Laws}
use Rattle.m17_replay.specs.Tapes.{IsFilledInOrder, cell_at, packet_by, packet_on}
use Rattle.m17_replay.proofs.Alone.{IsAlone, HasRun, has_run}
use Rattle.m17_replay.proofs.Freely.{is_free, is_link, link_at}
use Rattle.m17_replay.proofs.Lists.{at_below, below_at, map_range, mapped_one, one_of}
use Rattle.m17_replay.proofs.Packets.{AreCells, packet_is, verdict_same}
use Rattle.m17_replay.proofs.TapeSteps.{in_order, range_there}
use Rattle.m17_replay.proofs.Taped.{verdicts_are}
use Rattle.m17_replay.proofs.Told.{of_link, tallies_are, trail_is}

length_says : (all : List Heard) (entries : List Entry) → SaysEach all entries → length all ≡ length entries
length_says [] [] says = refl
length_says [] (e ∷ entries) says = absurd says
length_says (h ∷ all) [] says = absurd says
length_says (h ∷ all) (e ∷ entries) says = omega (arith, length_says all entries says.1)

-- What came back of a run, and what was made of it: its one link tape, its mouth before and after, and the verdicts that
-- were read off its tapes.
pub record IsTakenApart {E M B : Type 0} (run : Run E M B) (verdicts : List LinkVerdict) (packets : List (Option Verdict)) (mouth : TalliesKept) : Type 0 where
  pub tape : List (Option LinkVerdict)
  pub tapes : run.handed.link_tapes ≡ tape ∷ []
  pub verdicts_are : verdicts ≡ filter_map (λ (cell : Option LinkVerdict). cell) tape
  pub packets_are : packets ≡ map (packet_on run.plan.modules run.handed.tapes verdicts) (range_with_len 0 (length verdicts))
  pub before : MouthTold M
  pub after : MouthTold M
  pub is_before : run.before.mouths ≡ before ∷ []
  pub is_after : run.after.mouths ≡ after ∷ []
  pub sound : before.faults ≡ 0
  pub still : after.faults ≡ 0
  pub nothing : (y : Peer) (t : Tally) → before.tallies y ≡ Some t → t ≡ no_tally
  pub told : (y : Peer) → after.tallies y ≡ tally_at mouth.entries y

-- no more entries than were to be heard
few_entries : {E M B : Type 0} (run : Run E M B) (script : List Heard) (alone : IsAlone run script) (h : HasRun run script) → length h.link.entries ≤ run.plan.entries
few_entries run script alone h =
    omega (arith, alone.cells, ap length h.whole, length-append h.link.heard h.rest, length_says h.link.heard h.link.entries (is_link run script alone h).says)

module _ {E M B : Type 0} (laws : Laws) (run : Run E M B) (script : List Heard) (alone : IsAlone run script) (h : HasRun run script) where
  abbrev plan : Plan
  plan = run.plan

  abbrev entries : List Entry
  entries = h.link.entries

  few : length entries ≤ run.plan.entries
  few = few_entries run script alone h

  cell_is : (m n : ℕ) (events : List Event) (tape : List (Option Verdict)) → n < length entries → IsModuleTape (setup_at plan m) events plan.entries tape → events ≡ routed (setup_of plan) entries (letter_of plan m)
      → cell_at tape n ≡ verdict_among (module_setup plan (letter_of plan m)) n (routed (setup_of plan) entries (letter_of plan m))
  cell_is m n events tape lt taped is =
      ap (option_and_then (λ (cell : Option Verdict). cell)) (taped.verdicts n (omega (arith, few, taped.length_is)))
      ∙ ap (λ es. verdict_on (setup_at plan m) es n) is
      ∙ verdict_same (setup_at plan m) n (routed (setup_of plan) entries (letter_of plan m)) (of_link laws run script alone h (letter_of plan m))

  are_cells : (n : ℕ) → n < length entries → AreCells laws.served plan entries run.handed.tapes n
  are_cells n lt = record {
    count = h.carried.judged.tape_count;
    each = λ m tape at.
        let inside = below_at run.handed.tapes m tape at in
        let (trail, at_trail) = at_below run.handed.trails m (omega (arith, h.carried.judged.tape_count, h.carried.trails.count)) in
        cell_is m n (events_of trail) tape lt (h.carried.judged.tapes m trail tape at_trail at) (trail_is laws run script alone h m trail at_trail);
  }

  pub replayed : (verdicts : List LinkVerdict) (packets : List (Option Verdict)) (mouth : TalliesKept) → IsTakenApart run verdicts packets mouth → IsFreelyReplayed plan script verdicts packets mouth
  replayed verdicts packets mouth t =
      let taped = h.carried.judged.link_tapes 0 h.link t.tape (link_at run script alone h) (ap (λ ts. slice_get ts 0) t.tapes) in
      let each : verdicts ≡ verdicts_of plan entries = t.verdicts_are ∙ verdicts_are (setup_of plan) entries plan.entries t.tape taped few in
      let many : length verdicts ≡ length entries = ap length each ∙ length-map-range_with_len (link_verdict (setup_of plan) entries) 0 (length entries) in
      record {
        entries = entries;
        replay = is_free run script alone h laws.fit;
        each = each;
        each_packet = t.packets_are ∙ ap (λ k. map (packet_on plan.modules run.handed.tapes verdicts) (range_with_len 0 k)) many
            ∙ map_range (packet_on plan.modules run.handed.tapes verdicts) (packet_verdict plan entries) 0 (length entries)
            (λ n from below. let lt : n < length entries = omega arith in
            ap (option_and_then (packet_by plan.modules run.handed.tapes n))
            (ap (λ (l : List LinkVerdict). slice_get l n) each ∙ range_there (link_verdict (setup_of plan) entries) n (length entries) lt)
            ∙ packet_is laws.served plan entries run.handed.tapes n (are_cells n lt));
        tallies = λ x tally is. tallies_are laws run script alone h t.before t.after t.is_before t.is_after t.sound t.still t.nothing x tally (t.told x ∙ is);
      }

-- Patience, and how many cells a tape has, are nothing to a replay.
same_packet : (plan : Plan) (n : ℕ) (entries : List Entry) (i : ℕ) → packet_verdict (record plan { patient = true; entries = n }) entries i ≡ packet_verdict plan entries i
unfolding packet_verdict
same_packet p n es i = refl

same_said : (plan : Plan) (n : ℕ) (entries : List Entry) (x : Peer) → said_to (record plan { patient = true; entries = n }) entries x ≡ said_to plan entries x
unfolding said_to
same_said p n es x = refl

pub same_replay : (plan : Plan) (n : ℕ) (heard : List Heard) (verdicts : List LinkVerdict) (packets : List (Option Verdict)) (mouth : TalliesKept) → IsFreelyReplayed (record plan { patient = true; entries = n }) heard verdicts packets mouth → IsFreelyReplayed plan heard verdicts packets mouth
same_replay plan n heard verdicts packets mouth r = record {
  entries = r.entries;
  replay = record {
    front = r.replay.front;
    rest = r.replay.rest;
    heard_is = r.replay.heard_is;
    says = r.replay.says;
    ends = r.replay.ends;
    given = r.replay.given;
  };
  each = r.each;
  each_packet = r.each_packet ∙ map_range (packet_verdict (record plan { patient = true; entries = n }) r.entries) (packet_verdict plan r.entries) 0 (length r.entries) (λ i from below. same_packet plan n r.entries i);
  tallies = λ x tally is. r.tallies x tally is ∙ ap tally_of (same_said plan n r.entries x);
}

-- A run of this plan, patient, over one ear with a script and one mouth with tallies.
pub record IsOver {B : Type 0} (plan : Plan) (script : List Heard) (run : Run (Unit {0}) (Unit {0}) B) : Type 0 where
  pub plan_is : run.plan ≡ record plan { patient = true; entries = length script }
  pub ends : HasAnEnd script
  pub first : ScriptKept
  pub new : first ≡ new_ear script 0
  pub before : run.before.ears ≡ script_ear_told first ∷ []
  pub last : ScriptKept
  pub same : last.script ≡ script
  pub after : run.after.ears ≡ script_ear_told last ∷ []

alone_of : {B : Type 0} (plan : Plan) (script : List Heard) (run : Run (Unit {0}) (Unit {0}) B) → IsOver plan script run → IsAlone run script
alone_of plan script run o = record {
  patient = ap (λ (p : Plan). p.patient) o.plan_is;
  ends = o.ends;
  cells = ap (λ (p : Plan). p.entries) o.plan_is;
  was = script_ear_told o.first;
  before = o.before;
  nothing = ap (λ (e : ScriptKept). (script_ear_told e).heard) o.new;
  is = script_ear_told o.last;
  after = o.after;
  calls = o.last.calls;
  told = ap (λ (l : List Heard). Some (heard_of l o.last.calls)) o.same;
}

-- Its one link tape, whose first cells have the verdicts.
pub tape_there : {B : Type 0} (plan : Plan) (script : List Heard) (run : Run (Unit {0}) (Unit {0}) B) → Headline run → IsOver plan script run → (tape : List (Option LinkVerdict)) × (run.handed.link_tapes ≡ tape ∷ []) × IsFilledInOrder tape
tape_there plan script run headline o =
    let alone = alone_of plan script run o in
    let h = has_run run script headline alone in
    let (tape, only) = one_of run.handed.link_tapes (h.carried.judged.link_tape_count ∙ ap length h.links_are) in
    let taped = h.carried.judged.link_tapes 0 h.link tape (link_at run script alone h) (ap (λ ts. slice_get ts 0) only) in
    let entries = h.link.entries in
    let few = few_entries run script alone h in (
      tape,
      only,
      in_order (length entries) tape (λ i lt. (link_verdict (link_setup run.plan 0) entries i, taped.filled i (omega (arith, few)) lt))
          (λ i le lt. taped.empty i (omega (arith, taped.length_is)) le),
    )

-- The replay of the plan that such a run is.
pub freely_replayed : {B : Type 0} → Laws → (plan : Plan) (script : List Heard) (run : Run (Unit {0}) (Unit {0}) B) → Headline run → IsOver plan script run → (verdicts : List LinkVerdict) (packets : List (Option Verdict)) (mouth : TalliesKept) → IsTakenApart run verdicts packets mouth → IsFreelyReplayed plan script verdicts packets mouth
freely_replayed laws plan script run headline o verdicts packets mouth t =
    let alone = alone_of plan script run o in
    same_replay plan (length script) script verdicts packets mouth
    (subst (λ (p : Plan). IsFreelyReplayed p script verdicts packets mouth) o.plan_is
    (replayed laws run script alone (has_run run script headline alone) verdicts packets mouth t))

module _ {B : Type 0} where
  -- The ear and the mouth that came back are those that were handed in.
  pub ears_back : (run : Run (Unit {0}) (Unit {0}) B) → Headline run → (back : List ScriptKept) (ear : ScriptKept) → run.before.ears ≡ script_ear_told ear ∷ [] → run.after.ears ≡ map script_ear_told back → (last : ScriptKept) × (back ≡ last ∷ []) × (last.script ≡ ear.script)
  ears_back run h back ear was is =
      let (heard, only) = one_of h.heard (h.ears.count ∙ ap length was) in
      let (told, one) = one_of run.after.ears (h.ears.same_count ∙ ap length was) in
      let (last, alone, same) = mapped_one script_ear_told back told (sym is ∙ one) in
      let device = (h.ears.each 0 heard (script_ear_told ear) told (ap (λ l. slice_get l 0) only) (ap (λ l. slice_get l 0) was) (ap (λ l. slice_get l 0) one)).heard.same_device in
      (last, alone, ap (λ (d : Device EarMark (Unit {0})). unwrap_or (script_of d.mark) []) (ap (λ (t : EarTold (Unit {0})). t.device) same ∙ device))

  pub mouths_back : (run : Run (Unit {0}) (Unit {0}) B) → Headline run → (back : List TalliesKept) (mouth : TalliesKept) → length run.before.ears ≡ 1 → run.before.mouths ≡ tally_mouth_told mouth ∷ [] → run.after.mouths ≡ map tally_mouth_told back → (last : TalliesKept) × (back ≡ last ∷ []) × (named_in last.entries ≡ named_in mouth.entries) × (last.number ≡ mouth.number)
  mouths_back run h back mouth ears was is =
      let out = h.carried_out in
      let many : length out.links ≡ 1 = sym (length-map out.links (λ (link : Link). link.heard)) ∙ ap length out.of_heard ∙ h.ears.count ∙ ears in
      let (link, only) = one_of out.links many in
      let (told, one) = one_of run.after.mouths (out.mouths.count ∙ many) in
      let (last, alone, same) = mapped_one tally_mouth_told back told (sym is ∙ one) in
      let said = (out.mouths.each 0 link (tally_mouth_told mouth) told (ap (λ l. slice_get l 0) only) (ap (λ l. slice_get l 0) was) (ap (λ l. slice_get l 0) one)).said in
      let device : (tally_mouth_told last).device ≡ (tally_mouth_told mouth).device = ap (λ (t : MouthTold (Unit {0})). t.device) same ∙ said.same_device in (
        last,
        alone,
        ap (λ (d : Device MouthMark (Unit {0})). unwrap_or (peers_of d.mark) []) device,
        ap (λ (d : Device MouthMark (Unit {0})). unwrap_or (mouth_number d.mark) 0) device,
      )
