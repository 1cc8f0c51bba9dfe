-- One step of a module: what it gives, and that it goes on standing for the events.
use Rattle.std.proofs.Common.{◌≡◌, ℕ, suc, ◌+◌, ◌/◌, cond, List, [], ◌∷◌, ◌++◌, length, map, max, nat_lt, Option, None, ap, sym, ◌∙◌, arith}
use Rattle.std.proofs.lemmas.List.{take-append-le}
use Rattle.m17_control.specs.declared.event.Event.{Event}
use Rattle.m17_control.specs.declared.item.Item.{Item}
use Rattle.m17_control.specs.declared.item.Said.TheVariants as said
use Rattle.m17_floor.specs.declared.act.ActKind.TheVariants as act
use Rattle.m17_floor.specs.declared.verdict.Verdict.{Verdict}
use Rattle.m17_floor.specs.Acts.{with_act, is_packet, greatest_moment, moment_before, moment_at}
use Rattle.m17_floor.specs.Floor.{admits, verdict_at, admitted_count}
use Rattle.m17_floor.specs.Laws.{MomentOfOneMore, MomentAfterOneMore, LaterActsChangeNoMembership, CountOfOneMore, OtherActsChangeNothing, OnlyPacketsHaveVerdicts}
use Rattle.m17_module.specs.Recording.{Recording}
use Rattle.m17_module.specs.Setup.{floor_setup}
use Rattle.m17_module.specs.declared.seat.Seat.{Seat}
use Rattle.m17_module.specs.Events.{kind_of, act_of, acts_of}
use Rattle.m17_module.specs.Seats.{seats_at, members_of}
use Rattle.m17_module.specs.Items.{Setup, Setting, ping_every_ms, item_to, says, pings_at, echoes_at, said_by, said_at, items_at}
use Rattle.m17_module.specs.StandsFor.{People, PeopleStandFor, recorded, StandsFor, stepped, IsStep}
use Rattle.m17_module.proofs.Acts.{acts_more, length_acts}
use Rattle.m17_module.proofs.Below.{length_more, slice_get_end}
use Rattle.m17_module.proofs.SeatsMore.{seats_at_before}
use Rattle.m17_module.proofs.PeopleMore.{other_people, kind_end}

-- Anything that is no Join, Leave or packet.
pub other_happens : OtherActsChangeNothing → OnlyPacketsHaveVerdicts → (setup : Setup) (people : People) (events : List Event) (event : Event) → kind_of event.body ≡ act.Other → PeopleStandFor setup people events → PeopleStandFor setup people (events ++ event ∷ []) × (None ≡ verdict_at (floor_setup setup) (acts_of (events ++ event ∷ [])) (length events))
other_happens law none setup people events event is stands = (
  other_people law setup people events event is stands,
  sym (none (floor_setup setup) (acts_of (events ++ event ∷ [])) (length events) (ap is_packet (kind_end events event ∙ is))),
)

-- the moment before the new event, at it, and after it
before_end : (events : List Event) (event : Event) → moment_before (acts_of (events ++ event ∷ [])) (length events) ≡ moment_before (acts_of events) (length events)
before_end events event =
    ap (λ acts. moment_before acts (length events)) (acts_more events event)
    ∙ ap greatest_moment (take-append-le (length events) (acts_of events) (act_of event ∷ []) (omega (arith, length_acts events)))

pub at_end : MomentOfOneMore → (events : List Event) (event : Event) → moment_at (acts_of (events ++ event ∷ [])) (length events) ≡ max (moment_before (acts_of events) (length events)) event.at
at_end law events event =
    ap (λ acts. moment_at acts (length events)) (acts_more events event)
    ∙ ap (moment_at (with_act (acts_of events) (act_of event))) (sym (length_acts events))
    ∙ law (acts_of events) (act_of event)
    ∙ ap (λ n. max (moment_before (acts_of events) n) event.at) (length_acts events)

after_end : MomentAfterOneMore → (events : List Event) (event : Event) → moment_before (acts_of (events ++ event ∷ [])) (length (events ++ event ∷ [])) ≡ max (moment_before (acts_of events) (length events)) event.at
after_end law events event =
    let len : length (events ++ event ∷ []) ≡ length (with_act (acts_of events) (act_of event)) = sym (length_acts (events ++ event ∷ [])) ∙ ap length (acts_more events event) in
    ap (λ acts. moment_before acts (length (events ++ event ∷ []))) (acts_more events event)
    ∙ ap (moment_before (with_act (acts_of events) (act_of event))) len
    ∙ law (acts_of events) (act_of event)
    ∙ ap (λ n. max (moment_before (acts_of events) n) event.at) (length_acts events)

pings_end : MomentOfOneMore → LaterActsChangeNoMembership → (places : ℕ) (events : List Event) (event : Event) (seats : List (Option Seat)) (before moment : ℕ) → seats ≡ seats_at places events (length events) → before ≡ moment_before (acts_of events) (length events) → moment ≡ max before event.at →
    pings_at places (events ++ event ∷ []) (length events) ≡ cond (nat_lt (before / ping_every_ms) (moment / ping_every_ms)) (map (item_to said.Ping) (members_of seats)) []
unfolding pings_at
pings_end law later places events event seats before moment seats_are before_is moment_is =
    let longer : List Event = events ++ event ∷ [] in
    let n : ℕ = length events in
    let told : ℕ → ℕ → List (Option Seat) → List Item = λ b m xs. cond (nat_lt (b / ping_every_ms) (m / ping_every_ms)) (map (item_to said.Ping) (members_of xs)) [] in
    ap (λ b. told b (moment_at (acts_of longer) n) (seats_at places longer n)) (before_end events event ∙ sym before_is)
    ∙ ap (λ m. told before m (seats_at places longer n)) (at_end law events event ∙ ap (λ m. max m event.at) (sym before_is) ∙ sym moment_is)
    ∙ ap (told before moment) (sym (seats_at_before later places events (event ∷ []) n (omega arith)) ∙ sym seats_are)

said_end : LaterActsChangeNoMembership → (setup : Setup) (events : List Event) (event : Event) (seats : List (Option Seat)) (position : ℕ) (answer : Option Verdict) → seats ≡ seats_at setup.places events (length events) → position ≡ length events → answer ≡ verdict_at (floor_setup setup) (acts_of (events ++ event ∷ [])) (length events) →
    said_at setup (events ++ event ∷ []) (length events) ≡ says (record { seats = seats; position = position; link = event.tag.link; admitted = admits answer }) event.body
unfolding said_at
said_end later setup events event seats position answer seats_are position_is answer_is =
    let longer : List Event = events ++ event ∷ [] in
    let n : ℕ = length events in
    let make : List (Option Seat) → ℕ → Option Verdict → Setting = λ xs p v. record { seats = xs; position = p; link = event.tag.link; admitted = admits v } in
    ap (said_by setup longer n) (slice_get_end events event)
    ∙ ap (λ xs. says (make xs n (verdict_at (floor_setup setup) (acts_of longer) n)) event.body) (sym (seats_at_before later setup.places events (event ∷ []) n (omega arith)) ∙ sym seats_are)
    ∙ ap (λ p. says (make seats p (verdict_at (floor_setup setup) (acts_of longer) n)) event.body) (sym position_is)
    ∙ ap (λ v. says (make seats position v) event.body) (sym answer_is)

-- The whole step.
pub step_is : MomentOfOneMore → MomentAfterOneMore → LaterActsChangeNoMembership → CountOfOneMore → (setup : Setup) (old new : People) (before moment count count' admitted admitted' : ℕ) (recording recording' : Option Recording) (events : List Event) (event : Event) (answer : Option Verdict) (pings played given : List Item) →
    StandsFor (record { setup = setup; moment = before; people = old; count = count; admitted = admitted; recording = recording }) events →
    moment ≡ max before event.at →
    pings ≡ cond (nat_lt (before / ping_every_ms) (moment / ping_every_ms)) (map (item_to said.Ping) (members_of old.seats)) [] →
    given ≡ (pings ++ played) ++ says (record { seats = old.seats; position = count; link = event.tag.link; admitted = admits answer }) event.body →
    PeopleStandFor setup new (events ++ event ∷ []) × (answer ≡ verdict_at (floor_setup setup) (acts_of (events ++ event ∷ [])) (length events)) →
    count' ≡ count + 1 → admitted' ≡ admitted + cond (admits answer) 1 0 →
    played ≡ echoes_at setup (events ++ event ∷ []) (length events) → recording' ≡ recorded setup (events ++ event ∷ []) →
    IsStep setup events event (stepped answer (record { setup = setup; moment = moment; people = new; count = count'; admitted = admitted'; recording = recording' }) given)
unfolding items_at
step_is here after later counts setup old new before moment count count' admitted admitted' recording recording' events event answer pings played given stands moment_is pings_are given_are happened count_is admitted_is played_is recording_is =
    let longer : List Event = events ++ event ∷ [] in
    let n : ℕ = length events in
    let verdict : verdict_at (floor_setup setup) (with_act (acts_of events) (act_of event)) (length (acts_of events)) ≡ answer =
    ap (verdict_at (floor_setup setup) (with_act (acts_of events) (act_of event))) (length_acts events)
    ∙ ap (λ acts. verdict_at (floor_setup setup) acts n) (sym (acts_more events event)) ∙ sym happened.1 in
    record {
      stands = record {
        moment = moment_is ∙ ap (λ m. max m event.at) stands.moment ∙ sym (after_end after events event);
        people = happened.0;
        count = count_is ∙ ap (λ m. m + 1) stands.count ∙ (let e : n + 1 ≡ suc n = omega arith in e) ∙ sym (length_more events event);
        admitted = admitted_is ∙ ap (λ m. m + cond (admits answer) 1 0) stands.admitted
            ∙ ap (λ v. admitted_count (floor_setup setup) (acts_of events) + cond (admits v) 1 0) (sym verdict)
            ∙ sym (counts (floor_setup setup) (acts_of events) (act_of event))
            ∙ ap (admitted_count (floor_setup setup)) (sym (acts_more events event));
        recording = recording_is;
      };
      items = given_are
          ∙ ap (λ xs. (xs ++ played) ++ says (record { seats = old.seats; position = count; link = event.tag.link; admitted = admits answer }) event.body)
          (pings_are ∙ sym (pings_end here later setup.places events event old.seats before moment stands.people.seats stands.moment moment_is))
          ∙ ap (λ xs. (pings_at setup.places longer n ++ xs) ++ says (record { seats = old.seats; position = count; link = event.tag.link; admitted = admits answer }) event.body) played_is
          ∙ ap (λ xs. (pings_at setup.places longer n ++ echoes_at setup longer n) ++ xs) (sym (said_end later setup events event old.seats count answer stands.people.seats stands.count happened.1));
      verdict = happened.1;
    }
