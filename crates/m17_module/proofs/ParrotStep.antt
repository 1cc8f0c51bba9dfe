-- A parrot's step: the echo at a new event, and what is recorded after it.
use Rattle.std.proofs.Common.{◌≡◌, ℕ, suc, ◌+◌, ◌&&◌, ◌||◌, Bool, true, false, cond, List, [], ◌∷◌, ◌++◌, length, get_or, max, nat_lt, eqb, is_some, is_none, option_map, Option, None, Some, refl, ap, sym, ◌∙◌, arith}
use Rattle.std.specs.Option.{option_and_then, option_map_or}
use Rattle.std.proofs.lemmas.Bool.{cond-true, cond-false, lt-ltb, true≢false, eq-eqb}
use Rattle.std.proofs.lemmas.Bool.Decides.{nat_tests}
use Rattle.std.proofs.lemmas.List.{take_all}
use Rattle.m17_values.specs.declared.member.Member.{Member}
use Rattle.m17_stream.specs.declared.packet.StreamPacket.{StreamPacket}
use Rattle.m17_control.specs.declared.event.Body.{Body}
use Rattle.m17_control.specs.declared.event.Body.TheVariants.{Join, Leave, Packet, Reply, Tick, Stop}
use Rattle.m17_control.specs.declared.event.Event.{Event}
use Rattle.m17_floor.specs.declared.act.Act.{Act}
use Rattle.m17_floor.specs.declared.act.ActKind.TheVariants as act
use Rattle.m17_floor.specs.declared.verdict.Verdict.{Verdict}
use Rattle.m17_floor.specs.declared.verdict.Verdict.TheVariants.{Opened, Continued, Busy, Repeat, Late, AfterEnd, TimedOut, NotMember, ListenOnly}
use Rattle.m17_floor.specs.Acts.{is_packet, is_same, settles, kind_at, moment_before, moment_at, joined_at}
use Rattle.m17_floor.specs.Rule.{Frame, FloorState, only_if, has_floor}
use Rattle.m17_floor.specs.Floor.{floor_frame, opens, admits, verdicts_before, past_at, verdict_at}
use Rattle.m17_floor.specs.StandsFor.{past_of, FloorStandsFor}
use Rattle.m17_floor.specs.Laws.{MomentOfOneMore, StrangersGetNotMember}
use Rattle.m17_module.specs.Recording.{Recording, due_of, with_given, begun}
use Rattle.m17_module.specs.Setup.{Setup, floor_setup}
use Rattle.m17_module.specs.declared.seat.Seat.{Seat}
use Rattle.m17_module.specs.Events.{kind_of, acts_of}
use Rattle.m17_module.specs.Seats.{seats_at, seat_in, if_of, seat_of}
use Rattle.m17_module.specs.Echoes.{packet_in, admitted_packet, has_end_bit, holder_at, is_in_since, recording_with, echoed_before, echo_at, recording_at}
use Rattle.m17_module.specs.StandsFor.{People, PeopleStandFor}
use Rattle.m17_module.specs.Following.{seat_member, leaver, unless_any, holder_then, FloorFollows, closed_if, turned, extended, recording_heard, recording_then}
use Rattle.m17_module.proofs.Acts.{acts_append, length_acts}
use Rattle.m17_module.proofs.Below.{length_more}
use Rattle.m17_module.proofs.SeatsMore.{joined_has_seat, seats_at_is, joined_below, is_same_self, same_from_is_same}
use Rattle.m17_module.proofs.PeopleMore.{kind_end}
use Rattle.m17_module.proofs.FramesMine.{placed, seat_of_some, if_of_is}
use Rattle.m17_module.proofs.Mine.{ArePlaced, other_place}
use Rattle.m17_module.proofs.StepMore.{at_end}
use Rattle.m17_module.proofs.EchoesBefore.{Later, past_from, past_at_same, recording_same, echoed_suc, length_echoed}
use Rattle.m17_module.proofs.EchoesMore.{moved, unless_settled, recording_goes_on, recording_opens, IsFound, found}
use Rattle.m17_module.proofs.RecordingStep.{due_turned, moved_silent, moved_on, opened_is}

-- the acts with the new event
abbrev longer : List Event → Event → List Act
longer events event = acts_of (events ++ event ∷ [])

-- What is known of the new position.
pub record Scene (setup : Setup) (events : List Event) (event : Event) (at : ℕ) (answer : Option Verdict) (holder : Option Frame) (recording : Option Recording) : Type 0 where
  pub moment : moment_at (longer events event) (length events) ≡ at
  pub verdict : verdict_at (floor_setup setup) (longer events event) (length events) ≡ answer
  pub kind : kind_at (longer events event) (length events) ≡ kind_of event.body
  pub holder_is : holder_at setup (longer events event) (length events) ≡ holder
  pub before : recording_at setup (longer events event) (length events) ≡ recording
  pub packets : is_some answer ≡ is_packet (kind_of event.body)

-- who has the floor, by what is kept of it
holder_end : Later → (setup : Setup) (events : List Event) (event : Event) (at : ℕ) (floor : FloorState) → moment_at (longer events event) (length events) ≡ at → FloorStandsFor (floor_setup setup) (acts_of events) floor → holder_at setup (longer events event) (length events) ≡ holder_then at floor
unfolding holder_at
holder_end later setup events event at floor moment stands =
    let n : ℕ = length events in
    let acts : List Act = acts_of events in
    let same : past_at (floor_setup setup) (longer events event) n ≡ past_of (floor_setup setup) acts =
    ap (λ xs. past_at (floor_setup setup) xs n) (acts_append events (event ∷ []))
    ∙ past_at_same later.verdicts (floor_setup setup) acts (acts_of (event ∷ [])) n (omega (arith, length_acts events))
    ∙ ap (λ m. past_at (floor_setup setup) acts m) (sym (length_acts events))
    ∙ ap (λ front. past_from (floor_setup setup) (verdicts_before (floor_setup setup) acts (length acts)) front) (take_all (length acts) acts (omega arith)) in
    ap (λ m. only_if (has_floor setup.limit m) (floor_frame (past_at (floor_setup setup) (longer events event) n))) moment
    ∙ ap (λ past. only_if (has_floor setup.limit at) (floor_frame past)) same
    ∙ ap (holder_then at) (sym stands)

before_end_is : Later → (setup : Setup) (events : List Event) (event : Event) → recording_at setup (longer events event) (length events) ≡ recording_at setup (acts_of events) (length events)
before_end_is later setup events event =
    ap (λ xs. recording_at setup xs (length events)) (acts_append events (event ∷ []))
    ∙ recording_same later setup (acts_of events) (acts_of (event ∷ [])) (length events) (omega (arith, length_acts events))

-- the echo
echo_end : (setup : Setup) (events : List Event) (event : Event) (at : ℕ) (answer : Option Verdict) (holder : Option Frame) (recording : Option Recording) → Scene setup events event at answer holder recording → echo_at setup (longer events event) (length events) ≡ option_and_then (due_of at) (option_map (closed_if (is_none holder) at) recording)
unfolding echo_at recording_at
echo_end setup events event at answer holder recording s =
    let n : ℕ = length events in
    let acts : List Act = longer events event in
    ap (λ m. option_and_then (due_of m) (recording_with setup acts n (echoed_before setup acts n))) s.moment
    ∙ ap (option_and_then (due_of at)) s.before
    ∙ sym (due_turned at (is_none holder) recording)

-- the recording with what the event adds
abbrev onward : Body → ℕ → Bool → List StreamPacket → Bool → Option Recording → Option Recording
onward body at shut more has_echo recording = option_and_then (unless_settled (kind_of body)) (option_map (moved at shut more has_echo) recording)

-- A position that opens nothing.
goes_on_end : (setup : Setup) (events : List Event) (event : Event) (at : ℕ) (answer : Option Verdict) (holder : Option Frame) (recording : Option Recording) → Scene setup events event at answer holder recording → opens answer ≡ false →
    recording_at setup (longer events event) (suc (length events))
    ≡ onward event.body at ((admits answer && has_end_bit (kind_of event.body)) || is_none holder) (cond (admits answer) (packet_in (kind_of event.body)) []) (is_some (option_and_then (due_of at) (option_map (closed_if (is_none holder) at) recording))) recording
unfolding recording_at admitted_packet
goes_on_end setup events event at answer holder recording s other =
    let n : ℕ = length events in
    let acts : List Act = longer events event in
    let echoed : List Bool = echoed_before setup acts n in
    let b : Bool = is_some (echo_at setup acts n) in
    let go : _ → ℕ → Bool → List StreamPacket → Bool → Option Recording → Option Recording = λ kind m shut more has_echo r. option_and_then (unless_settled kind) (option_map (moved m shut more has_echo) r) in
    let bit : Bool = is_some (option_and_then (due_of at) (option_map (closed_if (is_none holder) at) recording)) in
    ap (recording_with setup acts (suc n)) (echoed_suc setup acts n)
    ∙ recording_goes_on setup (events ++ event ∷ []) n echoed b (length_echoed setup acts n) (ap opens s.verdict ∙ other)
    ∙ ap (λ kind. go kind (moment_at acts n) ((admits (verdict_at (floor_setup setup) acts n) && has_end_bit kind) || is_none (holder_at setup acts n)) (cond (admits (verdict_at (floor_setup setup) acts n)) (packet_in kind) []) b (recording_with setup acts n echoed)) s.kind
    ∙ ap (λ v. go (kind_of event.body) (moment_at acts n) ((admits v && has_end_bit (kind_of event.body)) || is_none (holder_at setup acts n)) (cond (admits v) (packet_in (kind_of event.body)) []) b (recording_with setup acts n echoed)) s.verdict
    ∙ ap (λ h. go (kind_of event.body) (moment_at acts n) ((admits answer && has_end_bit (kind_of event.body)) || is_none h) (cond (admits answer) (packet_in (kind_of event.body)) []) b (recording_with setup acts n echoed)) s.holder_is
    ∙ ap (λ m. go (kind_of event.body) m ((admits answer && has_end_bit (kind_of event.body)) || is_none holder) (cond (admits answer) (packet_in (kind_of event.body)) []) b (recording_with setup acts n echoed)) s.moment
    ∙ ap (λ x. go (kind_of event.body) at ((admits answer && has_end_bit (kind_of event.body)) || is_none holder) (cond (admits answer) (packet_in (kind_of event.body)) []) x (recording_with setup acts n echoed)) (ap is_some (echo_end setup events event at answer holder recording s))
    ∙ ap (go (kind_of event.body) at ((admits answer && has_end_bit (kind_of event.body)) || is_none holder) (cond (admits answer) (packet_in (kind_of event.body)) []) bit) s.before

-- whose the recording is stays
member_if : (b : Bool) (x y : Recording) → x.member ≡ y.member → (cond b x y).member ≡ y.member
member_if true x y e = e
member_if false x y e = refl

member_given : (at : ℕ) (s : Bool) (r : Recording) → (with_given at (closed_if s at r)).member ≡ r.member
member_given at s r =
    member_if (is_some (due_of at (closed_if s at r))) _ (closed_if s at r) refl ∙ member_if s _ r refl

same_place : (a b : ℕ) → eqb a b ≡ true → a ≡ b
same_place a b e = grind (arith, nat_tests)

-- who is recorded leaves by the event, or stays
none_left : (leaves : Option Member) → unless_any leaves None ≡ None
none_left None = refl
none_left (Some m) = refl

gone_self : (k : Member) (r : Recording) → r.member ≡ k → unless_any (Some k) (Some r) ≡ None
gone_self k r mine = cond-true (is_same k r.member) None (Some r) (ap (is_same k) mine ∙ is_same_self k)

stays_other : (m : Member) (r : Recording) → is_same m r.member ≡ false → unless_any (Some m) (Some r) ≡ Some r
stays_other m r other = cond-false (is_same m r.member) None (Some r) other

join_other : (q : ℕ) (seats : List (Option Seat)) (o : Option Seat) (r : Recording) → ArePlaced 0 seats → get_or seats q None ≡ o → eqb q r.member.place ≡ false → unless_any (seat_member o) (Some r) ≡ Some r
join_other q seats None r at_place e ne = refl
join_other q seats (Some seat) r at_place e ne =
    let at : seat.member.place ≡ 0 + q = at_place q seat e in
    stays_other seat.member r (other_place seat.member r.member (λ same. true≢false (sym (eq-eqb q r.member.place (omega arith)) ∙ ne)))

join_cases : (places : ℕ) (events : List Event) (k m : Member) (join : ℕ) (r : Recording) (b : Bool) → joined_at places (acts_of events) k (length events) ≡ Some join → r.member ≡ k → eqb m.place k.place ≡ b → cond b None (Some r) ≡ unless_any (seat_member (seat_in (seats_at places events (length events)) m.place)) (Some r)
join_cases places events k m join r true e mine same =
    let n : ℕ = length events in
    let has = joined_has_seat places events n k join e in
    let q : m.place ≡ k.place = same_place m.place k.place same in
    let here : get_or (seats_at places events n) m.place None ≡ Some has.seat = ap (λ i. get_or (seats_at places events n) i None) q ∙ seats_at_is places events n k.place has.below ∙ has.is in
    sym (ap (λ o. unless_any (seat_member o) (Some r)) here ∙ ap (λ x. unless_any (Some x) (Some r)) has.mine ∙ gone_self k r mine)
join_cases places events k m join r false e mine ne =
    sym (join_other m.place (seats_at places events (length events)) (get_or (seats_at places events (length events)) m.place None) r (placed places events (length events)) refl (ap (λ (x : Member). eqb m.place x.place) mine ∙ ne))

leave_other : (m : Member) (o : Option Seat) (s : Option Seat) (r : Recording) → if_of m o ≡ s → is_same m r.member ≡ false → unless_any (seat_member s) (Some r) ≡ Some r
leave_other m o None r e ne = refl
leave_other m o (Some seat) r e ne = stays_other seat.member r (ap (λ x. is_same x r.member) (if_of_is m o seat e).1 ∙ ne)

leave_cases : (places : ℕ) (events : List Event) (k m : Member) (join : ℕ) (r : Recording) (b : Bool) → joined_at places (acts_of events) k (length events) ≡ Some join → r.member ≡ k → is_same m k ≡ b → cond b None (Some r) ≡ unless_any (seat_member (seat_of (seats_at places events (length events)) m)) (Some r)
leave_cases places events k m join r true e mine same =
    let n : ℕ = length events in
    let has = joined_has_seat places events n k join e in
    let here : get_or (seats_at places events n) k.place None ≡ Some has.seat = seats_at_is places events n k.place has.below ∙ has.is in
    let seat : seat_of (seats_at places events n) m ≡ Some has.seat = ap (seat_of (seats_at places events n)) (same_from_is_same m k same) ∙ seat_of_some k (get_or (seats_at places events n) k.place None) has.seat here has.mine in
    sym (ap (λ o. unless_any (seat_member o) (Some r)) seat ∙ ap (λ x. unless_any (Some x) (Some r)) has.mine ∙ gone_self k r mine)
leave_cases places events k m join r false e mine ne =
    sym (leave_other m (get_or (seats_at places events (length events)) m.place None) (seat_of (seats_at places events (length events)) m) r refl (ap (is_same m) mine ∙ ne))

settled_body : (places : ℕ) (events : List Event) (k : Member) (join : ℕ) (r : Recording) (body : Body) → joined_at places (acts_of events) k (length events) ≡ Some join → r.member ≡ k → cond (settles k (kind_of body)) None (Some r) ≡ unless_any (leaver (seats_at places events (length events)) body) (Some r)
settled_body places events k join r (Join m peer callsign listens after) e mine = join_cases places events k m join r (eqb m.place k.place) e mine refl
settled_body places events k join r (Leave m why) e mine = leave_cases places events k m join r (is_same m k) e mine refl
settled_body places events k join r (Packet m p) e mine = refl
settled_body places events k join r (Reply m control) e mine = refl
settled_body places events k join r Tick e mine = refl
settled_body places events k join r Stop e mine = refl

-- who is recorded is in
found_in : Later → (setup : Setup) (events : List Event) (r : Recording) → recording_at setup (acts_of events) (length events) ≡ Some r → IsFound setup.places (acts_of events) (length events) r
unfolding recording_at
found_in later setup events r e = found setup (acts_of events) (length events) (echoed_before setup (acts_of events) (length events)) r e

-- an event without an admitted packet
quiet_end : Later → (setup : Setup) (events : List Event) (body : Body) (at : ℕ) (s : Bool) (recording : Option Recording) → recording_at setup (acts_of events) (length events) ≡ recording →
    onward body at s [] (is_some (option_and_then (due_of at) (option_map (closed_if s at) recording))) recording
    ≡ unless_any (leaver (seats_at setup.places events (length events)) body) (option_map (with_given at) (option_map (closed_if s at) recording))
quiet_end later setup events body at s None e = sym (none_left (leaver (seats_at setup.places events (length events)) body))
quiet_end later setup events body at s (Some r) e =
    let is : IsFound setup.places (acts_of events) (length events) r = found_in later setup events r e in
    ap (unless_settled (kind_of body)) (moved_silent at s r is.few)
    ∙ ap (λ (k : Member). cond (settles k (kind_of body)) None (Some (with_given at (closed_if s at r)))) (member_given at s r)
    ∙ settled_body setup.places events r.member is.join (with_given at (closed_if s at r)) body is.joined (member_given at s r)

-- a packet that goes on
on_end : Later → (setup : Setup) (events : List Event) (k : Member) (p : StreamPacket) (at : ℕ) (holder : Option Frame) (recording : Option Recording) → recording_at setup (acts_of events) (length events) ≡ recording → is_none holder ≡ false →
    onward (Packet k p) at ((true && p.last) || is_none holder) (p ∷ []) (is_some (option_and_then (due_of at) (option_map (closed_if (is_none holder) at) recording))) recording
    ≡ option_map (extended at p) (option_map (with_given at) (option_map (closed_if (is_none holder) at) recording))
on_end later setup events k p at holder None e held = refl
on_end later setup events k p at holder (Some r) e held =
    let is : IsFound setup.places (acts_of events) (length events) r = found_in later setup events r e in
    ap (λ s. Some (moved at (p.last || s) (p ∷ []) (is_some (due_of at (closed_if s at r))) r)) held
    ∙ ap Some (moved_on at p r is.few)
    ∙ ap (λ s. Some (extended at p (with_given at (closed_if s at r)))) (sym held)

-- a packet that opens the floor
abbrev begins : Member → StreamPacket → ℕ → Recording
begins k p m = record { member = k; frames = p ∷ []; close = cond p.last (Some m) None; given = 0 }

stays_joined : StrangersGetNotMember → (setup : Setup) (events : List Event) (event : Event) (k : Member) (p : StreamPacket) (j : Option ℕ) → kind_at (longer events event) (length events) ≡ act.Packet k p → verdict_at (floor_setup setup) (longer events event) (length events) ≡ Some Opened → joined_at setup.places (longer events event) k (length events) ≡ j → option_map_or (λ i. nat_lt i (length events)) j false ≡ true
stays_joined strangers setup events event k p None is opened e = let never : Some Opened ≡ Some NotMember = sym opened ∙ strangers (floor_setup setup) (longer events event) (length events) k p is e in cc
stays_joined strangers setup events event k p (Some i) is opened e = lt-ltb i (length events) (joined_below setup.places (events ++ event ∷ []) (length events) k i e)

opened_end : StrangersGetNotMember → (setup : Setup) (events : List Event) (event : Event) (k : Member) (p : StreamPacket) (at : ℕ) (holder : Option Frame) (recording : Option Recording) → Scene setup events event at (Some Opened) holder recording → kind_of event.body ≡ act.Packet k p → recording_at setup (longer events event) (suc (length events)) ≡ Some (extended at p (begun k))
unfolding recording_at admitted_packet
opened_end strangers setup events event k p at holder recording s is =
    let n : ℕ = length events in
    let acts : List Act = longer events event in
    let stays : is_in_since setup.places acts k n n ≡ true =
    stays_joined strangers setup events event k p (joined_at setup.places acts k n) (s.kind ∙ is) s.verdict refl in
    ap (recording_with setup acts (suc n)) (echoed_suc setup acts n)
    ∙ recording_opens setup (events ++ event ∷ []) n (echoed_before setup acts n) (is_some (echo_at setup acts n)) k p (length_echoed setup acts n) (ap opens s.verdict) (s.kind ∙ is) stays
    (ap (λ v. cond (admits v) (packet_in (kind_at acts n)) []) s.verdict ∙ ap packet_in (s.kind ∙ is)) (ap admits s.verdict)
    ∙ ap (λ m. Some (begins k p m)) s.moment
    ∙ ap Some (opened_is at k p)

goes_on_body : (setup : Setup) (events : List Event) (event : Event) (body : Body) (at : ℕ) (answer : Option Verdict) (holder : Option Frame) (recording : Option Recording) → Scene setup events event at answer holder recording → event.body ≡ body → opens answer ≡ false →
    recording_at setup (longer events event) (suc (length events))
    ≡ onward body at ((admits answer && has_end_bit (kind_of body)) || is_none holder) (cond (admits answer) (packet_in (kind_of body)) []) (is_some (option_and_then (due_of at) (option_map (closed_if (is_none holder) at) recording))) recording
goes_on_body setup events event body at answer holder recording s is other =
    goes_on_end setup events event at answer holder recording s other
    ∙ ap (λ (x : Body). onward x at ((admits answer && has_end_bit (kind_of x)) || is_none holder) (cond (admits answer) (packet_in (kind_of x)) []) (is_some (option_and_then (due_of at) (option_map (closed_if (is_none holder) at) recording))) recording) is

-- the recording once a due frame was given
abbrev given_at : ℕ → Option Frame → Option Recording → Option Recording
given_at at holder recording = option_map (with_given at) (option_map (closed_if (is_none holder) at) recording)

quiet_body : Later → (setup : Setup) (events : List Event) (event : Event) (body : Body) (at : ℕ) (answer : Option Verdict) (holder : Option Frame) (recording : Option Recording) → Scene setup events event at answer holder recording → event.body ≡ body → recording_at setup (acts_of events) (length events) ≡ recording → opens answer ≡ false → admits answer ≡ false →
    recording_at setup (longer events event) (suc (length events)) ≡ unless_any (leaver (seats_at setup.places events (length events)) body) (given_at at holder recording)
quiet_body later setup events event body at answer holder recording s is before other refused =
    goes_on_body setup events event body at answer holder recording s is other
    ∙ ap (λ b. onward body at ((b && has_end_bit (kind_of body)) || is_none holder) (cond b (packet_in (kind_of body)) []) (is_some (option_and_then (due_of at) (option_map (closed_if (is_none holder) at) recording))) recording) refused
    ∙ quiet_end later setup events body at (is_none holder) recording before

silent_body : Later → (setup : Setup) (events : List Event) (event : Event) (body : Body) (at : ℕ) (answer : Option Verdict) (holder : Option Frame) (recording : Option Recording) → Scene setup events event at answer holder recording → event.body ≡ body → recording_at setup (acts_of events) (length events) ≡ recording → is_packet (kind_of body) ≡ false →
    recording_at setup (longer events event) (suc (length events)) ≡ unless_any (leaver (seats_at setup.places events (length events)) body) (given_at at holder recording)
silent_body later setup events event body at None holder recording s is before none = quiet_body later setup events event body at None holder recording s is before refl refl
silent_body later setup events event body at (Some v) holder recording s is before none = let never : true ≡ false = s.packets ∙ ap (λ (x : Body). is_packet (kind_of x)) is ∙ none in cc

packet_body : Later → StrangersGetNotMember → (setup : Setup) (events : List Event) (event : Event) (k : Member) (p : StreamPacket) (at : ℕ) (v : Verdict) (holder : Option Frame) (recording : Option Recording) → Scene setup events event at (Some v) holder recording → event.body ≡ Packet k p → recording_at setup (acts_of events) (length events) ≡ recording → (v ≡ Continued → is_none holder ≡ false) →
    recording_at setup (longer events event) (suc (length events)) ≡ recording_heard at k p v (given_at at holder recording)
packet_body later strangers setup events event k p at Opened holder recording s is before held = opened_end strangers setup events event k p at holder recording s (ap kind_of is)
packet_body later strangers setup events event k p at Continued holder recording s is before held =
    goes_on_body setup events event (Packet k p) at (Some Continued) holder recording s is refl ∙ on_end later setup events k p at holder recording before (held refl)
packet_body later strangers setup events event k p at (Busy m) holder recording s is before held = quiet_body later setup events event (Packet k p) at (Some (Busy m)) holder recording s is before refl refl
packet_body later strangers setup events event k p at Repeat holder recording s is before held = quiet_body later setup events event (Packet k p) at (Some Repeat) holder recording s is before refl refl
packet_body later strangers setup events event k p at (Late x) holder recording s is before held = quiet_body later setup events event (Packet k p) at (Some (Late x)) holder recording s is before refl refl
packet_body later strangers setup events event k p at AfterEnd holder recording s is before held = quiet_body later setup events event (Packet k p) at (Some AfterEnd) holder recording s is before refl refl
packet_body later strangers setup events event k p at TimedOut holder recording s is before held = quiet_body later setup events event (Packet k p) at (Some TimedOut) holder recording s is before refl refl
packet_body later strangers setup events event k p at NotMember holder recording s is before held = quiet_body later setup events event (Packet k p) at (Some NotMember) holder recording s is before refl refl
packet_body later strangers setup events event k p at ListenOnly holder recording s is before held = quiet_body later setup events event (Packet k p) at (Some ListenOnly) holder recording s is before refl refl

held_some : (o : Option Frame) (k : Member) → option_map (λ (f : Frame). f.member) o ≡ Some k → is_none o ≡ false
held_some None k e = cc
held_some (Some f) k e = refl

body_end : Later → StrangersGetNotMember → (setup : Setup) (events : List Event) (event : Event) (body : Body) (at : ℕ) (answer : Option Verdict) (seats : List (Option Seat)) (old new : FloorState) (recording : Option Recording) → Scene setup events event at answer (holder_then at old) recording → event.body ≡ body → recording_at setup (acts_of events) (length events) ≡ recording → FloorFollows seats at body answer old new →
    recording_at setup (longer events event) (suc (length events)) ≡ recording_then (leaver (seats_at setup.places events (length events)) body) at body answer (given_at at (holder_then at old) recording)
body_end later strangers setup events event (Join k peer callsign listens after) at answer seats old new recording s is before follows = silent_body later setup events event (Join k peer callsign listens after) at answer (holder_then at old) recording s is before refl
body_end later strangers setup events event (Leave k why) at answer seats old new recording s is before follows = silent_body later setup events event (Leave k why) at answer (holder_then at old) recording s is before refl
body_end later strangers setup events event (Reply k control) at answer seats old new recording s is before follows = silent_body later setup events event (Reply k control) at answer (holder_then at old) recording s is before refl
body_end later strangers setup events event Tick at answer seats old new recording s is before follows = silent_body later setup events event Tick at answer (holder_then at old) recording s is before refl
body_end later strangers setup events event Stop at answer seats old new recording s is before follows = silent_body later setup events event Stop at answer (holder_then at old) recording s is before refl
body_end later strangers setup events event (Packet k p) at None seats old new recording s is before follows = let never : false ≡ true = s.packets ∙ ap (λ (x : Body). is_packet (kind_of x)) is in cc
body_end later strangers setup events event (Packet k p) at (Some v) seats old new recording s is before follows =
    packet_body later strangers setup events event k p at v (holder_then at old) recording s is before
    (λ on. held_some (holder_then at old) k ((follows v refl).goes_on on))

-- What a step is given and does, as the code has it.
pub record Stepped (setup : Setup) (events : List Event) (event : Event) (at : ℕ) (answer : Option Verdict) (old new : People) (recording : Option Recording) : Type 0 where
  pub stands : PeopleStandFor setup old events
  pub moment : at ≡ max (moment_before (acts_of events) (length events)) event.at
  pub answer_is : answer ≡ verdict_at (floor_setup setup) (acts_of (events ++ event ∷ [])) (length events)
  pub packets : is_some answer ≡ is_packet (kind_of event.body)
  pub follows : FloorFollows old.seats at event.body answer old.floor new.floor
  pub before : recording ≡ recording_at setup (acts_of events) (length events)

scene : Later → MomentOfOneMore → (setup : Setup) (events : List Event) (event : Event) (at : ℕ) (answer : Option Verdict) (old new : People) (recording : Option Recording) → Stepped setup events event at answer old new recording → Scene setup events event at answer (holder_then at old.floor) recording
scene later here setup events event at answer old new recording s =
    let moment : moment_at (longer events event) (length events) ≡ at = at_end here events event ∙ sym s.moment in
    record {
      moment = moment;
      verdict = sym s.answer_is;
      kind = kind_end events event;
      holder_is = holder_end later setup events event at old.floor moment s.stands.floor;
      before = before_end_is later setup events event ∙ sym s.before;
      packets = s.packets;
    }

-- The echo at the new event is the one that is due, ..
pub parrot_echo : Later → MomentOfOneMore → (setup : Setup) (events : List Event) (event : Event) (at : ℕ) (answer : Option Verdict) (old new : People) (recording : Option Recording) → Stepped setup events event at answer old new recording → option_and_then (due_of at) (turned at old.floor recording) ≡ echo_at setup (acts_of (events ++ event ∷ [])) (length events)
parrot_echo later here setup events event at answer old new recording s =
    sym (echo_end setup events event at answer (holder_then at old.floor) recording (scene later here setup events event at answer old new recording s))

-- .. and what is recorded after it is what the code has then.
pub parrot_recording : Later → MomentOfOneMore → StrangersGetNotMember → (setup : Setup) (events : List Event) (event : Event) (at : ℕ) (answer : Option Verdict) (old new : People) (recording : Option Recording) → Stepped setup events event at answer old new recording → recording_then (leaver old.seats event.body) at event.body answer (option_map (with_given at) (turned at old.floor recording)) ≡ recording_at setup (acts_of (events ++ event ∷ [])) (length (events ++ event ∷ []))
parrot_recording later here strangers setup events event at answer old new recording s =
    ap (λ seats. recording_then (leaver seats event.body) at event.body answer (option_map (with_given at) (turned at old.floor recording))) s.stands.seats
    ∙ sym (body_end later strangers setup events event event.body at answer old.seats old.floor new.floor recording (scene later here setup events event at answer old new recording s) refl (sym s.before) s.follows)
    ∙ ap (recording_at setup (acts_of (events ++ event ∷ []))) (sym (length_more events event))
