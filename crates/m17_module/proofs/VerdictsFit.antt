-- The value of a verdict is one of a member that is in, or of a packet that came in.
use Rattle.std.proofs.Common.{◌≡◌, ℕ, zero, suc, ◌<◌, ◌==◌, Bool, true, false, cond, List, [], ◌∷◌, length, take, nat_lt, nat_le, Option, None, Some, refl, subst}
use Rattle.std.specs.List.{All}
use Rattle.std.specs.Option.{option_and_then, option_map_or}
use Rattle.std.proofs.lemmas.Bool.{ltb-true}
use Rattle.std.proofs.lemmas.List.Elements.{All-head, All-tail}
use Rattle.std.proofs.lemmas.Option.{same_Some}
use Rattle.m17_values.specs.declared.member.Member.{Member}
use Rattle.m17_stream.specs.Stream.{steps_ahead}
use Rattle.m17_control.specs.declared.event.Body.{Body}
use Rattle.m17_control.specs.declared.event.Body.TheVariants.{Join, Leave, Packet, Reply, Tick, Stop}
use Rattle.m17_control.specs.declared.event.Event.{Event}
use Rattle.m17_floor.specs.declared.act.Act.{Act}
use Rattle.m17_floor.specs.declared.act.ActKind.{ActKind}
use Rattle.m17_floor.specs.declared.act.ActKind.TheVariants as act
use Rattle.m17_floor.specs.declared.verdict.Verdict.{Verdict}
use Rattle.m17_floor.specs.declared.verdict.Verdict.TheVariants.{Opened, Busy, Repeat, Late, AfterEnd, TimedOut, ListenOnly}
use Rattle.m17_floor.specs.Acts.{kind_at, moment_at, joined_at}
use Rattle.m17_floor.specs.Rule.{Frame, Incoming, incoming, late_from, has_run_out, has_floor, is_compared, is_of_stream, only_if, busy, after_end, repeated, late, timed_out, continued, first_fit, verdict_beside, verdict_by_frames}
use Rattle.m17_floor.specs.Floor.{Past, joined, opened_at, frame_of, frame_at, has_stayed, last_admitted, floor_frame, last_own, own_frame, not_member, listens, listen_only, verdict_after, verdict_given, past_at, verdict_at}
use Rattle.m17_module.specs.Setup.{floor_setup}
use Rattle.m17_module.specs.Events.{kind_of, acts_of}
use Rattle.m17_module.specs.Laws.{IsNumbered, FitsIn, VerdictsFit}
use Rattle.m17_module.proofs.SeatsMore.{some_from_cond}

-- a packet's number is low
abbrev IsLow : ActKind → Type 0
IsLow (act.Packet k p) = p.number < 32768
IsLow _ = Unit {0}

body_low : (body : Body) → IsNumbered body → IsLow (kind_of body)
body_low (Join k peer callsign listens after) h = tt
body_low (Leave k why) h = tt
body_low (Packet k p) h = h
body_low (Reply k control) h = tt
body_low Tick h = tt
body_low Stop h = tt

kinds_low : (events : List Event) → All (λ event. IsNumbered event.body) events → (n a : ℕ) → IsLow (kind_at (take n (acts_of events)) a)
kinds_low events h zero a = tt
kinds_low [] h (suc n) a = tt
kinds_low (event ∷ events) h (suc n) zero = body_low event.body (All-head (λ (e : Event). IsNumbered e.body) event events h)
kinds_low (event ∷ events) h (suc n) (suc a) = kinds_low events (All-tail (λ (e : Event). IsNumbered e.body) event events h) n a

-- the frame's number is low, and its member is at one of the places
abbrev HasLow : Option Frame → Type 0
HasLow None = Unit {0}
HasLow (Some frame) = frame.number < 32768

abbrev IsAtPlace : ℕ → Option Frame → Type 0
IsAtPlace places None = Unit {0}
IsAtPlace places (Some frame) = frame.member.place < places

frame_low : (kind : ActKind) (at opened : ℕ) → IsLow kind → HasLow (frame_of kind at opened)
frame_low (act.Packet k p) at opened h = h
frame_low (act.Join k only) at opened h = tt
frame_low (act.Leave k) at opened h = tt
frame_low act.Other at opened h = tt

found_low : (past : Past) (o : Option ℕ) → ((a : ℕ) → IsLow (kind_at past.acts a)) → HasLow (option_and_then (frame_at past) o)
found_low past None h = tt
found_low past (Some a) h = frame_low (kind_at past.acts a) (moment_at past.acts a) (opened_at past a) (h a)

own_low : (past : Past) (k : Member) → ((a : ℕ) → IsLow (kind_at past.acts a)) → HasLow (own_frame past k)
unfolding own_frame
own_low past k h = found_low past (last_own past k) h

low_if : (test : Frame → Bool) (o : Option Frame) → HasLow o → HasLow (only_if test o)
low_if test None h = tt
low_if test (Some frame) h = elim (test frame) as (λ b. HasLow (cond b (Some frame) None)) [ true ↦ h | false ↦ tt ]

-- who is in is at one of the places
joined_place : (places : ℕ) (acts : List Act) (k : Member) (n j : ℕ) → joined_at places acts k n ≡ Some j → k.place < places
unfolding joined_at
joined_place places acts k n j e = ltb-true k.place places (some_from_cond (nat_lt k.place places) _ j e).0

since_place : (places : ℕ) (o : Option ℕ) (a : ℕ) (frame : Frame) → ((j : ℕ) → o ≡ Some j → frame.member.place < places) → IsAtPlace places (cond (option_map_or (λ j. nat_lt j a) o false) (Some frame) None)
since_place places None a frame h = tt
since_place places (Some j) a frame h = elim (nat_lt j a) as (λ b. IsAtPlace places (cond b (Some frame) None)) [ true ↦ h j refl | false ↦ tt ]

nothing_at : (places : ℕ) (b : Bool) → IsAtPlace places (cond b None None)
nothing_at places true = tt
nothing_at places false = tt

stayed_place : (past : Past) (a at opened : ℕ) (kind : ActKind) → IsAtPlace past.setup.places (cond (has_stayed past a kind) (frame_of kind at opened) None)
stayed_place past a at opened (act.Packet k p) = since_place past.setup.places (joined past k) a _ (λ j e. joined_place past.setup.places past.acts k (length past.acts) j e)
stayed_place past a at opened (act.Join k only) = tt
stayed_place past a at opened (act.Leave k) = tt
stayed_place past a at opened act.Other = tt

last_place : (past : Past) (o : Option ℕ) → IsAtPlace past.setup.places (option_and_then (λ a. cond (has_stayed past a (kind_at past.acts a)) (frame_at past a) None) o)
last_place past None = tt
last_place past (Some a) = stayed_place past a (moment_at past.acts a) (opened_at past a) (kind_at past.acts a)

floor_place : (past : Past) → IsAtPlace past.setup.places (floor_frame past)
unfolding floor_frame
floor_place past = last_place past (last_admitted past)

place_if : (places : ℕ) (test : Frame → Bool) (o : Option Frame) → IsAtPlace places o → IsAtPlace places (only_if test o)
place_if places test None h = tt
place_if places test (Some frame) h = elim (test frame) as (λ b. IsAtPlace places (cond b (Some frame) None)) [ true ↦ h | false ↦ tt ]

-- the lines of the table
abbrev LineFits : ℕ → Option Verdict → Type 0
LineFits places None = Unit {0}
LineFits places (Some verdict) = FitsIn places verdict

line_then : (places : ℕ) (line : Option Verdict) (lines : List (Option Verdict)) (otherwise : Verdict) → LineFits places line → FitsIn places (first_fit lines otherwise) → FitsIn places (first_fit (line ∷ lines) otherwise)
line_then places None lines otherwise h rest = rest
line_then places (Some verdict) lines otherwise h rest = h

line_if : (places : ℕ) (b : Bool) (verdict : Verdict) → FitsIn places verdict → LineFits places (cond b (Some verdict) None)
line_if places true verdict h = h
line_if places false verdict h = tt

busy_fits : (places : ℕ) (holder : Option Frame) (new : Incoming) → IsAtPlace places holder → LineFits places (busy holder new)
busy_fits places None new h = tt
busy_fits places (Some holder) new h = elim (is_of_stream holder new) as (λ b. LineFits places (cond b None (Some (Busy holder.member)))) [ true ↦ tt | false ↦ h ]

end_fits : (places : ℕ) (own : Option Frame) → LineFits places (after_end own)
end_fits places None = tt
end_fits places (Some own) = line_if places own.last AfterEnd tt

repeat_fits : (places : ℕ) (own : Option Frame) (number : ℕ) → LineFits places (repeated own number)
repeat_fits places None number = tt
repeat_fits places (Some own) number = line_if places (number == own.number) Repeat tt

late_fits : (places : ℕ) (own : Option Frame) (number : ℕ) → HasLow own → LineFits places (late own number)
late_fits places None number h = tt
late_fits places (Some own) number h = line_if places (nat_le late_from (steps_ahead number own.number)) (Late own.number) h

timed_fits : (places limit at : ℕ) (own : Option Frame) → LineFits places (timed_out limit at own)
timed_fits places limit at None = tt
timed_fits places limit at (Some own) = line_if places (has_run_out limit at own.opened) TimedOut tt

goes_on_fits : (places : ℕ) (holder : Option Frame) → LineFits places (continued holder)
goes_on_fits places None = tt
goes_on_fits places (Some holder) = tt

beside_fits : (places limit : ℕ) (holder own : Option Frame) (new : Incoming) → IsAtPlace places holder → HasLow own → FitsIn places (verdict_beside limit holder own new)
beside_fits places limit holder own new at low =
    line_then places (busy holder new) _ Opened (busy_fits places holder new at)
    (line_then places (after_end own) _ Opened (end_fits places own)
    (line_then places (repeated own new.packet.number) _ Opened (repeat_fits places own new.packet.number)
    (line_then places (late own new.packet.number) _ Opened (late_fits places own new.packet.number low)
    (line_then places (timed_out limit new.at own) _ Opened (timed_fits places limit new.at own)
    (line_then places (continued holder) [] Opened (goes_on_fits places holder) tt)))))

stranger_fits : (places : ℕ) (o : Option ℕ) → LineFits places (not_member o)
stranger_fits places None = tt
stranger_fits places (Some j) = tt

listener_fits : (places : ℕ) (acts : List Act) (o : Option ℕ) → LineFits places (listen_only acts o)
listener_fits places acts None = tt
listener_fits places acts (Some j) = line_if places (listens (kind_at acts j)) ListenOnly tt

after_fits : (past : Past) (new : Incoming) → ((a : ℕ) → IsLow (kind_at past.acts a)) → FitsIn past.setup.places (verdict_after past new)
after_fits past new low =
    let frames : Verdict = verdict_by_frames past.setup.limit (floor_frame past) (own_frame past new.sender) new in
    line_then past.setup.places (not_member (joined past new.sender)) _ frames (stranger_fits past.setup.places (joined past new.sender))
    (line_then past.setup.places (listen_only past.acts (joined past new.sender)) [] frames (listener_fits past.setup.places past.acts (joined past new.sender))
    (beside_fits past.setup.places past.setup.limit (only_if (has_floor past.setup.limit new.at) (floor_frame past)) (only_if (is_compared new.packet.sid new.at) (own_frame past new.sender)) new
    (place_if past.setup.places (has_floor past.setup.limit new.at) (floor_frame past) (floor_place past))
    (low_if (is_compared new.packet.sid new.at) (own_frame past new.sender) (own_low past new.sender low))))

given_fits : (past : Past) (at : ℕ) (kind : ActKind) (verdict : Verdict) → ((a : ℕ) → IsLow (kind_at past.acts a)) → verdict_given past at kind ≡ Some verdict → FitsIn past.setup.places verdict
unfolding verdict_given
given_fits past at (act.Packet k p) verdict low e =
    subst (λ (v : Verdict). FitsIn past.setup.places v) (same_Some (verdict_after past (incoming k at p)) verdict e) (after_fits past (incoming k at p) low)
given_fits past at (act.Join k only) verdict low e = cc
given_fits past at (act.Leave k) verdict low e = cc
given_fits past at act.Other verdict low e = cc

pub verdicts_fit : VerdictsFit
unfolding verdict_at
verdicts_fit setup events n verdict numbered e =
    given_fits (past_at (floor_setup setup) (acts_of events) n) (moment_at (acts_of events) n) (kind_at (acts_of events) n) verdict (kinds_low events numbered n) e
