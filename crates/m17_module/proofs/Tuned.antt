-- Whoever has the floor is recorded, as time goes on and as somebody leaves.
use Rattle.std.proofs.Common.{◌≡◌, ℕ, ◌-◌, ◌≤◌, ◌&&◌, Bool, true, false, not, cond, List, nat_lt, nat_le, is_none, is_some, option_map, Option, None, Some, refl, ap, sym, ◌∙◌, arith, ◌==◌, ◌∷◌, [], ◌++◌, length}
use Rattle.std.specs.Option.{option_and_then}
use Rattle.std.proofs.lemmas.Option.{same_Some}
use Rattle.std.proofs.lemmas.Bool.Decides.{nat_tests}
use Rattle.m17_values.specs.declared.member.Member.{Member}
use Rattle.m17_stream.specs.declared.packet.StreamPacket.{StreamPacket}
use Rattle.m17_floor.specs.Acts.{is_same}
use Rattle.m17_floor.specs.Rule.{Frame, FloorState, floor_timeout_ms, has_run_out, only_if, has_floor}
use Rattle.m17_module.specs.Recording.{Recording, most_frames, closed, goes_on, is_going_on, with_frame, unless_of, due_of, with_given}
use Rattle.m17_module.specs.Following.{holder_then, closed_if, recorded_by, RecordsHolder, turned, extended, unless_any, without_any}

-- whose a frame is
abbrev pub member_of : Frame → Member
member_of frame = frame.member

-- a frame that has the floor had it before
still : (last p q r s : Bool) → (p ≡ true → q ≡ true) → (r ≡ true → s ≡ true) → (not last && p && r) ≡ true → (not last && q && s) ≡ true
still true p q r s pq rs e = cc
still false false q r s pq rs e = cc
still false true q false s pq rs e = cc
still false true q true s pq rs e = ap (λ x. not false && x && s) (pq refl) ∙ ap (λ x. not false && true && x) (rs refl)

lt_earlier : (before at t n : ℕ) → before ≤ at → nat_lt (at - t) n ≡ true → nat_lt (before - t) n ≡ true
lt_earlier before at t n le e = grind (arith, nat_tests)

le_earlier : (before at t n : ℕ) → before ≤ at → nat_le n (at - t) ≡ false → nat_le n (before - t) ≡ false
le_earlier before at t n le e = grind (arith, nat_tests)

is_false : (b : Bool) → not b ≡ true → b ≡ false
is_false true e = cc
is_false false e = refl

not_out : (z : Bool) (n before at t : ℕ) → before ≤ at → not (not z && nat_le n (at - t)) ≡ true → not (not z && nat_le n (before - t)) ≡ true
not_out true n before at t le e = refl
not_out false n before at t le e = ap (λ b. not b) (le_earlier before at t n le (is_false (nat_le n (at - t)) e))

held_earlier : (limit before at : ℕ) (f : Frame) → before ≤ at → has_floor limit at f ≡ true → has_floor limit before f ≡ true
held_earlier limit before at f le e =
    still f.last (nat_lt (at - f.at) floor_timeout_ms) (nat_lt (before - f.at) floor_timeout_ms) (not (has_run_out limit at f.opened)) (not (has_run_out limit before f.opened))
    (lt_earlier before at f.at floor_timeout_ms le) (not_out (limit == 0) limit before at f.opened le) e

held_cases : (b c : Bool) (f : Frame) (k : Member) → (b ≡ true → c ≡ true) → option_map member_of (cond b (Some f) None) ≡ Some k → option_map member_of (cond c (Some f) None) ≡ Some k
held_cases false c f k bc e = cc
held_cases true c f k bc e = ap (λ x. option_map member_of (cond x (Some f) None)) (bc refl) ∙ e

held_frame : (limit before at : ℕ) (frame : Option Frame) (k : Member) → before ≤ at → option_map member_of (only_if (has_floor limit at) frame) ≡ Some k → option_map member_of (only_if (has_floor limit before) frame) ≡ Some k
held_frame limit before at None k le e = e
held_frame limit before at (Some f) k le e = held_cases (has_floor limit at f) (has_floor limit before f) f k (held_earlier limit before at f le) e

-- The time goes on.
pub later_records : (before at : ℕ) (floor : FloorState) (recording : Option Recording) → before ≤ at → RecordsHolder before floor recording → RecordsHolder at floor recording
later_records before at floor recording le h = λ k e. h k (held_frame floor.limit before at floor.frame k le e)

-- What is closed where nobody has the floor isn't closed where somebody has it.
turned_cases : (o : Option Frame) (at : ℕ) (recording : Option Recording) (k : Member) → option_map member_of o ≡ Some k → recorded_by recording ≡ Some k → recorded_by (option_map (closed_if (is_none o) at) recording) ≡ Some k
turned_cases None at recording k e r = cc
turned_cases (Some f) at None k e r = r
turned_cases (Some f) at (Some x) k e r = r

-- A frame that is given closes nothing.
given_cases : (b : Bool) (x y : Recording) → recorded_by (Some x) ≡ recorded_by (Some y) → recorded_by (Some (cond b x y)) ≡ recorded_by (Some y)
given_cases true x y e = e
given_cases false x y e = refl

given_by : (at : ℕ) (recording : Option Recording) → recorded_by (option_map (with_given at) recording) ≡ recorded_by recording
given_by at None = refl
given_by at (Some r) = given_cases (is_some (due_of at r)) _ r refl

pub turned_records : (at : ℕ) (floor : FloorState) (recording given : Option Recording) → given ≡ option_map (with_given at) (turned at floor recording) → RecordsHolder at floor recording → RecordsHolder at floor given
turned_records at floor recording given is h = λ k e.
    ap recorded_by is ∙ given_by at (turned at floor recording) ∙ turned_cases (holder_then at floor) at recording k e (h k e)

-- Who leaves has no floor.
frame_cases : (b : Bool) (m : Member) (f : Frame) (k : Member) → is_same m f.member ≡ false → option_map member_of (cond b (Some f) None) ≡ Some k → is_same m k ≡ false
frame_cases false m f k other e = cc
frame_cases true m f k other e = ap (is_same m) (sym (same_Some f.member k e)) ∙ other

other_cases : (limit at : ℕ) (m : Member) (f : Frame) (k : Member) (b : Bool) → is_same m f.member ≡ b → option_map member_of (only_if (has_floor limit at) (cond (not b) (Some f) None)) ≡ Some k → (option_map member_of (only_if (has_floor limit at) (Some f)) ≡ Some k) × (is_same m k ≡ false)
other_cases limit at m f k true same e = cc
other_cases limit at m f k false other e = (e, frame_cases (has_floor limit at f) m f k other e)

without_by : (limit at : ℕ) (m : Member) (frame : Option Frame) (k : Member) → option_map member_of (only_if (has_floor limit at) (only_if (λ f. not (is_same m f.member)) frame)) ≡ Some k → (option_map member_of (only_if (has_floor limit at) frame) ≡ Some k) × (is_same m k ≡ false)
without_by limit at m None k e = cc
without_by limit at m (Some f) k e = other_cases limit at m f k (is_same m f.member) refl e

going_member : (b : Bool) (m k : Member) → cond b (Some m) None ≡ Some k → m ≡ k
going_member false m k e = cc
going_member true m k e = same_Some m k e

unless_by : (m k : Member) (recording : Option Recording) → is_same m k ≡ false → recorded_by recording ≡ Some k → recorded_by (option_and_then (unless_of m) recording) ≡ Some k
unless_by m k None other e = cc
unless_by m k (Some r) other e =
    ap (λ b. recorded_by (cond b None (Some r))) (ap (is_same m) (going_member (goes_on r) r.member k e) ∙ other) ∙ e

pub left_records : (at : ℕ) (leaver : Option Member) (floor : FloorState) (recording : Option Recording) → RecordsHolder at floor recording → RecordsHolder at (without_any leaver floor) (unless_any leaver recording)
left_records at None floor recording h = h
left_records at (Some m) floor recording h = λ k e.
    let both = without_by floor.limit at m floor.frame k e in
    unless_by m k recording both.1 (h k both.0)

-- A frame that has the floor when it is heard didn't end its stream.
pub record IsOpenOf (last : Bool) (frame : Frame) (k : Member) : Type 0 where
  pub goes_on : last ≡ false
  pub mine : frame.member ≡ k

open_cases : (last p r : Bool) (f : Frame) (k : Member) → option_map member_of (cond (not last && p && r) (Some f) None) ≡ Some k → IsOpenOf last f k
open_cases true p r f k e = cc
open_cases false false r f k e = cc
open_cases false true false f k e = cc
open_cases false true true f k e = record { goes_on = refl; mine = same_Some f.member k e }

pub open_of : (limit at : ℕ) (f : Frame) (k : Member) → option_map member_of (only_if (has_floor limit at) (Some f)) ≡ Some k → IsOpenOf f.last f k
open_of limit at f k e = open_cases f.last (nat_lt (at - f.at) floor_timeout_ms) (not (has_run_out limit at f.opened)) f k e

with_by : (b : Bool) (r : Recording) (frames : List StreamPacket) → recorded_by (Some (cond b (record r { frames = frames }) r)) ≡ recorded_by (Some r)
with_by true r frames = refl
with_by false r frames = refl

pub extended_by : (at : ℕ) (p : StreamPacket) (r : Recording) (k : Member) → p.last ≡ false → recorded_by (Some r) ≡ Some k → recorded_by (Some (extended at p r)) ≡ Some k
extended_by at p r k going e =
    ap (λ b. recorded_by (Some (cond b (closed at (with_frame p r)) (with_frame p r)))) going
    ∙ with_by (nat_lt (length r.frames) most_frames) r (r.frames ++ p ∷ []) ∙ e

pub more_by : (at : ℕ) (p : StreamPacket) (recording : Option Recording) (k : Member) → p.last ≡ false → recorded_by recording ≡ Some k → recorded_by (option_map (extended at p) recording) ≡ Some k
more_by at p None k going e = cc
more_by at p (Some r) k going e = extended_by at p r k going e

going_cases : (b : Bool) (m k : Member) → cond b (Some m) None ≡ Some k → b ≡ true
going_cases false m k e = cc
going_cases true m k e = refl

pub is_recorded : (recording : Option Recording) (k : Member) → recorded_by recording ≡ Some k → is_going_on recording ≡ true
is_recorded None k e = cc
is_recorded (Some r) k e = going_cases (goes_on r) r.member k e
