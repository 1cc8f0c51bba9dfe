-- Whoever has the floor after an event is recorded.
use Rattle.std.proofs.Common.{◌≡◌, ℕ, true, false, List, is_some, Option, None, Some, refl, ap, sym, ◌∙◌}
use Rattle.m17_values.specs.declared.member.Member.{Member}
use Rattle.m17_stream.specs.declared.packet.StreamPacket.{StreamPacket}
use Rattle.m17_control.specs.declared.event.Body.{Body}
use Rattle.m17_control.specs.declared.event.Body.TheVariants.{Join, Leave, Packet, Reply, Tick, Stop}
use Rattle.m17_floor.specs.declared.verdict.Verdict.{Verdict}
use Rattle.m17_floor.specs.declared.verdict.Verdict.TheVariants.{Opened, Continued, Busy, Repeat, Late, AfterEnd, TimedOut, NotMember, ListenOnly}
use Rattle.m17_floor.specs.Acts.{is_packet}
use Rattle.m17_floor.specs.Rule.{FloorState, incoming, frame_beside}
use Rattle.m17_module.specs.Recording.{Recording, is_going_on, begun}
use Rattle.m17_module.specs.declared.seat.Seat.{Seat}
use Rattle.m17_module.specs.Events.{kind_of}
use Rattle.m17_module.specs.Following.{leaver, held_by, FloorHears, FloorFollows, RecordsHolder, recording_heard, recording_then, unless_any, without_any}
use Rattle.m17_module.proofs.Tuned.{left_records, IsOpenOf, open_of, extended_by, more_by, is_recorded}

-- of a floor that stays, and of one with this frame
same_records : (at : ℕ) (old new : FloorState) (recording : Option Recording) → new ≡ old → RecordsHolder at old recording → RecordsHolder at new recording
same_records at old new recording same h = λ k e. h k (ap (held_by at) (sym same) ∙ e)

open_frame : (at : ℕ) (k : Member) (p : StreamPacket) (old new : FloorState) (m : Member) → new ≡ record { frame = Some (frame_beside old.limit old.frame (incoming k at p)); limit = old.limit } → held_by at new ≡ Some m → IsOpenOf p.last (frame_beside old.limit old.frame (incoming k at p)) m
open_frame at k p old new m is e = open_of old.limit at (frame_beside old.limit old.frame (incoming k at p)) m (ap (held_by at) (sym is) ∙ e)

heard_records : (at : ℕ) (k : Member) (p : StreamPacket) (verdict : Verdict) (old new : FloorState) (recording : Option Recording) → FloorHears (incoming k at p) verdict old new → RecordsHolder at old recording → RecordsHolder at new (recording_heard at k p verdict recording)
heard_records at k p Opened old new recording h r = λ m e.
    let now : IsOpenOf p.last (frame_beside old.limit old.frame (incoming k at p)) m = open_frame at k p old new m h.after e in
    extended_by at p (begun k) k now.goes_on refl ∙ ap Some now.mine
heard_records at k p Continued old new recording h r = λ m e.
    let now : IsOpenOf p.last (frame_beside old.limit old.frame (incoming k at p)) m = open_frame at k p old new m h.after e in
    more_by at p recording k now.goes_on (r k (h.goes_on refl)) ∙ ap Some now.mine
heard_records at k p (Busy m) old new recording h r = same_records at old new recording h.after r
heard_records at k p Repeat old new recording h r = same_records at old new recording h.after r
heard_records at k p (Late n) old new recording h r = same_records at old new recording h.after r
heard_records at k p AfterEnd old new recording h r = same_records at old new recording h.after r
heard_records at k p TimedOut old new recording h r = same_records at old new recording h.after r
heard_records at k p NotMember old new recording h r = same_records at old new recording h.after r
heard_records at k p ListenOnly old new recording h r = same_records at old new recording h.after r

packet_records : (at : ℕ) (k : Member) (p : StreamPacket) (answer : Option Verdict) (old new : FloorState) (recording : Option Recording) → ((verdict : Verdict) → answer ≡ Some verdict → FloorHears (incoming k at p) verdict old new) → is_some answer ≡ true → RecordsHolder at old recording → RecordsHolder at new (recording_then None at (Packet k p) answer recording)
packet_records at k p None old new recording h some r = let never : false ≡ true = some in cc
packet_records at k p (Some verdict) old new recording h some r = heard_records at k p verdict old new recording (h verdict refl) r

silent_records : (at : ℕ) (leaves : Option Member) (old new : FloorState) (recording : Option Recording) → new ≡ without_any leaves old → RecordsHolder at old recording → RecordsHolder at new (unless_any leaves recording)
silent_records at leaves old new recording is r = same_records at (without_any leaves old) new (unless_any leaves recording) is (left_records at leaves old recording r)

pub step_records : (seats : List (Option Seat)) (at : ℕ) (body : Body) (answer : Option Verdict) (old new : FloorState) (recording : Option Recording) → FloorFollows seats at body answer old new → is_some answer ≡ is_packet (kind_of body) → RecordsHolder at old recording → RecordsHolder at new (recording_then (leaver seats body) at body answer recording)
step_records seats at (Packet k p) answer old new recording h packets r = packet_records at k p answer old new recording h packets r
step_records seats at (Join k peer callsign listens after) answer old new recording h packets r = silent_records at (leaver seats (Join k peer callsign listens after)) old new recording h r
step_records seats at (Leave k why) answer old new recording h packets r = silent_records at (leaver seats (Leave k why)) old new recording h r
step_records seats at (Reply k control) answer old new recording h packets r = silent_records at None old new recording h r
step_records seats at Tick answer old new recording h packets r = silent_records at None old new recording h r
step_records seats at Stop answer old new recording h packets r = silent_records at None old new recording h r

-- what goes on is recorded
pub goes_on_recorded : (seats : List (Option Seat)) (at : ℕ) (body : Body) (answer : Option Verdict) (old new : FloorState) (recording : Option Recording) → FloorFollows seats at body answer old new → is_some answer ≡ is_packet (kind_of body) → RecordsHolder at old recording → answer ≡ Some Continued → is_going_on recording ≡ true
goes_on_recorded seats at (Packet k p) answer old new recording h packets r is =
    is_recorded recording k (r k ((h Continued is).goes_on refl))
goes_on_recorded seats at (Join k peer callsign listens after) answer old new recording h packets r is = let never : true ≡ false = sym (ap is_some is) ∙ packets in cc
goes_on_recorded seats at (Leave k why) answer old new recording h packets r is = let never : true ≡ false = sym (ap is_some is) ∙ packets in cc
goes_on_recorded seats at (Reply k control) answer old new recording h packets r is = let never : true ≡ false = sym (ap is_some is) ∙ packets in cc
goes_on_recorded seats at Tick answer old new recording h packets r is = let never : true ≡ false = sym (ap is_some is) ∙ packets in cc
goes_on_recorded seats at Stop answer old new recording h packets r is = let never : true ≡ false = sym (ap is_some is) ∙ packets in cc
