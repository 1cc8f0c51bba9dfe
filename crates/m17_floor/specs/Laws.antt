-- What follows from the floor rule for every list of acts, and what one act more makes of what is
-- looked up.
use Rattle.std.specs.Prelude.{◌≡◌, ◌≢◌, ◌+◌, ℕ, ◌<◌, ◌≤◌, ◌⊎◌, ◌&&◌, Bool, true, false, List, [], ◌++◌, length, max, nat_lt, Option, None, Some, is_none, if◌then◌else◌}
use Rattle.m17_values.specs.declared.member.Member.{Member}
use Rattle.m17_stream.specs.declared.packet.StreamPacket.{StreamPacket}
use Rattle.m17_stream.specs.Stream.{steps_ahead, IsAhead}
use Rattle.m17_floor.specs.declared.act.Act.{Act}
use Rattle.m17_floor.specs.declared.act.ActKind.TheVariants.{Packet, Other}
use Rattle.m17_floor.specs.declared.verdict.Verdict.TheVariants.{Opened, NotMember, ListenOnly}
use Rattle.m17_floor.specs.Setup.{FloorSetup}
use Rattle.m17_floor.specs.Acts.{with_act, kind_at, is_packet, moment_before, moment_at, is_join_of, settles, joined_at}
use Rattle.m17_floor.specs.Rule.{FloorState, floor_timeout_ms, stream_memory_ms, late_from, has_floor, only_if}
use Rattle.m17_floor.specs.Floor.{floor_frame, listens, admits, past_at, verdict_at, IsAdmitted, admitted_count}
use Rattle.m17_floor.specs.Renamed.{AreFreelyRenamed, unnamed_verdict}
use Rattle.m17_floor.specs.StandsFor.{FloorStandsFor, its_join, MaySpeak, join_act, leave_act, packet_act, MemberKeepsStanding, KeepsStanding}

-- What happens later changes no verdict, ..
abbrev pub LaterActsChangeNoVerdict : Type 0
LaterActsChangeNoVerdict =
    (setup : FloorSetup) (acts more : List Act) (n : ℕ) → n < length acts →
    verdict_at setup (acts ++ more) n ≡ verdict_at setup acts n

-- .. not who was in before, ..
abbrev pub LaterActsChangeNoMembership : Type 0
LaterActsChangeNoMembership =
    (places : ℕ) (acts more : List Act) (k : Member) (n : ℕ) → n ≤ length acts →
    joined_at places (acts ++ more) k n ≡ joined_at places acts k n

-- .. no moment, neither at a position nor before it, ..
abbrev pub LaterActsChangeNoMoment : Type 0
LaterActsChangeNoMoment =
    (acts more : List Act) (n : ℕ) → n < length acts → moment_at (acts ++ more) n ≡ moment_at acts n

abbrev pub LaterActsChangeNoMomentBefore : Type 0
LaterActsChangeNoMomentBefore =
    (acts more : List Act) (n : ℕ) → n ≤ length acts →
    moment_before (acts ++ more) n ≡ moment_before acts n

-- .. and not what happened.
abbrev pub LaterActsChangeNoKind : Type 0
LaterActsChangeNoKind =
    (acts more : List Act) (n : ℕ) → n < length acts → kind_at (acts ++ more) n ≡ kind_at acts n

-- One act more stands at the end.
abbrev pub KindOfOneMore : Type 0
KindOfOneMore =
    (acts : List Act) (act : Act) → kind_at (with_act acts act) (length acts) ≡ act.kind

-- After one act more the moment is that of the act, if it is greater than the moment before.
abbrev pub MomentOfOneMore : Type 0
MomentOfOneMore =
    (acts : List Act) (act : Act) →
    moment_at (with_act acts act) (length acts) ≡ max (moment_before acts (length acts)) act.at

abbrev pub MomentAfterOneMore : Type 0
MomentAfterOneMore =
    (acts : List Act) (act : Act) →
    moment_before (with_act acts act) (length (with_act acts act))
    ≡ max (moment_before acts (length acts)) act.at

-- Who is in after one act more: by this act, if it is its Join at one of the places; not, if the
-- act is a Leave of it or another Join at its place; else as before.
abbrev pub joined_with : ℕ → List Act → Act → Member → Option ℕ
joined_with places acts act k =
    if settles k act.kind
    then (if is_join_of k act.kind && nat_lt k.place places then Some (length acts) else None)
    else its_join places acts k

abbrev pub MembershipOfOneMore : Type 0
MembershipOfOneMore =
    (places : ℕ) (acts : List Act) (act : Act) (k : Member) →
    its_join places (with_act acts act) k ≡ joined_with places acts act k

-- At each place at most one member is in.
abbrev pub OneMemberAtAPlace : Type 0
OneMemberAtAPlace =
    (places : ℕ) (acts : List Act) (n : ℕ) (k m : Member) (i j : ℕ) → k.place ≡ m.place →
    joined_at places acts k n ≡ Some i → joined_at places acts m n ≡ Some j → k ≡ m

-- No act without a packet has a verdict.
abbrev pub OnlyPacketsHaveVerdicts : Type 0
OnlyPacketsHaveVerdicts =
    (setup : FloorSetup) (acts : List Act) (n : ℕ) → is_packet (kind_at acts n) ≡ false →
    verdict_at setup acts n ≡ None

-- A packet of one that is not in gets not-member, ..
abbrev pub StrangersGetNotMember : Type 0
StrangersGetNotMember =
    (setup : FloorSetup) (acts : List Act) (n : ℕ) (k : Member) (p : StreamPacket) →
    kind_at acts n ≡ Packet k p → joined_at setup.places acts k n ≡ None →
    verdict_at setup acts n ≡ Some NotMember

-- .. and one of a member that joined to listen only gets listen-only.
abbrev pub ListenersGetListenOnly : Type 0
ListenersGetListenOnly =
    (setup : FloorSetup) (acts : List Act) (n : ℕ) (k : Member) (p : StreamPacket) (j : ℕ) →
    kind_at acts n ≡ Packet k p → joined_at setup.places acts k n ≡ Some j →
    listens (kind_at acts j) ≡ true → verdict_at setup acts n ≡ Some ListenOnly

-- One act more is counted where it is admitted; of no acts none is.
abbrev pub CountOfOneMore : Type 0
CountOfOneMore =
    (setup : FloorSetup) (acts : List Act) (act : Act) →
    admitted_count setup (with_act acts act)
    ≡ admitted_count setup acts
    + (if admits (verdict_at setup (with_act acts act) (length acts)) then 1 else 0)

abbrev pub CountOfNone : Type 0
CountOfNone = (setup : FloorSetup) → admitted_count setup [] ≡ 0

-- An act that is no Join, Leave or packet changes nothing of what is kept.
abbrev pub OtherActsChangeNothing : Type 0
OtherActsChangeNothing =
    (setup : FloorSetup) (acts : List Act) (act : Act) → act.kind ≡ Other →
    KeepsStanding setup acts (with_act acts act)

-- Nor does a packet of one that may not speak, ..
abbrev pub UnheardPacketsChangeNothing : Type 0
UnheardPacketsChangeNothing =
    (setup : FloorSetup) (acts : List Act) (at : ℕ) (k : Member) (p : StreamPacket) →
    ¬ MaySpeak setup acts k → KeepsStanding setup acts (with_act acts (packet_act at k p))

-- .. a Leave of one that is not in, ..
abbrev pub LeavesOfStrangersChangeNothing : Type 0
LeavesOfStrangersChangeNothing =
    (setup : FloorSetup) (acts : List Act) (at : ℕ) (m : Member) →
    its_join setup.places acts m ≡ None →
    KeepsStanding setup acts (with_act acts (leave_act at m))

-- .. or a Join at a place that is none of the module's.
abbrev pub JoinsPastThePlacesChangeNothing : Type 0
JoinsPastThePlacesChangeNothing =
    (setup : FloorSetup) (acts : List Act) (at : ℕ) (k : Member) (listens_only : Bool) →
    setup.places ≤ k.place →
    KeepsStanding setup acts (with_act acts (join_act at k listens_only))

-- A Leave changes nothing of what is kept of the others, ..
abbrev pub LeavesLeaveOthers : Type 0
LeavesLeaveOthers =
    (setup : FloorSetup) (acts : List Act) (at : ℕ) (m k : Member) → k ≢ m →
    MemberKeepsStanding setup acts (with_act acts (leave_act at m)) k

-- .. nor a Join of what is kept of those at other places.
abbrev pub JoinsLeaveOthers : Type 0
JoinsLeaveOthers =
    (setup : FloorSetup) (acts : List Act) (at : ℕ) (m : Member) (listens_only : Bool) (k : Member) →
    k.place ≢ m.place →
    MemberKeepsStanding setup acts (with_act acts (join_act at m listens_only)) k

-- A Join at a place where nobody is in leaves the floor as it is.
abbrev pub JoinsAtAFreePlaceLeaveTheFloor : Type 0
JoinsAtAFreePlaceLeaveTheFloor =
    (setup : FloorSetup) (acts : List Act) (at : ℕ) (m : Member) (listens_only : Bool)
    (floor : FloorState) →
    ((k : Member) → k.place ≡ m.place → its_join setup.places acts k ≡ None) →
    FloorStandsFor setup acts floor →
    FloorStandsFor setup (with_act acts (join_act at m listens_only)) floor

-- the list, and then this member joins to speak at this moment
abbrev pub then_joins : List Act → Member → ℕ → List Act
then_joins acts k at = with_act acts (join_act at k false)

-- Who joins one of the module's places, and not to listen only, may speak.
abbrev pub WhoJoinsMaySpeak : Type 0
WhoJoinsMaySpeak =
    (setup : FloorSetup) (acts : List Act) (k : Member) (at : ℕ) → k.place < setup.places →
    MaySpeak setup (then_joins acts k at) k

-- A Join at another place takes no leave to speak away.
abbrev pub OthersStillMaySpeak : Type 0
OthersStillMaySpeak =
    (setup : FloorSetup) (acts : List Act) (k : Member) (at : ℕ) (m : Member) → m.place ≢ k.place →
    MaySpeak setup acts m → MaySpeak setup (then_joins acts k at) m

-- the position is a packet of this member, and admitted
pub record IsAdmittedPacket (setup : FloorSetup) (acts : List Act) (n : ℕ) (k : Member)
    (p : StreamPacket) : Type 0 where
  pub packet_is : kind_at acts n ≡ Packet k p
  pub admitted : IsAdmitted setup acts n

-- the position is admitted, and opened the floor
abbrev pub IsOpened : FloorSetup → List Act → ℕ → Type 0
IsOpened setup acts n = verdict_at setup acts n ≡ Some Opened

-- no position between the two is admitted
abbrev pub NoneAdmittedBetween : FloorSetup → List Act → ℕ → ℕ → Type 0
NoneAdmittedBetween setup acts a n = (m : ℕ) → a < m → m < n → ¬ IsAdmitted setup acts m

-- the member has been in before position n since before position a
abbrev pub HasStayed : ℕ → List Act → Member → ℕ → ℕ → Type 0
HasStayed places acts k a n = (j : ℕ) × (joined_at places acts k n ≡ Some j) × (j < a)

-- From position o, which was opened, up to position n no other was opened.
pub record IsOneOpening (setup : FloorSetup) (acts : List Act) (o n : ℕ) : Type 0 where
  pub opened : IsOpened setup acts o
  pub no_other : (m : ℕ) → o < m → m ≤ n → ¬ IsOpened setup acts m

-- The two packets are of one member and stream id, and the first doesn't end the stream. If none
-- was admitted between the two, the second's number is ahead of the first's.
pub record GoesOn (setup : FloorSetup) (acts : List Act) (a n : ℕ) (k m : Member)
    (p q : StreamPacket) : Type 0 where
  pub same_member : m ≡ k
  pub same_stream : q.sid ≡ p.sid
  pub not_ended : p.last ≡ false
  pub ahead : NoneAdmittedBetween setup acts a n → IsAhead q.number p.number

-- From an opened position up to the next one, all that is admitted is one stream of one member,
-- with numbers that go ahead, and nothing after its end.
abbrev pub OpeningsAreClean : Type 0
OpeningsAreClean =
    (setup : FloorSetup) (acts : List Act) (o a n : ℕ) (k m : Member) (p q : StreamPacket) →
    IsOneOpening setup acts o n → o ≤ a → a < n →
    IsAdmittedPacket setup acts a k p → IsAdmittedPacket setup acts n m q →
    GoesOn setup acts a n k m p q

-- Where the limit isn't 0, all that is admitted from an opened position up to the next one comes
-- less than the limit after it.
abbrev pub OpeningsEndInTime : Type 0
OpeningsEndInTime =
    (setup : FloorSetup) (acts : List Act) (o n : ℕ) → setup.limit ≢ 0 →
    IsOneOpening setup acts o n → o ≤ n → IsAdmitted setup acts n →
    moment_at acts n < moment_at acts o + setup.limit

-- At position n the limit has run out for the stream of position a: it passed since the last opened
-- position at or below a.
pub record HasTalkedOut (setup : FloorSetup) (acts : List Act) (a n : ℕ) : Type 0 where
  pub limited : setup.limit ≢ 0
  pub o : ℕ
  pub earlier : o ≤ a
  pub opening : IsOneOpening setup acts o a
  pub passed : moment_at acts o + setup.limit ≤ moment_at acts n

-- Where a position is opened, the admitted frame before it, if there is one, had the end bit, or
-- its member has left since, or 1,600 ms or more went by, or the limit has run out since its
-- opening.
abbrev pub FloorsAreTakenFree : Type 0
FloorsAreTakenFree =
    (setup : FloorSetup) (acts : List Act) (a n : ℕ) (k : Member) (p : StreamPacket) →
    IsOpened setup acts n → a < n → IsAdmittedPacket setup acts a k p →
    NoneAdmittedBetween setup acts a n →
    (p.last ≡ true) ⊎ ((¬ HasStayed setup.places acts k a n)
    ⊎ ((moment_at acts a + floor_timeout_ms ≤ moment_at acts n) ⊎ HasTalkedOut setup acts a n))

-- At n the member's last admitted frame since its Join is at position a, and less than 10,000 ms
-- old.
pub record IsLastOwn (setup : FloorSetup) (acts : List Act) (n a : ℕ) (k : Member)
    (frame : StreamPacket) : Type 0 where
  pub earlier : a < n
  pub frame_is : IsAdmittedPacket setup acts a k frame
  pub since_join : HasStayed setup.places acts k a n
  pub none_later : (m : ℕ) (p : StreamPacket) → a < m → m < n → ¬ IsAdmittedPacket setup acts m k p
  pub recent : moment_at acts n < moment_at acts a + stream_memory_ms

-- The frame ended its stream, or is 0 to 16,384 numbers past this one.
abbrev pub HasPassed : StreamPacket → ℕ → Type 0
HasPassed frame number = (frame.last ≡ true) ⊎ (steps_ahead frame.number number ≤ late_from)

-- A packet isn't admitted while its sender's last admitted frame is of its stream, less than 10,000
-- ms old, and has passed its number.
abbrev pub PassedNumbersAreNotAdmitted : Type 0
PassedNumbersAreNotAdmitted =
    (setup : FloorSetup) (acts : List Act) (n b : ℕ) (k : Member) (packet last : StreamPacket) →
    kind_at acts n ≡ Packet k packet → IsLastOwn setup acts n b k last → last.sid ≡ packet.sid →
    HasPassed last packet.number → ¬ IsAdmitted setup acts n

-- Nor is one while that frame is of an opening that has run out the limit: a stream that timed out
-- comes in again 10,000 ms after its last admitted frame, and not before.
abbrev pub TalkedOutStreamsAreNotAdmitted : Type 0
TalkedOutStreamsAreNotAdmitted =
    (setup : FloorSetup) (acts : List Act) (n b : ℕ) (k : Member) (packet last : StreamPacket) →
    kind_at acts n ≡ Packet k packet → IsLastOwn setup acts n b k last → last.sid ≡ packet.sid →
    HasTalkedOut setup acts b n → ¬ IsAdmitted setup acts n

-- The packet at position a was admitted since the Join by which the member is in at position n.
pub record WasAdmittedSince (setup : FloorSetup) (acts : List Act) (n a : ℕ) (k : Member)
    (packet : StreamPacket) : Type 0 where
  pub earlier : a < n
  pub packet_is : IsAdmittedPacket setup acts a k packet
  pub since_join : HasStayed setup.places acts k a n

-- So neither is one with the stream id and number of a packet that was admitted since its sender's
-- Join.
abbrev pub RepeatsAreNotAdmitted : Type 0
RepeatsAreNotAdmitted =
    (setup : FloorSetup) (acts : List Act) (n a b : ℕ) (k : Member) (packet copied last : StreamPacket) →
    kind_at acts n ≡ Packet k packet → WasAdmittedSince setup acts n a k copied →
    copied.sid ≡ packet.sid → copied.number ≡ packet.number →
    IsLastOwn setup acts n b k last → last.sid ≡ packet.sid → HasPassed last packet.number →
    ¬ IsAdmitted setup acts n

-- Where the same acts are of other members, who is in is the same, by the members that stand for
-- the others, ..
abbrev pub RenamingChangesNoMembership : Type 0
RenamingChangesNoMembership =
    (stands : Member → Member → Bool) (places : ℕ) (acts others : List Act) →
    AreFreelyRenamed stands places acts others →
    (k k' : Member) (n : ℕ) → stands k k' ≡ true →
    joined_at places acts k n ≡ joined_at places others k' n

-- .. and so is each verdict, but for the member that has the floor.
abbrev pub RenamingChangesNoVerdict : Type 0
RenamingChangesNoVerdict =
    (stands : Member → Member → Bool) (setup : FloorSetup) (acts others : List Act) →
    AreFreelyRenamed stands setup.places acts others → (n : ℕ) →
    unnamed_verdict (verdict_at setup acts n) ≡ unnamed_verdict (verdict_at setup others n)

-- .. and whether a frame has the floor.
abbrev pub RenamingChangesNoFloor : Type 0
RenamingChangesNoFloor =
    (stands : Member → Member → Bool) (setup : FloorSetup) (acts others : List Act) →
    AreFreelyRenamed stands setup.places acts others → (n at : ℕ) → n ≤ length acts →
    is_none (only_if (has_floor setup.limit at) (floor_frame (past_at setup acts n)))
    ≡ is_none (only_if (has_floor setup.limit at) (floor_frame (past_at setup others n)))
