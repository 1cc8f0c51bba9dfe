-- What follows from the definitions for every list of events.
use Rattle.std.specs.Prelude.{◌≡◌, ◌↔◌, ℕ, ◌<◌, ◌≤◌, ◌⊎◌, ◌&&◌, Bool, true, false, not, List, [], ◌∷◌, ◌++◌, length, filter, slice_get, is_some, Option, None, Some}
use Rattle.std.specs.List.{All, Contains, filter_map, flat_map, range_with_len}
use Rattle.m17_values.specs.declared.member.Member.{Member}
use Rattle.m17_values.specs.declared.peer.Peer.{Peer}
use Rattle.m17_stream.specs.declared.packet.StreamPacket.{StreamPacket}
use Rattle.m17_control.specs.declared.event.Event.{Event}
use Rattle.m17_control.specs.declared.event.Body.{Body}
use Rattle.m17_control.specs.declared.event.Body.TheVariants.{Join, Packet}
use Rattle.m17_control.specs.declared.item.Item.{Item}
use Rattle.m17_control.specs.declared.item.Said.{Said}
use Rattle.m17_control.specs.declared.item.Said.TheVariants as said
use Rattle.m17_floor.specs.declared.verdict.Verdict.{Verdict}
use Rattle.m17_floor.specs.declared.verdict.Verdict.TheVariants.{Busy, Late}
use Rattle.m17_control.specs.Renamed.{AreRenamedEvents, TakeFreePlaces, packet_reaching}
use Rattle.m17_floor.specs.Acts.{is_join_of, settles, kind_at, joined_at}
use Rattle.m17_floor.specs.Floor.{is_packet_of, admits, verdict_at}
use Rattle.m17_floor.specs.Renamed.{IsOneToOne, unnamed_verdict}
use Rattle.m17_module.specs.declared.seat.Seat.{Seat}
use Rattle.m17_module.specs.Events.{acts_of}
use Rattle.m17_module.specs.Seats.{seats_at, seat_of}
use Rattle.m17_module.specs.Echoes.{echo_at}
use Rattle.m17_module.specs.Setup.{Setup, floor_setup}
use Rattle.m17_module.specs.Items.{item_to, to_one, echoes_at, frames_for, items_at, items_given, is_for, items_for}

-- What comes later changes nothing of what an event gives.
abbrev pub LaterEventsChangeNoItems : Type 0
LaterEventsChangeNoItems =
    (setup : Setup) (events more : List Event) (n : ℕ) → n < length events →
    items_at setup (events ++ more) n ≡ items_at setup events n

-- One event more gives what it gives at its position, behind all that was given before.
abbrev pub OneEventMoreGives : Type 0
OneEventMoreGives =
    (setup : Setup) (events : List Event) (event : Event) →
    items_given setup (events ++ event ∷ [])
    ≡ items_given setup events ++ items_at setup (events ++ event ∷ []) (length events)

-- The same of each member's share.
abbrev pub OneEventMoreIsShared : Type 0
OneEventMoreIsShared =
    (setup : Setup) (events : List Event) (event : Event) (k : Member) →
    items_for setup (events ++ event ∷ []) k
    ≡ items_for setup events k
    ++ filter (is_for k) (items_at setup (events ++ event ∷ []) (length events))

-- A member hears a position: it is in before it, and the packet there is admitted and not its own.
abbrev pub hears : Setup → List Event → Member → ℕ → Bool
hears setup events k n =
    is_some (joined_at setup.places (acts_of events) k n)
    && (admits (verdict_at (floor_setup setup) (acts_of events) n)
    && not (is_packet_of k (kind_at (acts_of events) n)))

-- The positions that a member hears, rising.
abbrev pub heard : Setup → List Event → Member → List ℕ
heard setup events k = filter (hears setup events k) (range_with_len 0 (length events))

-- The packet as the member is sent it; nothing of any other event.
abbrev pub frame_of_body : ℕ → List Event → Member → ℕ → Body → List Item
frame_of_body places events k n (Packet m p) =
    to_one (said.Frame n p) (seat_of (seats_at places events n) k)
frame_of_body places events k n _ = []

-- The packet of a position as the member is sent it: with the position, to the link and peer of its Join.
abbrev pub frame_by : ℕ → List Event → Member → ℕ → Option Event → List Item
frame_by places events k n None = []
frame_by places events k n (Some event) = frame_of_body places events k n event.body

abbrev pub frame_sent : ℕ → List Event → Member → ℕ → List Item
frame_sent places events k n = frame_by places events k n (slice_get events n)

-- The frames for a member are those of the positions that it hears, in their order, and each is one.
abbrev pub FramesAreThoseHeard : Type 0
FramesAreThoseHeard =
    (setup : Setup) (events : List Event) (k : Member) →
    frames_for setup events k
    ≡ flat_map (frame_sent setup.places events k) (heard setup events k)

abbrev pub EachHeardIsSentOnce : Type 0
EachHeardIsSentOnce =
    (setup : Setup) (events : List Event) (k : Member) (n : ℕ) → hears setup events k n ≡ true →
    length (frame_sent setup.places events k n) ≡ 1

-- An echo that a parrot module has at a position is one item, to its member, which is in: with the position and the
-- packet, to the link and peer of its Join.
abbrev pub EachEchoIsSentOnce : Type 0
EachEchoIsSentOnce =
    (setup : Setup) (events : List Event) (n : ℕ) (echo : Member × StreamPacket) →
    setup.parrot ≡ true → echo_at setup (acts_of events) n ≡ Some echo →
    (seat : Seat) × (seat_of (seats_at setup.places events n) echo.0 ≡ Some seat)
    × (echoes_at setup events n ≡ item_to (said.Echo n echo.1) seat ∷ [])

-- A Hello, and a Bye.
abbrev pub is_hello : Said → Bool
is_hello (said.Hello after) = true
is_hello _ = false

abbrev pub is_bye : Said → Bool
is_bye (said.Bye why) = true
is_bye _ = false

-- The position is a Join of the member.
abbrev pub joins : List Event → Member → ℕ → Bool
joins events k n = is_join_of k (kind_at (acts_of events) n)

-- No two positions are Joins of the member.
abbrev pub JoinsOnce : List Event → Member → Type 0
JoinsOnce events k = (i j : ℕ) → joins events k i ≡ true → joins events k j ≡ true → i ≡ j

-- No event strictly between the two positions is a Leave of the member or a Join at its place.
abbrev pub StaysBetween : List Event → Member → ℕ → ℕ → Type 0
StaysBetween events k j n =
    (i : ℕ) → j < i → i < n → settles k (kind_at (acts_of events) i) ≡ false

-- A member that joins once, at one of the module's places, is in exactly behind its Join and up to the event that ends
-- its membership, that event too.
abbrev pub InFromJoinToEnd : Type 0
InFromJoinToEnd =
    (places : ℕ) (events : List Event) (k : Member) (j n : ℕ) → JoinsOnce events k →
    joins events k j ≡ true → k.place < places →
    (is_some (joined_at places (acts_of events) k n) ≡ true) ↔ ((j < n) × StaysBetween events k j n)

-- Among the items is a Bye to the member.
pub record HasBye (items : List Item) (k : Member) : Type 0 where
  pub bye : Item
  pub there : Contains items bye
  pub to_it : bye.member ≡ k
  pub says_bye : is_bye bye.body ≡ true

-- A member that joins once, at one of the module's places, is told a Bye at the first position behind its Join that is
-- a Leave of it or a Join at its place.
abbrev pub WhoIsSettledIsToldABye : Type 0
WhoIsSettledIsToldABye =
    (setup : Setup) (events : List Event) (k : Member) (j n : ℕ) → JoinsOnce events k →
    joins events k j ≡ true → k.place < setup.places → j < n → StaysBetween events k j n →
    settles k (kind_at (acts_of events) n) ≡ true → HasBye (items_at setup events n) k

-- The items begin with their only Hello, and nothing follows a Bye.
pub record IsLife (items : List Item) : Type 0 where
  pub first : Item
  pub rest : List Item
  pub items_are : items ≡ first ∷ rest
  pub hello : is_hello first.body ≡ true
  pub no_other : filter (λ item. is_hello item.body) rest ≡ []
  pub bye_is_last : (front after : List Item) (bye : Item) → items ≡ front ++ bye ∷ after →
      is_bye bye.body ≡ true → after ≡ []

-- The share of a member that joins once, at one of the module's places, begins with its only Hello, and nothing
-- follows its Bye; one that never joins there gets nothing.
abbrev pub ShareIsALife : Type 0
ShareIsALife =
    (setup : Setup) (events : List Event) (k : Member) (j : ℕ) → JoinsOnce events k →
    joins events k j ≡ true → k.place < setup.places → IsLife (items_for setup events k)

abbrev pub WhoNeverJoinsGetsNothing : Type 0
WhoNeverJoinsGetsNothing =
    (setup : Setup) (events : List Event) (k : Member) →
    ((j : ℕ) → joins events k j ≡ false) ⊎ (setup.places ≤ k.place) → items_for setup events k ≡ []

-- Each item is for a member at one of the module's places.
abbrev pub ItemsAreAtPlaces : Type 0
ItemsAreAtPlaces =
    (setup : Setup) (events : List Event) (n : ℕ) →
    All (λ item. item.member.place < setup.places) (items_at setup events n)

-- Where each event's link is below a number, each item's link is.
abbrev pub ItemsKeepLinks : Type 0
ItemsKeepLinks =
    (setup : Setup) (events : List Event) (n links : ℕ) →
    All (λ event. event.tag.link < links) events →
    All (λ item. item.link < links) (items_at setup events n)

-- An item follows a Join of its member: it goes to the peer that the Join names, by the link of its event, and where
-- it is a Hello, it waits for as many notes as the Join says.
pub record FollowsJoin (events : List Event) (item : Item) : Type 0 where
  pub position : ℕ
  pub event : Event
  pub callsign : ℕ
  pub listens : Bool
  pub after : ℕ
  pub there : slice_get events position ≡ Some event
  pub body : event.body ≡ Join item.member item.peer callsign listens after
  pub link : event.tag.link ≡ item.link
  pub waits : (number : ℕ) → item.body ≡ said.Hello number → number ≡ after

-- Each item that a position gives follows a Join of its member, and so does each of all that are
-- given.
pub record ItemsFollowTheirJoins : Type 0 where
  pub at : (setup : Setup) (events : List Event) (n : ℕ) →
      All (FollowsJoin events) (items_at setup events n)
  pub given : (setup : Setup) (events : List Event) →
      All (FollowsJoin events) (items_given setup events)

-- If the event is a packet, its number is below 32,768.
abbrev pub IsNumbered : Body → Type 0
IsNumbered (Packet k p) = p.number < 32768
IsNumbered _ = Unit {0}

-- The value of a verdict in a module of `places` places: a Busy's holder is at one of them, and a Late's number is below
-- 32,768.
abbrev pub FitsIn : ℕ → Verdict → Type 0
FitsIn places (Busy holder) = holder.place < places
FitsIn places (Late last) = last < 32768
FitsIn places _ = Unit {0}

-- Where each packet's number is below 32,768, the value of each verdict fits.
abbrev pub VerdictsFit : Type 0
VerdictsFit =
    (setup : Setup) (events : List Event) (n : ℕ) (verdict : Verdict) →
    All (λ event. IsNumbered event.body) events →
    verdict_at (floor_setup setup) (acts_of events) n ≡ Some verdict → FitsIn setup.places verdict

-- Two lists of events, the same but for the members: one for one, each of whom joins at a place of the module that
-- whoever had it before has left.
pub record AreFreelyRenamed (stands : Member → Member → Bool) (places : ℕ)
    (events others : List Event) : Type 0 where
  pub one_to_one : IsOneToOne stands
  pub renamed : AreRenamedEvents stands events others
  pub free : TakeFreePlaces places events
  pub free_others : TakeFreePlaces places others

-- So it doesn't matter which places are given: the same packets, in the same order, reach each peer, or whichever peers
-- are asked of together, ..
abbrev pub RenamingChangesNothingSaid : Type 0
RenamingChangesNothingSaid =
    (stands : Member → Member → Bool) (setup : Setup) (events others : List Event) →
    AreFreelyRenamed stands setup.places events others → (these : Peer → Bool) (name : ℕ) →
    filter_map (packet_reaching these name) (items_given setup events)
    ≡ filter_map (packet_reaching these name) (items_given setup others)

-- .. and each packet gets the same verdict, but for the member that has the floor.
abbrev pub RenamingChangesNoVerdict : Type 0
RenamingChangesNoVerdict =
    (stands : Member → Member → Bool) (setup : Setup) (events others : List Event) →
    AreFreelyRenamed stands setup.places events others → (n : ℕ) →
    unnamed_verdict (verdict_at (floor_setup setup) (acts_of events) n)
    ≡ unnamed_verdict (verdict_at (floor_setup setup) (acts_of others) n)
