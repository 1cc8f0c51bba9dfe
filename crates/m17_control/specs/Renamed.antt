-- The same events of other members, and what of a module's items reaches some peers.
use Rattle.std.specs.Prelude.{◌≡◌, ℕ, ◌<◌, Bool, true, List, Option, None, Some, slice_get, option_and_then, if◌then◌else◌}
use Rattle.std.specs.List.{AllZip}
use Rattle.m17_values.specs.declared.member.Member.{Member}
use Rattle.m17_values.specs.declared.peer.Peer.{Peer}
use Rattle.m17_control.specs.declared.event.Body.{Body}
use Rattle.m17_control.specs.declared.event.Body.TheVariants.{Join, Leave, Reply, Tick, Stop}
use Rattle.m17_control.specs.declared.event.Body.TheVariants as body
use Rattle.m17_control.specs.declared.event.Event.{Event}
use Rattle.m17_control.specs.declared.item.Item.{Item}
use Rattle.m17_control.specs.declared.packet.Packet.{Packet}
use Rattle.m17_control.specs.Spelled.{packet_said}

-- The same happens, to the member that stands for the other; only what its greeting waits for may differ.
abbrev pub IsRenamedBody : (Member → Member → Bool) → Body → Body → Type 0
IsRenamedBody stands (Join k x callsign listen after) (Join k' x' callsign' listen' after') =
    (stands k k' ≡ true) × (x ≡ x') × (callsign ≡ callsign') × (listen ≡ listen')
IsRenamedBody stands (Leave k why) (Leave k' why') = (stands k k' ≡ true) × (why ≡ why')
IsRenamedBody stands (body.Packet k p) (body.Packet k' p') = (stands k k' ≡ true) × (p ≡ p')
IsRenamedBody stands (Reply k control) (Reply k' control') =
    (stands k k' ≡ true) × (control ≡ control')
IsRenamedBody stands Tick Tick = Unit {0}
IsRenamedBody stands Stop Stop = Unit {0}
IsRenamedBody stands _ _ = ⊥

-- The same event, at the same moment and of the same entry, of the member that stands for the other.
pub record IsRenamedEvent (stands : Member → Member → Bool) (event other : Event) : Type 0 where
  pub tag : event.tag ≡ other.tag
  pub at : event.at ≡ other.at
  pub what : IsRenamedBody stands event.body other.body

-- The same events in the same order.
abbrev pub AreRenamedEvents : (Member → Member → Bool) → List Event → List Event → Type 0
AreRenamedEvents stands events others = AllZip (IsRenamedEvent stands) events others

-- The member, if this is its Join; and its Leave; and the same of the event at a position.
abbrev pub joiner_of : Body → Option Member
joiner_of (Join k x callsign listen after) = Some k
joiner_of _ = None

abbrev pub leaver_of : Body → Option Member
leaver_of (Leave k why) = Some k
leaver_of _ = None

abbrev pub joiner_at : List Event → ℕ → Option Member
joiner_at events n = option_and_then (λ (event : Event). joiner_of event.body) (slice_get events n)

abbrev pub leaver_at : List Event → ℕ → Option Member
leaver_at events n = option_and_then (λ (event : Event). leaver_of event.body) (slice_get events n)

-- The member leaves between the two positions.
pub record LeavesBetween (events : List Event) (k : Member) (i n : ℕ) : Type 0 where
  pub at : ℕ
  pub behind : i < at
  pub before : at < n
  pub leaves : leaver_at events at ≡ Some k

-- Who joins takes one of the places, and whoever joined at it before has left in between.
pub record TakeFreePlaces (places : ℕ) (events : List Event) : Type 0 where
  pub below : (n : ℕ) (k : Member) → joiner_at events n ≡ Some k → k.place < places
  pub left : (i n : ℕ) (m k : Member) → i < n → joiner_at events i ≡ Some m →
      joiner_at events n ≡ Some k → m.place ≡ k.place → LeavesBetween events m i n

-- The packet that an item is as it reaches one of these peers, in the name of the reflector.
abbrev pub packet_reaching : (Peer → Bool) → ℕ → Item → Option Packet
packet_reaching these name item =
    if these item.peer then packet_said item.body name else None
