-- What a guard remembers. For proofs alone. Stream packets are counted from 1 on: the order of one is
-- how many were heard up to it.
use Rattle.std.specs.Prelude.{◌≡◌, ◌≢◌, ◌==◌, ◌&&◌, ◌⊎◌, ⊤, ℕ, ◌+◌, ◌-◌, ◌^◌, ◌<◌, ◌≤◌, ◌%◌, max, min, Bool, true, false, List, [], ◌∷◌, length, slice_index, slice_index_or, nat_lt, nat_le, All, Option, None, Some, if◌then◌else◌}
use Rattle.std.specs.Str.{bytes_eq}
use Rattle.std.proofs.Common.{set}
use Rattle.std.specs.Int.{w16, to_le_bytes}
use Rattle.std.specs.Hash.DefaultHasher.{write, finish}
use Rattle.std.specs.RandomState.{initial_hasher}
use Rattle.std.specs.declared.random_state.RandomState.{RandomState}
use Rattle.m17_values.specs.declared.heard.Heard.{Heard}
use Rattle.m17_values.specs.declared.heard.Heard.TheVariants.{Datagram, Quiet, Fault, End}
use Rattle.m17_values.specs.declared.peer.Peer.{Peer}
use Rattle.m17_decorators.specs.declared.memory.Memory.{Memory}
use Rattle.m17_decorators.specs.declared.memory.Slot.{Slot}
use Rattle.m17_decorators.specs.Follows.{past_then}
use Rattle.m17_decorators.specs.Echo.{is_echo, is_packet, is_packet_of, is_another, up_to, packets, up_to_said, up_to_parted}
use Rattle.m17_decorators.specs.Frame.{is_frame, same_peer}

-- The bucket of a peer, and that of bytes of a peer.
abbrev pub peer_bucket : RandomState → Peer → ℕ
peer_bucket keys peer =
    finish (write (write (initial_hasher keys) peer.ip) (to_le_bytes w16 peer.port)) % 16384

abbrev pub bytes_bucket : RandomState → Peer → List ℕ → ℕ
bytes_bucket keys peer bytes = finish (write
    (write (write (initial_hasher keys) peer.ip) (to_le_bytes w16 peer.port)) bytes) % 16384

abbrev pub blank : Slot
blank = record {
  from = record { six = false; ip = []; port = 0 };
  at = 0;
  bytes = [];
  parted = 0;
  turned = 0;
  said = 0;
  left = false;
  by_peer = 0;
  by_bytes = 0;
}

-- the slot of the packet of this order
abbrev pub slot_of : List Slot → ℕ → Slot
slot_of slots order = slice_index_or slots (order % 16384) blank

-- The packet of this order is remembered of so many.
pub record IsKept (count order : ℕ) : Type 0 where
  pub some : 0 < order
  pub heard : order ≤ count
  pub late : count < order + 16384

-- One of the remembered packets in this bucket, or none, is named: those behind it are in others.
pub record IsLink (slots : List Slot) (bucket : Slot → ℕ) (count last number link : ℕ)
    : Type 0 where
  pub small : link ≤ last
  pub there : IsKept count link → bucket (slot_of slots link) ≡ number
  pub others : (order : ℕ) → link < order → order ≤ last → IsKept count order
      → bucket (slot_of slots order) ≢ number

-- Each bucket's latest packet is found by its head, and the one before a packet by its link.
pub record AreLinked (slots : List Slot) (count : ℕ) (heads : List ℕ) (bucket : Slot → ℕ)
    (link : Slot → ℕ) : Type 0 where
  pub of_head : (number : ℕ) → number < 16384
      → IsLink slots bucket count count number (slice_index heads number)
  pub of_link : (order : ℕ) → IsKept count order
      → IsLink slots bucket count (order - 1) (bucket (slot_of slots order))
      (link (slot_of slots order))

abbrev pub peer_bucket_of : RandomState → Slot → ℕ
peer_bucket_of keys slot = peer_bucket keys slot.from

abbrev pub bytes_bucket_of : RandomState → Slot → ℕ
bytes_bucket_of keys slot = bytes_bucket keys slot.from slot.bytes

abbrev pub peer_link : Slot → ℕ
peer_link slot = slot.by_peer

abbrev pub bytes_link : Slot → ℕ
bytes_link slot = slot.by_bytes

-- The memory is whole: each of its lists has a place for each number, and packets are found.
pub record IsWhole (m : Memory) : Type 0 where
  pub slots : length m.slots.items ≡ 16384
  pub peers : length m.peers.items ≡ 16384
  pub frames : length m.frames.items ≡ 16384
  pub count : m.count ≤ 2 ^ 64 - 1
  pub ends : m.ends ≤ 2 ^ 64 - 1
  pub by_peer : AreLinked m.slots.items m.count m.peers.items (peer_bucket_of m.keys) peer_link
  pub by_bytes : AreLinked m.slots.items m.count m.frames.items (bytes_bucket_of m.keys) bytes_link

-- The latest remembered packet that passes the test, or 0.
pub record IsLatest (slots : List Slot) (count : ℕ) (test : Slot → Bool) (latest : ℕ)
    : Type 0 where
  pub found : 0 < latest → IsKept count latest × (test (slot_of slots latest) ≡ true)
  pub passed : (order : ℕ) → latest < order → IsKept count order
      → test (slot_of slots order) ≡ false

-- The slot holds a packet of this peer; and of these bytes.
abbrev pub is_of : Peer → Slot → Bool
is_of peer slot = same_peer peer slot.from

abbrev pub is_copy : Peer → List ℕ → Slot → Bool
is_copy peer bytes slot = same_peer peer slot.from && bytes_eq slot.bytes bytes

abbrev pub is_kept : ℕ → ℕ → Bool
is_kept count order = nat_lt 0 order && (nat_le order count && nat_lt count (order + 16384))

-- What a peer's latest packet, if there is one, says of its last packet before its latest DISC, and
-- of its latest packet with other bytes than these; what the latest packet of the same bytes
-- says of the latest one before that; and whether that one tells an echo.
abbrev pub parted_at : List Slot → ℕ → ℕ
parted_at slots latest = if latest == 0 then 0
    else (if (slot_of slots latest).left then latest else (slot_of slots latest).parted)

abbrev pub turned_at : List Slot → ℕ → List ℕ → ℕ
turned_at slots latest bytes = if latest == 0 then 0
    else (if bytes_eq (slot_of slots latest).bytes bytes
    then (slot_of slots latest).turned else latest)

abbrev pub said_at : List Slot → ℕ → ℕ → ℕ
said_at slots same turned =
    if nat_lt turned same then (slot_of slots same).said else same

abbrev pub is_echo_at : List Slot → ℕ → ℕ → ℕ → ℕ → Bool
is_echo_at slots count parted said at = nat_lt parted said
    && (is_kept count said && nat_le (at - 10000) (slot_of slots said).at)

-- What was heard up to the packet of this order.
abbrev pub at_order : ℕ → List Heard → List Heard
at_order order [] = []
at_order order (entry ∷ older) = if is_packet entry
    then (if packets older + 1 == order then entry ∷ older else at_order order older)
    else at_order order older

-- Of so many packets these are the same orders, as far as they are remembered.
abbrev pub Agree : ℕ → ℕ → ℕ → Type 0
Agree count a b = max a (count - 16384) ≡ max b (count - 16384)

-- The slot holds the packet of this order, and what was so when it came; and whether its peer has
-- left since, where none of its packets came since.
pub record IsRecord (count order : ℕ) (past : List Heard) (slot : Slot) : Type 0 where
  pub older : List Heard
  pub there : at_order order past ≡ Datagram slot.from slot.at slot.bytes ∷ older
  pub parted : Agree count slot.parted (packets (up_to_parted slot.from older))
  pub turned : Agree count slot.turned
      (packets (up_to (is_another slot.from slot.bytes) older))
  pub said : Agree count slot.said (packets (up_to_said slot.from slot.bytes older))
  pub left : packets (up_to (is_packet_of slot.from) past) ≡ order
      → packets (up_to_parted slot.from past)
      ≡ (if slot.left then order else packets (up_to_parted slot.from older))

-- The memory has these packets and DISCs as its past.
pub record Recalls (m : Memory) (past : List Heard) : Type 0 where
  pub count : m.count ≡ min (packets past) (2 ^ 64 - 1)
  pub each : packets past < 2 ^ 64 - 1 → (order : ℕ) → IsKept m.count order
      → IsRecord m.count order past (slot_of m.slots.items order)

-- How many of the latest entries are Ends.
abbrev pub last_ends : List Heard → ℕ
last_ends [] = 0
last_ends (Datagram from at bytes ∷ older) = 0
last_ends (Quiet at ∷ older) = 0
last_ends (Fault ∷ older) = 0
last_ends (End ∷ older) = last_ends older + 1

-- The memory has these as its past.
pub record Remembers (m : Memory) (past : List Heard) : Type 0 where
  pub recalls : Recalls m past
  pub ends : m.ends ≡ min (last_ends past) (2 ^ 64 - 1)

-- the slot of a packet whose peer has left
abbrev pub with_left_slot : Slot → Slot
with_left_slot slot = record slot { left = true }

abbrev pub with_left : List Slot → ℕ → List Slot
with_left slots latest = set slots (latest % 16384) (with_left_slot (slot_of slots latest))

-- The peer's latest packet, if there is one, says that the peer has left.
pub record HasLeft (peer : Peer) (old new : Memory) : Type 0 where
  pub latest : ℕ
  pub is_latest : IsLatest old.slots.items old.count (is_of peer) latest
  pub count : new.count ≡ old.count
  pub slots : new.slots.items
      ≡ (if latest == 0 then old.slots.items else with_left old.slots.items latest)

-- The slot is that of the next packet.
pub record HasPut (slot : Slot) (old new : Memory) : Type 0 where
  pub count : new.count ≡ old.count + 1
  pub slots : new.slots.items ≡ set old.slots.items ((old.count + 1) % 16384) slot

-- Whether the entry is an echo.
abbrev pub echoes : List Heard → Heard → Bool
echoes past (Datagram from at bytes) = is_echo past from at bytes
echoes past (Quiet at) = false
echoes past Fault = false
echoes past End = false

-- A memory, if there is one, has what the ear told as its past.
abbrev pub IsInStep : Option Memory → Option (List Heard) → Type 0
IsInStep None told = ⊤
IsInStep (Some m) told = IsWhole m
    × ((said : List Heard) → told ≡ Some said → Remembers m (past_then [] said))

-- Each memory is one of nothing.
abbrev pub AreNew : List Memory → Type 0
AreNew memories = All (λ m. IsWhole m × Remembers m []) memories
