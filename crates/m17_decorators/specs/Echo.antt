-- What is an echo. A list `past` is what an ear has heard so far, the latest entry first; moments
-- are milliseconds.
use Rattle.std.specs.Prelude.{◌==◌, ◌&&◌, ◌||◌, ℕ, ◌+◌, ◌-◌, ◌^◌, Bool, true, false, not, List, [], ◌∷◌, length, codes, nat_le, nat_lt, nat_eq, if◌then◌else◌}
use Rattle.std.specs.List.{starts_with}
use Rattle.std.specs.Str.{bytes_eq}
use Rattle.m17_values.specs.declared.heard.Heard.{Heard}
use Rattle.m17_values.specs.declared.heard.Heard.TheVariants.{Datagram, Quiet, Fault, End}
use Rattle.m17_values.specs.declared.peer.Peer.{Peer}
use Rattle.m17_decorators.specs.Frame.{is_frame, same_peer}

-- How many stream packets of a link are remembered, and how long.
abbrev pub most_remembered : ℕ
most_remembered = 16384

abbrev pub longest_ms : ℕ
longest_ms = 10000

-- The bytes of a DISC, with a callsign or without.
abbrev pub is_disc : List ℕ → Bool
is_disc bytes =
    (length bytes == 4 || length bytes == 10) && starts_with nat_eq bytes (codes "DISC")

-- The entry is a stream packet; one of this peer; these bytes of this peer; a stream packet of
-- this peer with other bytes than these; a DISC of this peer.
abbrev pub is_packet : Heard → Bool
is_packet (Datagram from at bytes) = is_frame bytes
is_packet (Quiet at) = false
is_packet Fault = false
is_packet End = false

abbrev pub is_packet_of : Peer → Heard → Bool
is_packet_of peer (Datagram from at bytes) = is_frame bytes && same_peer peer from
is_packet_of peer (Quiet at) = false
is_packet_of peer Fault = false
is_packet_of peer End = false

abbrev pub is_same : Peer → List ℕ → Heard → Bool
is_same peer wanted (Datagram from at bytes) =
    is_frame bytes && (same_peer peer from && bytes_eq bytes wanted)
is_same peer wanted (Quiet at) = false
is_same peer wanted Fault = false
is_same peer wanted End = false

abbrev pub is_another : Peer → List ℕ → Heard → Bool
is_another peer wanted (Datagram from at bytes) =
    is_frame bytes && (same_peer peer from && not (bytes_eq bytes wanted))
is_another peer wanted (Quiet at) = false
is_another peer wanted Fault = false
is_another peer wanted End = false

abbrev pub is_parting : Peer → Heard → Bool
is_parting peer (Datagram from at bytes) = is_disc bytes && same_peer peer from
is_parting peer (Quiet at) = false
is_parting peer Fault = false
is_parting peer End = false

-- What was heard up to the latest entry that passes the test, with that entry; and before it.
abbrev pub up_to : (Heard → Bool) → List Heard → List Heard
up_to test [] = []
up_to test (entry ∷ older) = if test entry then entry ∷ older else up_to test older

abbrev pub older_than : (Heard → Bool) → List Heard → List Heard
older_than test [] = []
older_than test (entry ∷ older) = if test entry then older else older_than test older

-- how many stream packets stand there
abbrev pub packets : List Heard → ℕ
packets [] = 0
packets (entry ∷ older) = (if is_packet entry then 1 else 0) + packets older

-- What was heard up to the last time that the peer sent these bytes before its latest packet with
-- others.
abbrev pub up_to_said : Peer → List ℕ → List Heard → List Heard
up_to_said peer bytes past =
    up_to (is_same peer bytes) (older_than (is_another peer bytes) past)

-- What was heard up to the peer's last stream packet before its latest DISC.
abbrev pub up_to_parted : Peer → List Heard → List Heard
up_to_parted peer past = up_to (is_packet_of peer) (older_than (is_parting peer) past)

-- The first of these entries has its moment at most ten seconds before this one.
abbrev pub is_recent : ℕ → List Heard → Bool
is_recent at (Datagram from moment bytes ∷ older) = nat_le at (moment + longest_ms)
is_recent at _ = false

-- An echo: a stream packet whose very same bytes the peer sent before its latest packet with other
-- bytes, at most ten seconds ago, among the last 16,384 stream packets, and without a DISC of that
-- peer since. (Of a link that has heard 2^64 - 1 stream packets nothing is an echo.)
abbrev pub is_echo : List Heard → Peer → ℕ → List ℕ → Bool
is_echo past peer at bytes =
    let said = up_to_said peer bytes past in
    is_frame bytes && (nat_lt (packets past) (2 ^ 64 - 1)
    && (nat_lt (packets (up_to_parted peer past)) (packets said)
    && (nat_lt (packets past) (packets said + most_remembered) && is_recent at said)))
