-- Who is known to a link before a position, looked up in what it heard and in the claims.
use Rattle.std.specs.Prelude.{◌==◌, ◌&&◌, ◌||◌, ℕ, Bool, false, List, length, slice_get, Option, None, Some, unwrap_or, option_and_then, option_map, if◌then◌else◌}
use Rattle.std.specs.List.{filter_map}
use Rattle.m17_values.specs.declared.peer.Peer.{Peer}
use Rattle.m17_control.specs.declared.packet.Packet.{Packet}
use Rattle.m17_control.specs.declared.packet.Packet.TheVariants as packets
use Rattle.m17_control.specs.declared.packet.Control.TheVariants.{Conn, Lstn}
use Rattle.m17_lookup.specs.Lookup.{last_below}
use Rattle.m17_directory.specs.declared.known.Known.{Known}
use Rattle.m17_directory.specs.declared.known.Request.{Request}
use Rattle.m17_directory.specs.Entries.{Notice, Claim, Entry, Setup, notice_at, claim_at, is_from, says_disc, last_heard, is_silent_at, ends_at, peers_named}

-- What is looked back on at a position: the directory's setup, what the link heard, and of each
-- entry before the position whether it asked for a place.
pub record Past : Type 0 where
  pub setup : Setup
  pub entries : List Entry
  pub asked : List Bool

-- the position
abbrev pub now : Past → ℕ
now past = length past.asked

-- the entry at a position before it was from this peer and asked for a place
abbrev pub asks_for : Past → Peer → ℕ → Bool
asks_for past x i = unwrap_or (slice_get past.asked i) false && is_from x (notice_at past.entries i)

-- What turns it whether the peer is known: it asks for a place, it says DISC, it is silent, or the
-- link ends.
abbrev pub turns : Past → Peer → ℕ → Bool
turns past x i = asks_for past x i || says_disc x (notice_at past.entries i)
    || is_silent_at past.entries x i || ends_at past.entries i

-- the claim is one of this place
abbrev pub is_of_place : ℕ → Option Claim → Bool
is_of_place place None = false
is_of_place place (Some claim) = claim.member.place == place

-- the position of the last entry that was given this place
abbrev pub last_given : Past → ℕ → Option ℕ
last_given past place =
    last_below (λ i. is_of_place place (claim_at past.entries i)) (now past)

abbrev pub is_position : ℕ → Option ℕ → Bool
is_position j None = false
is_position j (Some i) = i == j

-- What a packet asks for: a CONN, or a LSTN to listen only.
abbrev pub request_of : Packet → Option Request
request_of (packets.Control (Conn from letter)) =
    Some (record { letter = letter; callsign = from; listen = false })
request_of (packets.Control (Lstn from letter)) =
    Some (record { letter = letter; callsign = from; listen = Bool.true })
request_of _ = None

abbrev pub request_in : Notice → Option Request
request_in (Notice.Sent from at p) = request_of p
request_in _ = None

-- The peer as the table shows it, by what it asked for and was given.
abbrev pub row_of : Past → Peer → Claim → Request → Known
row_of past x claim request = record {
  peer = x;
  member = claim.member;
  letter = request.letter;
  callsign = request.callsign;
  listen = request.listen;
  heard_at = unwrap_or (last_heard past.entries x (now past)) 0;
}

-- the same by the entry at position i: none without a claim, or where its place was given again
abbrev pub row_by : Past → Peer → ℕ → Option Claim → Option Known
row_by past x i None = None
row_by past x i (Some claim) =
    if is_position i (last_given past claim.member.place)
    then option_map (row_of past x claim) (request_in (notice_at past.entries i)) else None

-- The peer, if it is known: what turned it last was an entry at which it asked for a place, and it
-- has the place still.
unfoldable pub row_at : Past → Peer → Option Known
row_at past x =
    option_and_then
    (λ i. if asks_for past x i then row_by past x i (claim_at past.entries i) else None)
    (last_below (turns past x) (now past))

-- All that are known, in order of peers.
unfoldable pub known_at : Past → List Known
known_at past = filter_map (row_at past) (peers_named past.entries (now past))
