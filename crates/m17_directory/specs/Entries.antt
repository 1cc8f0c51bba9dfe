-- What a link heard, entry by entry, and what is looked up in it. Positions count from 0.
use Rattle.std.specs.Prelude.{◌≡◌, ◌⊎◌, ◌&&◌, ◌||◌, ℕ, zero, suc, ◌-◌, Bool, true, false, List, [], ◌∷◌, map, take, fold, max, slice_get, nat_le, Option, None, Some, option_and_then, option_map}
use Rattle.std.specs.List.{list_all, range_with_len}
use Rattle.std.specs.Option.{option_map_or}
use Rattle.std.specs.Ordering.{match_ordering, is_eq}
pub use Rattle.m17_values.specs.Peers.{peer_cmp}
use Rattle.m17_values.specs.declared.heard.Heard.{Heard}
use Rattle.m17_values.specs.declared.heard.Heard.TheVariants as heard
use Rattle.m17_values.specs.declared.member.Member.{Member}
use Rattle.m17_values.specs.declared.peer.Peer.{Peer}
use Rattle.m17_control.specs.declared.packet.Packet.{Packet}
use Rattle.m17_control.specs.declared.packet.Refusal.{Refusal}
use Rattle.m17_control.specs.declared.packet.Packet.TheVariants as packets
use Rattle.m17_control.specs.declared.packet.Control.TheVariants.{Disc}
use Rattle.m17_control.specs.Forms.{Spells, Refuses}
use Rattle.m17_control.specs.declared.modules.Modules.{Modules}
use Rattle.m17_lookup.specs.Lookup.{last_below}

-- What an entry says: a packet from a peer, bytes that are none and why, that time went by, that
-- the socket failed, or that nothing more comes. Moments are milliseconds.
pub data Notice : Type 0 where
  Sent : (from : Peer) (at : ℕ) (packet : Packet) → Notice
  Garbled : (from : Peer) (at : ℕ) (refusal : Refusal) → Notice
  Quiet : (at : ℕ) → Notice
  Fault : Notice
  End : Notice

-- What was heard says this: of a datagram, the packet that its bytes spell, or the first reason why
-- they are none.
abbrev pub Says : Heard → Notice → Type 0
Says (heard.Datagram from at bytes) notice =
    ((p : Packet) × Spells p bytes × (notice ≡ Notice.Sent from at p))
    ⊎ ((r : Refusal) × Refuses bytes r × (notice ≡ Notice.Garbled from at r))
Says (heard.Quiet at) notice = notice ≡ Notice.Quiet at
Says heard.Fault notice = notice ≡ Notice.Fault
Says heard.End notice = notice ≡ Notice.End

-- The place that an entry was given which asked for one, and how many departed members of the link
-- are to be reported before its peer is greeted.
pub record Claim : Type 0 where
  pub member : Member
  pub after : ℕ

-- An entry: what it says, and its claim, if it has one.
pub record Entry : Type 0 where
  pub notice : Notice
  pub claim : Option Claim

-- Each of what was heard says what the entry beside it is.
abbrev pub SaysEach : List Heard → List Entry → Type 0
SaysEach [] [] = Unit {0}
SaysEach [] (entry ∷ entries) = ⊥
SaysEach (h ∷ heard) [] = ⊥
SaysEach (h ∷ heard) (entry ∷ entries) = Says h entry.notice × SaysEach heard entries

-- The number of a link, the reflector's address, how many places there are, and the modules that
-- are served: what its directory is made with.
pub record Setup : Type 0 where
  pub link : ℕ
  pub name : ℕ
  pub places : ℕ
  pub modules : Modules

-- what the entry at a position says; past the end that all is quiet at moment 0, of which nothing comes
abbrev pub notice_of : Option Entry → Notice
notice_of None = Notice.Quiet 0
notice_of (Some entry) = entry.notice

abbrev pub notice_at : List Entry → ℕ → Notice
notice_at entries n = notice_of (slice_get entries n)

-- the claim of the entry at a position, if it has one
abbrev pub claim_at : List Entry → ℕ → Option Claim
claim_at entries n = option_and_then (λ (entry : Entry). entry.claim) (slice_get entries n)

-- the moment that an entry names; 0 of a fault and of the end
abbrev pub moment_of : Notice → ℕ
moment_of (Notice.Sent from at p) = at
moment_of (Notice.Garbled from at refusal) = at
moment_of (Notice.Quiet at) = at
moment_of Notice.Fault = 0
moment_of Notice.End = 0

-- The link's moment before position n: the greatest of entries 0 to n - 1, and 0 without any; and
-- at position n, the greatest of entries 0 to n.
abbrev pub moment_before : List Entry → ℕ → ℕ
moment_before entries n =
    fold max 0 (map (λ (entry : Entry). moment_of entry.notice) (take n entries))

abbrev pub moment_at : List Entry → ℕ → ℕ
moment_at entries n = moment_before entries (suc n)

-- time goes by at the entry: it is a datagram, or quiet
abbrev pub passes_time : Notice → Bool
passes_time Notice.Fault = false
passes_time Notice.End = false
passes_time _ = true

-- the two are one peer
abbrev pub is_peer : Peer → Peer → Bool
is_peer a b = is_eq (peer_cmp a b)

-- the entry is a packet from the peer
abbrev pub is_from : Peer → Notice → Bool
is_from x (Notice.Sent from at p) = is_peer x from
is_from x _ = false

-- the entry is a DISC from the peer, of either length
abbrev pub is_disc : Packet → Bool
is_disc (packets.Control (Disc from)) = true
is_disc _ = false

abbrev pub says_disc : Peer → Notice → Bool
says_disc x (Notice.Sent from at p) = is_peer x from && is_disc p
says_disc x _ = false

-- The moment at which the peer was last heard before position n: the link's moment at the last
-- packet from it there.
unfoldable pub last_heard : List Entry → Peer → ℕ → Option ℕ
last_heard entries x n =
    option_map (moment_at entries) (last_below (λ i. is_from x (notice_at entries i)) n)

-- A peer that was not heard for 30,000 ms leaves.
abbrev pub silence_ms : ℕ
silence_ms = 30000

-- The peer is silent at position n: time goes by there, and it was last heard 30,000 ms before or
-- more.
unfoldable pub is_silent_at : List Entry → Peer → ℕ → Bool
is_silent_at entries x n = passes_time (notice_at entries n)
    && option_map_or (λ at. nat_le silence_ms (moment_at entries n - at))
    (last_heard entries x n) false

-- The link ends at 16 faults in a row.
abbrev pub most_faults : ℕ
most_faults = 16

abbrev pub is_fault : Notice → Bool
is_fault Notice.Fault = true
is_fault _ = false

abbrev pub is_end : Notice → Bool
is_end Notice.End = true
is_end _ = false

-- The link ends at position n: nothing more comes, or the entry is the last of 16 faults in a row.
unfoldable pub ends_at : List Entry → ℕ → Bool
ends_at entries n = is_end (notice_at entries n)
    || (nat_le most_faults (suc n)
    && list_all (λ i. is_fault (notice_at entries i))
    (range_with_len (suc n - most_faults) most_faults))

-- The peers that datagrams before position n came from, each once, in order.
abbrev pub with_peer : Peer → List Peer → List Peer
with_peer x [] = x ∷ []
with_peer x (y ∷ peers) =
    match_ordering (peer_cmp x y) (x ∷ y ∷ peers) (y ∷ peers) (y ∷ with_peer x peers)

abbrev pub with_sender : Notice → List Peer → List Peer
with_sender (Notice.Sent from at p) peers = with_peer from peers
with_sender (Notice.Garbled from at refusal) peers = with_peer from peers
with_sender _ peers = peers

unfoldable pub peers_named : List Entry → ℕ → List Peer
peers_named entries zero = []
peers_named entries (suc n) = with_sender (notice_at entries n) (peers_named entries n)
