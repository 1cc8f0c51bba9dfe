-- What each mouth was to say, peer by peer, and that it said it.
use Rattle.std.specs.Prelude.{◌≡◌, ◌==◌, ℕ, List, [], ◌∷◌, length, map, filter, unwrap_or, Option, Some, if◌then◌else◌}
use Rattle.std.specs.List.{AllZip, flat_map, position, range_with_len}
use Rattle.m17_values.specs.declared.peer.Peer.{Peer}
use Rattle.m17_ports.specs.Mouth.{Datagram, MouthTold, SaidOf}
use Rattle.m17_control.specs.declared.item.Item.{Item}
use Rattle.m17_control.specs.declared.modules.Modules.{Modules}
use Rattle.m17_control.specs.declared.packet.Packet.{Packet}
use Rattle.m17_control.specs.declared.packet.Packet.TheVariants as packets
use Rattle.m17_control.specs.Forms.{Spells}
use Rattle.m17_control.specs.Modules.{letters_of}
use Rattle.m17_directory.specs.declared.known.Request.{Request}
use Rattle.m17_directory.specs.Entries.{Notice, Claim, Entry, Setup, notice_at, claim_at, is_peer}
use Rattle.m17_directory.specs.Known.{request_in}
use Rattle.m17_directory.specs.Routed.{past_at, asks_at, direct_replies}
use Rattle.m17_lane.specs.Ends.{TrailEnd}
use Rattle.m17_sender.specs.Orders.{IsShuffle}
use Rattle.m17_sender.specs.Joined.{Queues, Joined, goes_to, items_of, packets_of}
use Rattle.m17_sender.specs.Laws.{bytes_to}
use Rattle.m17_reflect.specs.Links.{Link, At, link_setup}
use Rattle.m17_reflect.specs.Run.{Run}
use Rattle.m17_reflect.specs.Places.{AreSame}
use Rattle.m17_reflect.specs.Queues.{all_carried, carried}

-- The number of the module with this letter: how many served letters stand before it.
abbrev pub number_of : Modules → ℕ → ℕ
number_of modules letter = unwrap_or (position (λ other. other == letter) (letters_of modules)) 0

-- The membership that an entry of the peer began, if it asked for a place and has a claim: its
-- module, its member, and how many notes its Hello waits for.
abbrev pub joined_by : Modules → Peer → Notice → Option Request → Option Claim → List Joined
joined_by modules x (Notice.Sent from at p) (Some request) (Some claim) =
    if is_peer x from
    then record {
      m = number_of modules request.letter;
      member = claim.member;
      after = claim.after;
    } ∷ []
    else []
joined_by modules x _ _ _ = []

abbrev pub joined_at : Setup → List Entry → Peer → ℕ → List Joined
joined_at setup entries x n =
    if asks_at (past_at setup entries n)
    then joined_by setup.modules x (notice_at entries n) (request_in (notice_at entries n))
    (claim_at entries n) else []

-- The memberships of a peer on a link, in the order of the entries that began them.
unfoldable pub memberships : Setup → List Entry → Peer → List Joined
memberships setup entries x =
    flat_map (joined_at setup entries x) (range_with_len 0 (length entries))

-- The datagrams to a peer are those of its direct replies, and of what its memberships have in
-- their queues, one membership after another: one order of the two. Each spells its packet. M17
-- Protocol Specification, IP networking; the forms of control packets are this profile's.
pub record IsToldAs (setup : Setup) (entries : List Entry) (queues : Queues) (x : Peer)
    (attempts : List Datagram) : Type 0 where
  pub told : List Packet
  pub order : IsShuffle (map packets.Control (direct_replies setup entries x))
      (packets_of setup.name (flat_map (items_of queues) (memberships setup entries x))) told
  pub spelled : AllZip Spells told (bytes_to (is_peer x) attempts)

-- The datagrams that a link's mouth was to say: those to each peer are what that peer is to be told (`IsToldAs`), and
-- so a peer that is to be told nothing has none. The mouth said them in order, all but those that it lost; its count of
-- faults rose by as many as were lost, or more.
pub record Sends {L : Type 0} (setup : Setup) (entries : List Entry) (queues : Queues)
    (before after : MouthTold L) : Type 0 where
  pub attempts : List Datagram
  pub to_each : (x : Peer) → IsToldAs setup entries queues x attempts
  pub said : SaidOf before attempts after

-- All that the queues carry for a peer of this link is for its memberships there, each item once.
abbrev pub IsForMemberships : Setup → List Entry → List (List (TrailEnd Item)) → Peer → Type 0
IsForMemberships setup entries queues x =
    AreSame (filter (goes_to setup.link (is_peer x)) (all_carried queues))
    (flat_map (items_of (carried queues)) (memberships setup entries x))

-- Each link's mouth says what the link answers, and what its members have in their queues, which is
-- all that the queues carry for them.
pub record MouthsSay {E M B : Type 0} (run : Run E M B) (links : List Link) : Type 0 where
  pub count : length run.after.mouths ≡ length links
  pub each : (i : ℕ) (link : Link) (before after : MouthTold M) → At links i link →
      At run.before.mouths i before → At run.after.mouths i after →
      Sends (link_setup run.plan i) link.entries (carried run.handed.queues) before after
  pub shares : (i : ℕ) (link : Link) (x : Peer) → At links i link →
      IsForMemberships (link_setup run.plan i) link.entries run.handed.queues x
