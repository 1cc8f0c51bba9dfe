-- A replay: what one link heard, judged in one thread, with places given as a patient reflector gives them.
use Rattle.std.specs.Prelude.{◌≡◌, ◌==◌, ◌&&◌, ℕ, ◌-◌, ◌^◌, ◌<◌, Bool, true, false, List, ◌++◌, length, map, min, count_by, nat_lt, slice_get, Option, None, Some, option_and_then, MatchBool, if◌then◌else◌}
use Rattle.std.specs.List.{filter_map, flat_map, list_any, range_with_len}
use Rattle.m17_values.specs.declared.heard.Heard.{Heard}
use Rattle.m17_values.specs.declared.peer.Peer.{Peer}
use Rattle.m17_control.specs.declared.event.Body.{Body}
use Rattle.m17_control.specs.declared.event.Body.TheVariants as body
use Rattle.m17_control.specs.declared.event.Event.{Event}
use Rattle.m17_control.specs.declared.item.Item.{Item}
use Rattle.m17_control.specs.declared.packet.Control.TheVariants as control
use Rattle.m17_control.specs.declared.packet.Packet.{Packet}
use Rattle.m17_control.specs.declared.packet.Packet.TheVariants as packets
use Rattle.m17_control.specs.Modules.{letters_of}
use Rattle.m17_control.specs.Spelled.{packet_said}
use Rattle.m17_floor.specs.declared.verdict.Verdict.{Verdict}
use Rattle.m17_floor.specs.Floor.{verdict_at}
use Rattle.m17_module.specs.Events.{acts_of}
use Rattle.m17_module.specs.Setup.{floor_setup}
use Rattle.m17_module.specs.Items as module_items
use Rattle.m17_lookup.specs.Lookup.{last_below}
use Rattle.m17_ports.specs.declared.tally.Tally.{Tally}
use Rattle.m17_ports.specs.Tallies.{no_tally}
use Rattle.m17_port_memory.specs.Kept.{TalliesKept}
use Rattle.m17_port_memory.specs.Peers.{tally_at}
use Rattle.m17_directory.specs.declared.known.Known.{Known}
use Rattle.m17_directory.specs.declared.verdict.LinkVerdict.{LinkVerdict}
use Rattle.m17_directory.specs.declared.verdict.LinkVerdict.TheVariants.{Routed}
use Rattle.m17_directory.specs.declared.verdict.Act.TheVariants as act
use Rattle.m17_directory.specs.Entries.{Claim, Entry, Setup, SaysEach, claim_at, ends_at, is_peer}
use Rattle.m17_directory.specs.Known.{is_of_place}
use Rattle.m17_directory.specs.Laws.{EndsOnce}
use Rattle.m17_directory.specs.Outcome.{has_place}
use Rattle.m17_directory.specs.Routed.{past_at, asks_at, others_at, link_verdict, routed, direct_replies}
use Rattle.m17_plan.specs.declared.plan.Plan.{Plan}
use Rattle.m17_plan.specs.Planned.{setup_of, module_setup}

-- What was heard has an entry that ends the link, whatever claims are given.
abbrev pub EndsSomewhere : List Heard → Type 0
EndsSomewhere heard = (entries : List Entry) → SaysEach heard entries →
    (n : ℕ) × (n < length entries) × (ends_at entries n ≡ true)

-- The place is the least that none of these has.
pub record IsLeastFree (rows : List Known) (place : ℕ) : Type 0 where
  pub free : list_any (has_place place) rows ≡ false
  pub least : (lower : ℕ) → lower < place → list_any (has_place lower) rows ≡ true

-- how many of the first n entries were given this place
abbrev pub given_before : List Entry → ℕ → ℕ → ℕ
given_before entries place n =
    count_by (λ i. is_of_place place (claim_at entries i)) (range_with_len 0 n)

-- The claim of an entry that asks where a place is free: the least that none of the others has, with the number of
-- earlier claims of it as generation; its peer is greeted at once.
pub record IsFreeClaim (others : List Known) (entries : List Entry) (n : ℕ)
    (claim : Option Claim) : Type 0 where
  pub it : Claim
  pub is_it : claim ≡ Some it
  pub place : IsLeastFree others it.member.place
  pub generation : it.member.generation ≡ given_before entries it.member.place n
  pub after : it.after ≡ 0

-- The entry at position n has a claim exactly where it asks and the others that are still known are fewer than the
-- places, and then the claim of a free place.
abbrev pub IsChosenAt : Setup → List Entry → ℕ → Type 0
IsChosenAt setup entries n =
    MatchBool (asks_at (past_at setup entries n)
    && nat_lt (length (others_at (past_at setup entries n))) setup.places)
    (IsFreeClaim (others_at (past_at setup entries n)) entries n (claim_at entries n))
    (claim_at entries n ≡ None)

-- The entries of a replay: what was heard up to the first entry that ends the link, with the claims so chosen.
pub record IsReplayOf (plan : Plan) (heard : List Heard) (entries : List Entry) : Type 0 where
  pub front : List Heard
  pub rest : List Heard
  pub heard_is : heard ≡ front ++ rest
  pub says : SaysEach front entries
  pub ends : EndsOnce entries
  pub chosen : (n : ℕ) → n < length entries → IsChosenAt (setup_of plan) entries n

-- The verdict of each entry.
abbrev pub verdicts_of : Plan → List Entry → List LinkVerdict
verdicts_of plan entries =
    map (link_verdict (setup_of plan) entries) (range_with_len 0 (length entries))

-- the event is the packet of the entry with this index
abbrev pub is_packet_body : Body → Bool
is_packet_body (body.Packet k p) = true
is_packet_body _ = false

abbrev pub is_packet_from : ℕ → Option Event → Bool
is_packet_from n None = false
is_packet_from n (Some event) = event.tag.index == n && is_packet_body event.body

-- the floor rule's verdict on the packet of the entry with this index, in a module that was made so, with these events
abbrev pub verdict_among : module_items.Setup → ℕ → List Event → Option Verdict
verdict_among made n events =
    option_and_then (verdict_at (floor_setup made) (acts_of events))
    (last_below (λ i. is_packet_from n (slice_get events i)) (length events))

-- The floor rule's verdict on the packet of an entry, where it was routed to a module as one.
abbrev pub verdict_routed : Plan → List Entry → ℕ → LinkVerdict → Option Verdict
verdict_routed plan entries n (Routed letter act.Packet) =
    verdict_among (module_setup plan letter) n (routed (setup_of plan) entries letter)
verdict_routed plan entries n _ = None

unfoldable pub packet_verdict : Plan → List Entry → ℕ → Option Verdict
packet_verdict plan entries n =
    verdict_routed plan entries n (link_verdict (setup_of plan) entries n)

abbrev pub packet_verdicts_of : Plan → List Entry → List (Option Verdict)
packet_verdicts_of plan entries =
    map (packet_verdict plan entries) (range_with_len 0 (length entries))

-- What the entry at a position came to: the link's verdict, and the floor rule's on its packet.
abbrev pub Outcome : Type 0
Outcome = LinkVerdict × Option Verdict

abbrev pub outcome_of : Plan → List Entry → ℕ → Outcome
outcome_of plan entries n =
    (link_verdict (setup_of plan) entries n, packet_verdict plan entries n)

-- What a module says to a peer: the packets of the items that it gives to the peer's members.
abbrev pub packet_to : Peer → ℕ → Item → Option Packet
packet_to x name item = if is_peer x item.peer then packet_said item.body name else None

abbrev pub said_by_module : Plan → List Entry → Peer → ℕ → List Packet
said_by_module plan entries x letter =
    filter_map (packet_to x plan.name) (module_items.items_given (module_setup plan letter)
    (routed (setup_of plan) entries letter))

-- All that is said to a peer: past all modules, and by each module; in a tally their order does not matter.
unfoldable pub said_to : Plan → List Entry → Peer → List Packet
said_to plan entries x =
    map packets.Control (direct_replies (setup_of plan) entries x)
    ++ flat_map (said_by_module plan entries x) (letters_of plan.modules)

-- the kinds of packets that a tally counts
abbrev pub is_ackn : Packet → Bool
is_ackn (packets.Control control.Ackn) = true
is_ackn _ = false

abbrev pub is_nack : Packet → Bool
is_nack (packets.Control control.Nack) = true
is_nack _ = false

abbrev pub is_ping : Packet → Bool
is_ping (packets.Control (control.Ping from)) = true
is_ping _ = false

abbrev pub is_pong : Packet → Bool
is_pong (packets.Control (control.Pong from)) = true
is_pong _ = false

abbrev pub is_disc : Packet → Bool
is_disc (packets.Control (control.Disc from)) = true
is_disc _ = false

abbrev pub is_stream : Packet → Bool
is_stream (packets.Stream p) = true
is_stream _ = false

-- how many there are of a kind; a number that has come to 2^64 - 1 stays there
abbrev pub count_of : (Packet → Bool) → List Packet → ℕ
count_of kind said = min (count_by kind said) (2 ^ 64 - 1)

-- The tally of what was said to a peer.
abbrev pub tally_of : List Packet → Tally
tally_of said = record {
  ackn = count_of is_ackn said;
  nack = count_of is_nack said;
  ping = count_of is_ping said;
  pong = count_of is_pong said;
  disc = count_of is_disc said;
  frame = count_of is_stream said;
}

-- Nothing was said by the mouth yet: each tally that it tells is 0.
abbrev pub HasNoTallies : TalliesKept → Type 0
HasNoTallies mouth =
    (x : Peer) (tally : Tally) → tally_at mouth.entries x ≡ Some tally → tally ≡ no_tally

-- These are the verdicts of the replay's entries, and this mouth said what it says: each tally that the mouth tells is
-- that of what is said to its peer.
pub record IsReplayed (plan : Plan) (heard : List Heard) (verdicts : List LinkVerdict)
    (packets : List (Option Verdict)) (mouth : TalliesKept) : Type 0 where
  pub entries : List Entry
  pub replay : IsReplayOf plan heard entries
  pub each : verdicts ≡ verdicts_of plan entries
  pub each_packet : packets ≡ packet_verdicts_of plan entries
  pub tallies : (x : Peer) (tally : Tally) → tally_at mouth.entries x ≡ Some tally →
      tally ≡ tally_of (said_to plan entries x)
