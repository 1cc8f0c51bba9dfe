-- A replay with whichever free places are given, and what of it does not depend on them.
use Rattle.std.specs.Prelude.{◌≡◌, ℕ, ◌<◌, List, ◌++◌, length, Option, Some}
use Rattle.m17_values.specs.declared.heard.Heard.{Heard}
use Rattle.m17_values.specs.declared.peer.Peer.{Peer}
use Rattle.m17_floor.specs.declared.verdict.Verdict.{Verdict}
use Rattle.m17_floor.specs.Renamed.{unnamed_verdict}
use Rattle.m17_ports.specs.declared.tally.Tally.{Tally}
use Rattle.m17_port_memory.specs.Kept.{TalliesKept}
use Rattle.m17_port_memory.specs.Peers.{tally_at}
use Rattle.m17_directory.specs.declared.verdict.LinkVerdict.{LinkVerdict}
use Rattle.m17_directory.specs.Entries.{Entry, SaysEach}
use Rattle.m17_directory.specs.Given.{AreGivenFreely, SayTheSame}
use Rattle.m17_directory.specs.Laws.{EndsOnce}
use Rattle.m17_directory.specs.Routed.{link_verdict}
use Rattle.m17_plan.specs.declared.plan.Plan.{Plan}
use Rattle.m17_house.specs.Replay.{verdicts_of, packet_verdict, packet_verdicts_of, said_to, tally_of}
use Rattle.m17_plan.specs.Planned.{setup_of}

-- The entries of a replay: what was heard up to the first entry that ends the link, with claims exactly where an entry
-- asks and the others are fewer than the places: each of some place that none of the others has, and of a member that
-- no other entry is given.
pub record IsFreeReplayOf (plan : Plan) (heard : List Heard) (entries : List Entry) : Type 0 where
  pub front : List Heard
  pub rest : List Heard
  pub heard_is : heard ≡ front ++ rest
  pub says : SaysEach front entries
  pub ends : EndsOnce entries
  pub given : AreGivenFreely (setup_of plan) entries

-- These are the verdicts of such a replay's entries, and this mouth said what it says: each tally that the mouth tells
-- is that of what is said to its peer.
pub record IsFreelyReplayed (plan : Plan) (heard : List Heard) (verdicts : List LinkVerdict)
    (packets : List (Option Verdict)) (mouth : TalliesKept) : Type 0 where
  pub entries : List Entry
  pub replay : IsFreeReplayOf plan heard entries
  pub each : verdicts ≡ verdicts_of plan entries
  pub each_packet : packets ≡ packet_verdicts_of plan entries
  pub tallies : (x : Peer) (tally : Tally) → tally_at mouth.entries x ≡ Some tally →
      tally ≡ tally_of (said_to plan entries x)

-- They come to the same: the entries say the same, each gets the same verdict, each packet too, but for the member that
-- a busy one names, and the same is said to each peer, in the same order.
pub record ComeToTheSame (plan : Plan) (one other : List Entry) : Type 0 where
  pub same : SayTheSame one other
  pub verdicts : (n : ℕ) → n < length one →
      link_verdict (setup_of plan) one n ≡ link_verdict (setup_of plan) other n
  pub packets : (n : ℕ) → n < length one →
      unnamed_verdict (packet_verdict plan one n) ≡ unnamed_verdict (packet_verdict plan other n)
  pub said : (x : Peer) → said_to plan one x ≡ said_to plan other x
