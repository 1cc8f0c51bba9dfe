-- What follows from the definitions for all that a link may hear.
use Rattle.std.specs.Prelude.{◌≡◌, ◌+◌, Bool, List, ◌∷◌, ◌++◌, length, map, filter, count_by, replicate, true, Option, Some}
use Rattle.std.specs.List.{AllByRecursion, AllZip}
use Rattle.m17_values.specs.declared.heard.Heard.{Heard}
use Rattle.m17_values.specs.declared.heard.Heard.TheVariants as heard
use Rattle.m17_values.specs.declared.peer.Peer.{Peer}
use Rattle.m17_control.specs.declared.packet.Packet.{Packet}
use Rattle.m17_control.specs.Forms.{Spells}
use Rattle.m17_floor.specs.declared.verdict.Verdict.{Verdict}
use Rattle.m17_ports.specs.declared.tally.Tally.{Tally}
use Rattle.m17_ports.specs.Mouth.{Datagram, AreTallied}
use Rattle.m17_ports.specs.Tallies.{no_tally}
use Rattle.m17_port_memory.specs.Kept.{TalliesKept}
use Rattle.m17_port_memory.specs.Peers.{tally_at}
use Rattle.m17_directory.specs.declared.verdict.LinkVerdict.{LinkVerdict}
use Rattle.m17_directory.specs.Entries.{Entry, most_faults, ends_at, is_peer, SaysEach}
use Rattle.m17_directory.specs.Laws.{HasBytes}
use Rattle.m17_plan.specs.declared.plan.Plan.{Plan}
use Rattle.m17_house.specs.Replay.{EndsSomewhere, IsReplayOf, IsReplayed, tally_of}
use Rattle.m17_house.specs.Free.{IsFreeReplayOf, ComeToTheSame}

-- What was heard ends the link, where it has an End.
abbrev pub EndEndsIt : Type 0
EndEndsIt = (front rest : List Heard) → EndsSomewhere (front ++ heard.End ∷ rest)

-- 16 faults in a row.
abbrev pub sixteen_faults : List Heard
sixteen_faults = replicate most_faults heard.Fault

-- What was heard ends the link, where it has 16 faults in a row: at the last of these, if not before.
pub record FaultsEndIt : Type 0 where
  pub somewhere : (front rest : List Heard) → EndsSomewhere (front ++ sixteen_faults ++ rest)
  pub at_the_last : (front rest : List Heard) (entries : List Entry) →
      SaysEach (front ++ sixteen_faults ++ rest) entries →
      ends_at entries (length front + 15) ≡ true

-- A plan and what was heard have one replay at most.
abbrev pub OneReplay : Type 0
OneReplay =
    (plan : Plan) (heard : List Heard) (one other : List Entry) → AllByRecursion HasBytes heard →
    IsReplayOf plan heard one → IsReplayOf plan heard other → one ≡ other

-- What was heard, in bytes, has a replay by each plan where it ends the link.
abbrev pub AReplayThereIs : Type 0
AReplayThereIs =
    (plan : Plan) (heard : List Heard) → AllByRecursion HasBytes heard → EndsSomewhere heard →
    (entries : List Entry) × IsReplayOf plan heard entries

-- The answers of a replay: what it says of the entries and of their packets, and the mouth that said what it says.
pub record Answers : Type 0 where
  pub verdicts : List LinkVerdict
  pub packets : List (Option Verdict)
  pub mouth : TalliesKept

abbrev pub AreAnswers : Plan → List Heard → Answers → Type 0
AreAnswers plan heard a = IsReplayed plan heard a.verdicts a.packets a.mouth

-- They say the same of all entries, and of each peer that both mouths name.
pub record SayTheSame (a b : Answers) : Type 0 where
  pub verdicts : a.verdicts ≡ b.verdicts
  pub packets : a.packets ≡ b.packets
  pub tallies : (x : Peer) (one other : Tally) → tally_at a.mouth.entries x ≡ Some one →
      tally_at b.mouth.entries x ≡ Some other → one ≡ other

-- So it is answered in one way.
abbrev pub OneAnswer : Type 0
OneAnswer =
    (plan : Plan) (heard : List Heard) (a b : Answers) → AllByRecursion HasBytes heard →
    AreAnswers plan heard a → AreAnswers plan heard b → SayTheSame a b

-- The replay gives places freely: the least free one, with the number of earlier claims of it as generation, is one
-- choice.
abbrev pub ReplaysGiveFreely : Type 0
ReplaysGiveFreely =
    (plan : Plan) (heard : List Heard) (entries : List Entry) →
    IsReplayOf plan heard entries → IsFreeReplayOf plan heard entries

-- Whichever free places are given, with whatever generations, and however many departed members a greeting waits for:
-- it comes to the same.
abbrev pub FreeReplaysComeToTheSame : Type 0
FreeReplaysComeToTheSame =
    (plan : Plan) (heard : List Heard) (one other : List Entry) → AllByRecursion HasBytes heard →
    IsFreeReplayOf plan heard one → IsFreeReplayOf plan heard other → ComeToTheSame plan one other

-- What tallies tell: those of datagrams that were said, where they were 0 before, are those of the packets that the
-- datagrams spell, peer by peer; and lists with as many packets of each kind have one tally.
pub record TalliesTellPackets : Type 0 where
  pub spelled : (before after : Peer → Option Tally) (said : List Datagram) (x : Peer)
      (told : List Packet) (tally : Tally) →
      ((t : Tally) → before x ≡ Some t → t ≡ no_tally) → AreTallied before said after →
      AllZip Spells told (map (λ d. d.1) (filter (λ d. is_peer x d.0) said)) →
      after x ≡ Some tally → tally ≡ tally_of told
  pub as_many : (one other : List Packet) →
      ((kind : Packet → Bool) → count_by kind one ≡ count_by kind other) →
      tally_of one ≡ tally_of other
