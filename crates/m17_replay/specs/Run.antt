-- Where a run of `replay` stands between its steps. No public clause cites this module.
use Rattle.std.specs.Prelude.{◌≡◌, ℕ, ◌+◌, ◌≤◌, Bool, true, false, List, [], ◌∷◌, ◌++◌, length, map, Contains, Option, None, Some, Result, Ok, Err, OnOk, OnErr, if◌then◌else◌}
use Rattle.std.specs.List.{flat_map, range_with_len}
use Rattle.m17_io.specs.Faults.{HasCause}
use Rattle.m17_io.specs.Sink.{AppendsPrefix, SinkTold}
use Rattle.m17_values.specs.declared.heard.Heard.{Heard}
use Rattle.m17_values.specs.declared.heard.Heard.TheVariants as heard
use Rattle.m17_values.specs.declared.failures.Failed.{Failed}
use Rattle.m17_values.specs.declared.peer.Peer.{Peer}
use Rattle.m17_ports.specs.declared.tally.Tally.{Tally}
use Rattle.m17_floor.specs.declared.verdict.Verdict.{Verdict}
use Rattle.m17_directory.specs.declared.verdict.LinkVerdict.{LinkVerdict}
use Rattle.m17_directory.specs.Entries.{Entry, peers_named, with_peer}
use Rattle.m17_port_memory.specs.Kept.{TalliesKept}
use Rattle.m17_port_memory.specs.Peers as peers
use Rattle.m17_plan.specs.declared.plan.Plan.{Plan}
use Rattle.m17_book.specs.Book.{IsTrace}
use Rattle.m17_house.specs.Free.{IsFreelyReplayed, IsFreeReplayOf}
use Rattle.m17_house.specs.Replay.{verdicts_of, packet_verdicts_of, HasNoTallies, IsReplayOf}
use Rattle.m17_io.specs.declared.fault.Fault.{Fault}
use Rattle.m17_print.specs.declared.kind.Kind.{Kind}
use Rattle.m17_print.specs.Kinds.{kind_place, kind_word}
use Rattle.m17_replay.specs.Counted.{CountsAre}
use Rattle.m17_replay.specs.Lines.{verdict_line}
use Rattle.m17_replay.specs.Summary.{count_at, count_line, counts_text, peers_text, Outcome}
use Rattle.m17_replay.specs.declared.ending.ReplayEnding.{ReplayEnding}
use Rattle.m17_replay.specs.declared.ending.ReplayEnding.TheVariants.{Finished, LinkLost, WriteFailed}
use Rattle.m17_replay.specs.declared.judging.Page.{Page}
use Rattle.m17_replay.specs.declared.judging.Replayed.{Replayed}
use Rattle.m17_replay.specs.declared.printer.Printer.{Printer}
use Rattle.m17_replay.specs.Tapes.{OutcomesKept}
use Rattle.m17_replay.specs.Replay.{failed_device, heard_count, is_lost, outcome_of, tally_at, IsReplayText}

-- The text was appended to what stood there; or, where the sink failed, a first part of it.
pub record Writes {T E : Type 0} (result : Result T E) (text : List ℕ)
    (first written : Option (List ℕ)) : Type 0 where
  pub all_of_it : OnOk result ((before : List ℕ) → first ≡ Some before
      → written ≡ Some (before ++ text))
  pub part_of_it : OnErr result ((before : List ℕ) → first ≡ Some before
      → AppendsPrefix before text written)

-- The same, and the sink's count of faults rose where it failed.
pub record Prints {T E : Type 0} (result : Result T E) (text : List ℕ) (first after : SinkTold)
    : Type 0 where
  pub cause : HasCause first.faults after.faults result
  pub writes : Writes result text first.written after.written

-- the lines of entries that came to this, the first of which has this number
abbrev pub lines_from : ℕ → List Outcome → List ℕ
lines_from n [] = []
lines_from n (o ∷ outcomes) = verdict_line n o.0 o.1 ++ lines_from (n + 1) outcomes

-- what is printed before all entries were heard, and what is printed in all: by what they came to, and by the tallies of
-- the peers that are named
abbrev pub text_so_far : Bool → List Outcome → List ℕ
text_so_far summary outcomes = if summary then [] else lines_from 0 outcomes

abbrev pub text_of_all : Bool → List Outcome → (Peer → Tally) → List Peer → List ℕ
text_of_all summary outcomes tally named =
    if summary then counts_text (length outcomes) outcomes ++ peers_text tally named
    else lines_from 0 outcomes

-- what the entries that are printed came to
abbrev pub printed_of : Plan → List Entry → List Outcome
printed_of plan entries = map (outcome_of plan entries) (range_with_len 0 (heard_count entries))

-- The printer was handed these outcomes, since the sink told this first.
pub record HasTaken (printer : Printer) (outcomes : List Outcome) (first now : SinkTold) : Type 0
  where
    pub count : printer.count ≡ length outcomes
    pub counts : printer.summary ≡ true → CountsAre printer.counts outcomes
    pub prints : Prints printer.written (text_so_far printer.summary outcomes) first now

-- the line of a kind, with how many of the entries are of it; and the lines of these kinds
abbrev pub kind_line : List Outcome → Kind → List ℕ
kind_line outcomes kind = count_line (kind_word kind) (count_at (kind_place kind) outcomes)

abbrev pub kinds_text : List Outcome → List Kind → List ℕ
kinds_text outcomes kinds = flat_map (kind_line outcomes) kinds

-- the device that failed, where a run ended before its trace was read whole
abbrev pub stopped_by : {T : Type 0} → Result T ReplayEnding → Option Fault
stopped_by (Ok _) = None
stopped_by (Err ending) = failed_device ending

-- how a run ends whose trace was judged: by what became of its text, and whether the link was lost
abbrev pub judged_ending : {T E : Type 0} → Result T E → Bool → ReplayEnding
judged_ending (Ok _) true = LinkLost
judged_ending (Ok _) false = Finished
judged_ending (Err _) lost = WriteFailed

-- the peers that were named before, and the sender of what is heard next
abbrev pub with_heard : Heard → List Peer → List Peer
with_heard (heard.Datagram from at bytes) named = with_peer from named
with_heard _ named = named

-- what was heard is that the socket failed
abbrev pub is_fault_heard : Heard → Bool
is_fault_heard heard.Fault = true
is_fault_heard _ = false

-- what was heard is that nothing more comes
abbrev pub is_end_heard : Heard → Bool
is_end_heard heard.End = true
is_end_heard _ = false

-- These are the verdicts of the entries of a replay.
pub record AreVerdicts (plan : Plan) (entries : List Entry) (verdicts : List LinkVerdict)
    (packets : List (Option Verdict)) : Type 0 where
  pub each : verdicts ≡ verdicts_of plan entries
  pub each_packet : packets ≡ packet_verdicts_of plan entries

-- Each of the peers has a tally; and each tally is the one of its peer.
abbrev pub AreNamed : List Peer → TalliesKept → Type 0
AreNamed named kept = (x : Peer) → Contains named x → Contains (peers.named_in kept.entries) x

abbrev pub TalliesAre : (Peer → Tally) → TalliesKept → Type 0
TalliesAre tally kept =
    (x : Peer) (t : Tally) → peers.tally_at kept.entries x ≡ Some t → t ≡ tally x

-- All that is printed is there: the verdicts reach so far, and each peer that is named has a tally.
pub record CanPrint (replayed : Replayed) : Type 0 where
  pub verdicts_reach : replayed.count ≤ length replayed.outcomes.verdicts
  pub packets_reach : replayed.count ≤ length replayed.outcomes.packets
  pub all_named : AreNamed replayed.named.items replayed.mouth

-- What is kept of the replay of these entries is what the replay says.
pub record StandsFor (plan : Plan) (summary : Bool) (entries : List Entry) (replayed : Replayed)
    : Type 0 where
  pub verdicts : AreVerdicts plan entries replayed.outcomes.verdicts replayed.outcomes.packets
  pub count_is : replayed.count ≡ heard_count entries
  pub tallies : TalliesAre (tally_at plan entries) replayed.mouth
  pub named_are : summary ≡ true → replayed.named.items ≡ peers_named entries (length entries)

-- The trace was judged: this is kept of its replay, in which places were given freely.
pub record IsJudged (plan : Plan) (summary : Bool) (heard : List Heard) (replayed : Replayed)
    : Type 0 where
  pub entries : List Entry
  pub is_replay : IsFreeReplayOf plan heard entries
  pub is_lost_so : is_lost entries ≡ replayed.lost
  pub stands : StandsFor plan summary entries replayed

-- what is kept for printing, of what was known before a replay and of what that came to
abbrev pub kept_on : Page → OutcomesKept → TalliesKept → Replayed
kept_on page outcomes mouth = record {
  outcomes = outcomes;
  mouth = mouth;
  named = page.named;
  lost = page.lost;
  count = page.count;
}

-- The mouth has said nothing; and whatever a replay comes to that speaks on it, what is kept then is judged, and can be
-- printed.
pub record IsPreparedFor (summary : Bool) (heard : List Heard) (made : Page × TalliesKept)
    : Type 0 where
  pub empty : HasNoTallies made.1
  pub judged : (plan : Plan) (outcomes : OutcomesKept) (mouth : TalliesKept) →
      IsFreelyReplayed plan heard outcomes.verdicts outcomes.packets mouth →
      IsJudged plan summary heard (kept_on made.0 outcomes mouth)
  pub can_print : (plan : Plan) (outcomes : OutcomesKept) (mouth : TalliesKept) →
      IsFreelyReplayed plan heard outcomes.verdicts outcomes.packets mouth →
      peers.named_in mouth.entries ≡ peers.named_in made.1.entries →
      CanPrint (kept_on made.0 outcomes mouth)

-- What was heard was replayed in one thread: the printer was handed what its entries came to, and the mouth has said what
-- they say; and whether the link was lost.
pub record IsPlayed (plan : Plan) (heard : List Heard) (printer : Printer) (mouth : TalliesKept)
    (lost : Bool) (first now : SinkTold) : Type 0 where
  pub entries : List Entry
  pub is_replay : IsReplayOf plan heard entries
  pub is_lost_so : is_lost entries ≡ lost
  pub taken : HasTaken printer (printed_of plan entries) first now
  pub tallies : TalliesAre (tally_at plan entries) mouth

-- The text of a trace was printed, and the run ends so.
pub record IsPrinted (plan : Plan) (summary : Bool) (heard : List Heard) (ending : ReplayEnding)
    (first now : SinkTold) : Type 0 where
  pub lost : Bool
  pub text : List ℕ
  pub is_text : (bytes : List ℕ) → IsTrace bytes heard → IsReplayText plan summary lost bytes text
  pub result : Result (Unit {0}) Failed
  pub prints : Prints result text first now
  pub ending_is : ending ≡ judged_ending result lost
