-- What each entry of a link comes to, and what all of them route to each module and answer each
-- peer.
use Rattle.std.specs.Prelude.{◌==◌, ◌/◌, ℕ, zero, suc, ◌-◌, Bool, true, false, not, List, [], ◌∷◌, ◌++◌, length, map, filter, find, nat_lt, nat_le, Option, None, Some, if◌then◌else◌}
use Rattle.std.specs.List.{filter_map, flat_map, range_with_len}
use Rattle.m17_values.specs.declared.peer.Peer.{Peer}
use Rattle.m17_control.specs.declared.event.Body.TheVariants as body
use Rattle.m17_control.specs.declared.event.Event.{Event}
use Rattle.m17_control.specs.declared.event.Why.TheVariants.{Silent}
use Rattle.m17_control.specs.declared.packet.Control.{Control}
use Rattle.m17_directory.specs.declared.dispatch.Dispatch.{Dispatch}
use Rattle.m17_directory.specs.declared.dispatch.Dispatch.TheVariants.{ToModule, ToDoor}
use Rattle.m17_directory.specs.declared.known.Known.{Known}
use Rattle.m17_directory.specs.declared.known.Request.{Request}
use Rattle.m17_directory.specs.declared.verdict.LinkVerdict.{LinkVerdict}
use Rattle.m17_directory.specs.declared.verdict.LinkVerdict.TheVariants.{Refused, Asks, Timed, Faulted}
use Rattle.m17_directory.specs.Entries.{Notice, Claim, Entry, Setup, notice_at, claim_at, moment_before, moment_at, passes_time, is_peer, silence_ms, ends_at}
use Rattle.m17_directory.specs.Known.{Past, now, known_at, request_in}
use Rattle.m17_directory.specs.Outcome.{Here, Outcome, only, to_each_module, leave, of_packet, of_end, settled}

-- Each served module is told of the time where the link's moment passes a multiple of 20 ms.
abbrev pub tick_ms : ℕ
tick_ms = 20

-- the entry at the position
abbrev pub here_of : Past → Here
here_of past = record {
  setup = past.setup;
  index = now past;
  moment = moment_at past.entries (now past);
}

-- a known peer that was not heard for 30,000 ms at this moment
abbrev pub is_silent : ℕ → Known → Bool
is_silent moment k = nat_le silence_ms (moment - k.heard_at)

-- Who of the known is silent at the position, where time goes by there, and who is still known.
abbrev pub silent_at : Past → List Known
silent_at past =
    if passes_time (notice_at past.entries (now past))
    then filter (is_silent (moment_at past.entries (now past))) (known_at past) else []

abbrev pub still_at : Past → List Known
still_at past =
    if passes_time (notice_at past.entries (now past))
    then filter (λ k. not (is_silent (moment_at past.entries (now past)) k)) (known_at past)
    else known_at past

-- the row of a peer
abbrev pub row_for : Peer → List Known → Option Known
row_for x rows = find (λ k. is_peer x k.peer) rows

-- What the entry itself says comes to.
abbrev pub said_at : Past → Notice → Outcome
said_at past (Notice.Sent from at p) =
    of_packet (here_of past) from (row_for from (still_at past)) p
said_at past (Notice.Garbled from at refusal) = only (Refused refusal)
said_at past (Notice.Quiet at) = only Timed
said_at past Notice.Fault =
    if ends_at past.entries (now past) then of_end (here_of past) (known_at past) else only Faulted
said_at past Notice.End = of_end (here_of past) (known_at past)

-- where the link's moment passes a multiple of 20 ms, a Tick for each served module
abbrev pub ticks_at : Past → List Dispatch
ticks_at past =
    if nat_lt (moment_before past.entries (now past) / tick_ms)
    (moment_at past.entries (now past) / tick_ms)
    then to_each_module (here_of past) body.Tick else []

-- What the entry comes to before a claim: first the silent leave, in order of peers, then come the
-- ticks, and then what it says.
unfoldable pub unclaimed_at : Past → Outcome
unclaimed_at past =
    let said = said_at past (notice_at past.entries (now past)) in
    record {
      verdict = said.verdict;
      posts = map (leave (here_of past) Silent) (silent_at past) ++ ticks_at past ++ said.posts;
      left = silent_at past ++ said.left;
    }

-- Who is still known at the position but the peer that the entry is from.
abbrev pub others_than : Notice → List Known → List Known
others_than (Notice.Sent from at p) rows = filter (λ k. not (is_peer from k.peer)) rows
others_than _ rows = rows

unfoldable pub others_at : Past → List Known
others_at past = others_than (notice_at past.entries (now past)) (still_at past)

-- What its request then comes to by its claim, where it asked: beside the others that are still
-- known.
abbrev pub settled_by : Past → Option Claim → Notice → Option Request → Outcome
settled_by past claim (Notice.Sent from at p) (Some request) =
    settled (here_of past) (others_at past) from request claim
settled_by past claim _ _ = only Asks

abbrev pub request_at : Past → Option Request
request_at past = request_in (notice_at past.entries (now past))

unfoldable pub settled_at : Past → Option Claim → Outcome
settled_at past claim = settled_by past claim (notice_at past.entries (now past)) (request_at past)

-- the entry asks for a place
abbrev pub is_asks : LinkVerdict → Bool
is_asks Asks = true
is_asks _ = false

abbrev pub asks_at : Past → Bool
asks_at past = is_asks (unclaimed_at past).verdict

-- All that the entry comes to.
abbrev pub both : Outcome → Outcome → Outcome
both first second = record {
  verdict = second.verdict;
  posts = first.posts ++ second.posts;
  left = first.left ++ second.left;
}

abbrev pub comes_to : Past → Outcome
comes_to past =
    if asks_at past then both (unclaimed_at past) (settled_at past (claim_at past.entries (now past)))
    else unclaimed_at past

-- of each position below n, whether its entry asks for a place
unfoldable pub asked_before : Setup → List Entry → ℕ → List Bool
asked_before setup entries zero = []
asked_before setup entries (suc n) =
    let before = asked_before setup entries n in
    before ++ asks_at (record { setup = setup; entries = entries; asked = before }) ∷ []

-- what is looked back on at position n
abbrev pub past_at : Setup → List Entry → ℕ → Past
past_at setup entries n =
    record { setup = setup; entries = entries; asked = asked_before setup entries n }

-- The outcome of position n, with its claim; its verdict; and what it posts.
abbrev pub outcome_at : Setup → List Entry → ℕ → Outcome
outcome_at setup entries n = comes_to (past_at setup entries n)

unfoldable pub link_verdict : Setup → List Entry → ℕ → LinkVerdict
link_verdict setup entries n = (outcome_at setup entries n).verdict

unfoldable pub posts_at : Setup → List Entry → ℕ → List Dispatch
posts_at setup entries n = (outcome_at setup entries n).posts

-- All that the entries post, in order.
unfoldable pub posted : Setup → List Entry → List Dispatch
posted setup entries = flat_map (posts_at setup entries) (range_with_len 0 (length entries))

-- The event, if it is for the module with this letter; the reply, if it is for this peer.
abbrev pub event_for : ℕ → Dispatch → Option Event
event_for letter (ToModule to event) = if to == letter then Some event else None
event_for letter (ToDoor direct) = None

abbrev pub reply_for : Peer → Dispatch → Option Control
reply_for x (ToModule to event) = None
reply_for x (ToDoor direct) = if is_peer x direct.peer then Some direct.control else None

-- What the link routes to a module, entry by entry, and what it answers a peer past all modules.
unfoldable pub routed : Setup → List Entry → ℕ → List Event
routed setup entries letter = filter_map (event_for letter) (posted setup entries)

unfoldable pub direct_replies : Setup → List Entry → Peer → List Control
direct_replies setup entries x = filter_map (reply_for x) (posted setup entries)
