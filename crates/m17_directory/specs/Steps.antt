-- For proofs alone: what an entry comes to and whom it leaves known, by what is kept before it.
use Rattle.std.specs.Prelude.{◌≡◌, ◌==◌, ◌||◌, ℕ, ◌+◌, ◌<◌, ◌≤◌, ◌/◌, Bool, true, false, not, List, [], ◌∷◌, ◌++◌, length, map, filter, insert, slice_set, slice_index_or, nat_lt, Option, None, Some, option_map, if◌then◌else◌}
use Rattle.std.specs.Option.{option_map_or}
use Rattle.std.specs.Ordering.{match_ordering}
use Rattle.std.specs.declared.cmp.Ordering.TheVariants.{Less}
use Rattle.m17_values.specs.declared.peer.Peer.{Peer}
use Rattle.m17_control.specs.declared.event.Body.TheVariants as body
use Rattle.m17_control.specs.declared.event.Why.TheVariants.{Silent}
use Rattle.m17_directory.specs.declared.asked.Asked.{Asked}
use Rattle.m17_directory.specs.declared.dispatch.Dispatch.{Dispatch}
use Rattle.m17_directory.specs.declared.known.Departed.{Departed}
use Rattle.m17_directory.specs.declared.known.Known.{Known}
use Rattle.m17_directory.specs.declared.known.Request.{Request}
use Rattle.m17_directory.specs.declared.verdict.LinkVerdict.{LinkVerdict}
use Rattle.m17_directory.specs.declared.verdict.LinkVerdict.TheVariants.{Refused, Timed, Faulted}
use Rattle.m17_directory.specs.declared.whom.Whom.{Whom}
use Rattle.m17_directory.specs.declared.whom.Whom.TheVariants as whom
use Rattle.m17_directory.specs.Entries.{Notice, Claim, passes_time, peer_cmp, is_peer}
use Rattle.m17_directory.specs.Known.{request_of}
use Rattle.m17_directory.specs.Outcome.{Here, Outcome, only, to_each_module, leave, has_place, of_packet, of_end, settled}
use Rattle.m17_directory.specs.Routed.{tick_ms, is_silent, row_for, is_asks}
use Rattle.m17_directory.specs.StandsFor.{with_left, has_departing, most_members}

-- who is known, the request that waits for a claim, and who departs
pub record Lists : Type 0 where
  pub known : List Known
  pub asked : Option Asked
  pub departing : List Departed

-- the rows stand in strict order of peers
abbrev pub IsAllAfter : Peer → List Known → Type 0
IsAllAfter x [] = Unit {0}
IsAllAfter x (k ∷ rows) = (peer_cmp x k.peer ≡ Less) × IsAllAfter x rows

abbrev pub IsInOrder : List Known → Type 0
IsInOrder [] = Unit {0}
IsInOrder (k ∷ rows) = IsAllAfter k.peer rows × IsInOrder rows

-- none was last heard before this moment
abbrev pub IsEarliest : ℕ → List Known → Type 0
IsEarliest moment [] = Unit {0}
IsEarliest moment (k ∷ rows) = (moment ≤ k.heard_at) × IsEarliest moment rows

-- the rows of a table with room for `capacity` of them
pub record IsTable (capacity : ℕ) (rows : List Known) (earliest : ℕ) : Type 0 where
  pub room : 256 ≤ capacity
  pub few : length rows ≤ 256
  pub order : IsInOrder rows
  pub first : IsEarliest earliest rows

-- at most 256 are known, and at most 512 known and departing together
pub record AreFew (known : List Known) (departing : List Departed) : Type 0 where
  pub few : length known ≤ 256
  pub together : length known + length departing ≤ most_members

-- the row of a peer that was heard at this moment; who is another; the rows with this one, in order
abbrev pub heard_now : Peer → ℕ → Known → Known
heard_now x moment k = if is_peer x k.peer then record k { heard_at = moment } else k

abbrev pub is_other : Peer → Known → Bool
is_other x k = not (is_peer x k.peer)

abbrev pub with_row : Known → List Known → List Known
with_row k [] = k ∷ []
with_row k (r ∷ rows) =
    match_ordering (peer_cmp k.peer r.peer) (k ∷ r ∷ rows) (k ∷ rows) (r ∷ with_row k rows)

-- the one row of this peer stands at this index
pub record IsRowOf (rows : List Known) (k : Known) (i : ℕ) : Type 0 where
  pub within : i < length rows
  pub found : row_for k.peer rows ≡ Some k
  pub alone : filter (λ r. is_peer k.peer r.peer) rows ≡ k ∷ []
  pub heard : (moment : ℕ) →
      slice_set rows i (record k { heard_at = moment }) ≡ map (heard_now k.peer moment) rows

pub record IsRow (rows : List Known) (x : Peer) (i : ℕ) : Type 0 where
  pub known : Known
  pub peer : known.peer ≡ x
  pub at : (d : Known) → slice_index_or rows i d ≡ known
  pub is : IsRowOf rows known i
  pub put : (k : Known) → k.peer ≡ x → slice_set rows i k ≡ with_row k rows

-- the peer has no row, and one would stand at this index
pub record IsGapFor (rows : List Known) (x : Peer) (i : ℕ) : Type 0 where
  pub within : i ≤ length rows
  pub none : row_for x rows ≡ None
  pub put : (k : Known) → k.peer ≡ x → insert rows i k ≡ with_row k rows

-- one that is known is among them
abbrev pub is_among : Whom → Known → Bool
is_among (whom.Silent moment) k = is_silent moment k
is_among (whom.Peer x) k = is_peer x k.peer
is_among (whom.Place place) k = has_place place k
is_among whom.Everyone k = true

-- the lists after these have left
abbrev pub lists_without : Whom → Lists → Lists
lists_without these old = record {
  known = filter (λ k. not (is_among these k)) old.known;
  asked = old.asked;
  departing = with_left old.departing (filter (is_among these) old.known);
}

-- the lists after this peer was heard
abbrev pub lists_heard : Here → Peer → Lists → Lists
lists_heard here x old = record {
  known = map (heard_now x here.moment) old.known;
  asked = old.asked;
  departing = old.departing;
}

-- a tick for each module, where the moment passes a multiple of 20 ms
abbrev pub ticks_by : Here → ℕ → List Dispatch
ticks_by here before =
    if nat_lt (before / tick_ms) (here.moment / tick_ms) then to_each_module here body.Tick else []

-- who is known after a packet of this peer, by whether it has left; and the request that is asked
abbrev pub rows_by : Here → Peer → List Known → List Known → List Known
rows_by here x [] rows = map (heard_now x here.moment) rows
rows_by here x (k ∷ left) rows = filter (is_other x) rows

abbrev pub asked_as : Here → Peer → Request → Asked
asked_as here x request = record { index = here.index; peer = x; request = request }

abbrev pub asked_by : Here → Peer → Option Request → Bool → Option Asked → Option Asked
asked_by here x request true old = option_map (asked_as here x) request
asked_by here x request false old = old

-- A packet of this peer came to this outcome.
pub record IsComeTo (here : Here) (x : Peer) (request : Option Request) (old new : Lists)
    (outcome : Outcome) (before after : List Dispatch) (answer : LinkVerdict) : Type 0 where
  pub verdict : answer ≡ outcome.verdict
  pub posts : after ≡ before ++ outcome.posts
  pub known : new.known ≡ rows_by here x outcome.left old.known
  pub asked : new.asked ≡ asked_by here x request (is_asks outcome.verdict) old.asked
  pub departing : new.departing ≡ with_left old.departing outcome.left

-- what an entry comes to, by what is kept before it
abbrev pub silent_by : Here → List Known → Notice → List Known
silent_by here rows notice =
    if passes_time notice then filter (is_silent here.moment) rows else []

abbrev pub still_by : Here → List Known → Notice → List Known
still_by here rows notice =
    if passes_time notice then filter (λ k. not (is_silent here.moment k)) rows else rows

abbrev pub said_by : Here → Bool → List Known → List Known → Notice → Outcome
said_by here ends rows still (Notice.Sent from at p) = of_packet here from (row_for from still) p
said_by here ends rows still (Notice.Garbled from at refusal) = only (Refused refusal)
said_by here ends rows still (Notice.Quiet at) = only Timed
said_by here ends rows still Notice.Fault = if ends then of_end here rows else only Faulted
said_by here ends rows still Notice.End = of_end here rows

abbrev pub heard_by : Here → ℕ → Bool → List Known → Notice → Outcome
heard_by here before ends rows notice =
    let said = said_by here ends rows (still_by here rows notice) notice in
    record {
      verdict = said.verdict;
      posts = map (leave here Silent) (silent_by here rows notice) ++ ticks_by here before
          ++ said.posts;
      left = silent_by here rows notice ++ said.left;
    }

-- who is known after it
abbrev pub known_by : Here → Bool → List Known → List Known → Notice → List Known
known_by here ends rows still (Notice.Sent from at p) =
    rows_by here from (of_packet here from (row_for from still) p).left still
known_by here ends rows still (Notice.Garbled from at refusal) = still
known_by here ends rows still (Notice.Quiet at) = still
known_by here ends rows still Notice.Fault = if ends then [] else rows
known_by here ends rows still Notice.End = []

-- the request that is asked by it
abbrev pub asks_by : Here → Notice → Bool → Option Asked
asks_by here (Notice.Sent from at p) asks = asked_by here from (request_of p) asks None
asks_by here _ asks = None

-- An entry that says this was taken in.
pub record IsTaken (here : Here) (before : ℕ) (ends : Bool) (old new : Lists) (notice : Notice)
    (posted : List Dispatch) (answer : LinkVerdict) : Type 0 where
  pub verdict : answer ≡ (heard_by here before ends old.known notice).verdict
  pub posts : posted ≡ (heard_by here before ends old.known notice).posts
  pub known : new.known ≡ known_by here ends old.known (still_by here old.known notice) notice
  pub asked : new.asked
      ≡ asks_by here notice (is_asks (heard_by here before ends old.known notice).verdict)
  pub departing : new.departing
      ≡ with_left old.departing (heard_by here before ends old.known notice).left

-- the row of a peer that was given a place
abbrev pub row_given : Here → Asked → Claim → Known
row_given here asked claim = record {
  peer = asked.peer;
  member = claim.member;
  letter = asked.request.letter;
  callsign = asked.request.callsign;
  listen = asked.request.listen;
  heard_at = here.moment;
}

-- who is known after a claim
abbrev pub known_after : Here → Asked → Option Claim → List Known → List Known
known_after here asked None rows = rows
known_after here asked (Some claim) rows = with_row (row_given here asked claim)
    (filter (λ k. not (has_place claim.member.place k)) rows)

-- A request was settled by this claim.
pub record IsGiven (here : Here) (wanted : Asked) (claim : Option Claim) (old new : Lists)
    (posted : List Dispatch) (answer : LinkVerdict) : Type 0 where
  pub verdict : answer ≡ (settled here old.known wanted.peer wanted.request claim).verdict
  pub posts : posted ≡ (settled here old.known wanted.peer wanted.request claim).posts
  pub known : new.known ≡ known_after here wanted claim old.known
  pub asked : new.asked ≡ None
  pub departing : new.departing
      ≡ with_left old.departing (settled here old.known wanted.peer wanted.request claim).left

-- a request must wait, by these lists
abbrev pub lists_wait : Lists → Bool
lists_wait lists = option_map_or (λ asked. has_departing asked.peer lists.departing
    || (length lists.known + length lists.departing) == most_members) lists.asked false
