-- What follows from the definitions for all that a link may hear.
use Rattle.std.specs.Prelude.{◌≡◌, ◌↔◌, ◌==◌, ◌&&◌, not, ℕ, suc, ◌+◌, ◌<◌, Bool, true, false, List, [], ◌∷◌, ◌++◌, ◌≤◌, length, map, filter, count_by, sum_by, take, is_some, Option, None, Some, slice_get, option_map, if◌then◌else◌}
use Rattle.std.specs.List.{filter_map, flat_map, range_with_len, AllByRecursion, AllZip}
use Rattle.std.specs.declared.cmp.Ordering.TheVariants.{Less}
use Rattle.m17_values.specs.declared.heard.Heard.{Heard}
use Rattle.m17_values.specs.declared.heard.Heard.TheVariants as heard
use Rattle.m17_values.specs.declared.member.Member.{Member}
use Rattle.m17_values.specs.declared.peer.Peer.{Peer}
use Rattle.m17_fields.specs.Fields.{IsBytes}
use Rattle.m17_control.specs.declared.event.Body.{Body}
use Rattle.m17_control.specs.declared.event.Body.TheVariants.{Join, Leave, Packet, Reply, Stop}
use Rattle.m17_control.specs.declared.event.Event.{Event}
use Rattle.m17_control.specs.declared.event.Why.{Why}
use Rattle.m17_control.specs.declared.event.Why.TheVariants.{Replaced}
use Rattle.m17_control.specs.declared.item.Direct.{Direct}
use Rattle.m17_control.specs.declared.packet.Control.{Control}
use Rattle.m17_control.specs.declared.packet.Control.TheVariants.{Nack, Disc}
use Rattle.m17_control.specs.Modules.{serves, letters_of}
pub use Rattle.m17_control.specs.Renamed.{joiner_of, leaver_of}
use Rattle.m17_control.specs.Renamed.{AreRenamedEvents, TakeFreePlaces, joiner_at}
use Rattle.m17_directory.specs.declared.dispatch.Dispatch.{Dispatch}
use Rattle.m17_directory.specs.declared.dispatch.Dispatch.TheVariants.{ToModule, ToDoor}
use Rattle.m17_directory.specs.declared.known.Departed.{Departed}
use Rattle.m17_directory.specs.declared.known.Known.{Known}
use Rattle.m17_directory.specs.declared.known.Request.{Request}
use Rattle.m17_directory.specs.declared.verdict.Act.TheVariants as act
use Rattle.m17_directory.specs.declared.verdict.LinkVerdict.{LinkVerdict}
use Rattle.m17_directory.specs.declared.verdict.LinkVerdict.TheVariants.{Routed, Full, Ended}
use Rattle.m17_directory.specs.Entries.{Notice, Says, Claim, Entry, Setup, notice_at, claim_at, peer_cmp, is_peer, is_from, ends_at, peers_named}
use Rattle.m17_directory.specs.Known.{Past, request_in, known_at}
use Rattle.m17_directory.specs.Given.{AreGivenFreely, SayTheSame, stands_for, IsRenamedRow}
use Rattle.m17_directory.specs.Outcome.{Here}
use Rattle.m17_directory.specs.Routed.{here_of, unclaimed_at, others_at, settled_at, asks_at, both, past_at, outcome_at, link_verdict, posts_at, posted, event_for, reply_for, routed, direct_replies}
use Rattle.m17_directory.specs.StandsFor.{departed_of}

-- What comes later changes nothing of what an entry comes to.
abbrev pub LaterEntriesChangeNothing : Type 0
LaterEntriesChangeNothing =
    (setup : Setup) (entries more : List Entry) (n : ℕ) → n < length entries →
    outcome_at setup (entries ++ more) n ≡ outcome_at setup entries n

-- One entry more posts what it posts at its position, behind all that was posted before; and so it
-- is routed to each module, and answered to each peer.
pub record OneEntryMore : Type 0 where
  pub posts : (setup : Setup) (entries : List Entry) (entry : Entry) →
      posted setup (entries ++ entry ∷ [])
      ≡ posted setup entries ++ posts_at setup (entries ++ entry ∷ []) (length entries)
  pub routes : (setup : Setup) (entries : List Entry) (entry : Entry) (letter : ℕ) →
      routed setup (entries ++ entry ∷ []) letter ≡ routed setup entries letter
      ++ filter_map (event_for letter) (posts_at setup (entries ++ entry ∷ []) (length entries))
  pub answers : (setup : Setup) (entries : List Entry) (entry : Entry) (x : Peer) →
      direct_replies setup (entries ++ entry ∷ []) x ≡ direct_replies setup entries x
      ++ filter_map (reply_for x) (posts_at setup (entries ++ entry ∷ []) (length entries))

-- What an entry comes to before its claim, and who the others are there, follows from the entries
-- before it and from what it says itself, whatever its claim.
pub record EntriesBeforeDecide : Type 0 where
  pub heard : (setup : Setup) (a b : List Entry) (n : ℕ) → take n a ≡ take n b →
      notice_at a n ≡ notice_at b n →
      unclaimed_at (past_at setup a n) ≡ unclaimed_at (past_at setup b n)
  pub others : (setup : Setup) (a b : List Entry) (n : ℕ) → take n a ≡ take n b →
      notice_at a n ≡ notice_at b n →
      others_at (past_at setup a n) ≡ others_at (past_at setup b n)

-- What is posted to a module at a position carries the position.
abbrev pub EventsCarryTheirIndex : Type 0
EventsCarryTheirIndex =
    (setup : Setup) (entries : List Entry) (n letter : ℕ) →
    AllByRecursion (λ event. event.tag.index ≡ n)
    (filter_map (event_for letter) (posts_at setup entries n))

-- The body is a packet; and the module's letter, if this is a packet for a module.
abbrev pub is_packet : Body → Bool
is_packet (Packet k p) = true
is_packet _ = false

abbrev pub packet_letter : Dispatch → Option ℕ
packet_letter (ToModule letter event) = if is_packet event.body then Some letter else None
packet_letter (ToDoor direct) = None

-- the same of a verdict
abbrev pub packet_routed : LinkVerdict → List ℕ
packet_routed (Routed letter act.Packet) = letter ∷ []
packet_routed _ = []

-- An entry posts one packet, to the module that its verdict names, or none.
abbrev pub PacketsAreRouted : Type 0
PacketsAreRouted =
    (setup : Setup) (entries : List Entry) (n : ℕ) →
    filter_map packet_letter (posts_at setup entries n)
    ≡ packet_routed (link_verdict setup entries n)

-- The member, if this is posted as its Leave.
abbrev pub left_member : Dispatch → Option Member
left_member (ToModule letter event) = leaver_of event.body
left_member (ToDoor direct) = None

-- Those whose Leaves are posted are those that leave, in order.
pub record EachWhoLeavesIsPosted : Type 0 where
  pub heard : (past : Past) →
      filter_map left_member (unclaimed_at past).posts
      ≡ map (λ (k : Known). k.member) (unclaimed_at past).left
  pub settled : (past : Past) (claim : Option Claim) →
      filter_map left_member (settled_at past claim).posts
      ≡ map (λ (k : Known). k.member) (settled_at past claim).left

-- The verdict of an entry is Ended exactly where the link ends.
abbrev pub is_ended : LinkVerdict → Bool
is_ended Ended = true
is_ended _ = false

abbrev pub EndedWhereItEnds : Type 0
EndedWhereItEnds =
    (setup : Setup) (entries : List Entry) (n : ℕ) →
    is_ended (unclaimed_at (past_at setup entries n)).verdict ≡ ends_at entries n

-- The link has ended, at its last entry, and at no entry before.
pub record EndsOnce (entries : List Entry) : Type 0 where
  pub last : ℕ
  pub is_last : suc last ≡ length entries
  pub ends : ends_at entries last ≡ true
  pub not_before : (n : ℕ) → n < last → ends_at entries n ≡ false

abbrev pub is_stop : Body → Bool
is_stop Stop = true
is_stop _ = false

-- For each served module, what a link that ends once routes there is events without a Stop, and
-- then the link's one Stop.
abbrev pub RouteEndsInOneStop : Type 0
RouteEndsInOneStop =
    (setup : Setup) (entries : List Entry) (letter : ℕ) → EndsOnce entries →
    serves setup.modules letter ≡ true →
    (before : List Event) × (stop : Event) × (routed setup entries letter ≡ before ++ stop ∷ [])
    × (is_stop stop.body ≡ true) × AllByRecursion (λ event. is_stop event.body ≡ false) before

-- All that a link routes carries the link, and goes to served modules alone.
abbrev pub RouteCarriesLink : Type 0
RouteCarriesLink =
    (setup : Setup) (entries : List Entry) (letter : ℕ) →
    AllByRecursion (λ event. event.tag.link ≡ setup.link) (routed setup entries letter)

abbrev pub OnlyServedAreRouted : Type 0
OnlyServedAreRouted =
    (setup : Setup) (entries : List Entry) (letter : ℕ) → serves setup.modules letter ≡ false →
    routed setup entries letter ≡ []

-- What a link hears, if it is a datagram, is bytes; and then it says exactly one thing.
abbrev pub HasBytes : Heard → Type 0
HasBytes (heard.Datagram from at bytes) = IsBytes bytes
HasBytes _ = Unit {0}

abbrev pub EachEntrySaysOneThing : Type 0
EachEntrySaysOneThing =
    (h : Heard) → HasBytes h →
    (notice : Notice) × Says h notice × ((other : Notice) → Says h other → other ≡ notice)

-- The index of the entry, if the event is a packet; and the verdict is a packet for this module.
abbrev pub packet_index : Event → Option ℕ
packet_index event = if is_packet event.body then Some event.tag.index else None

abbrev pub is_packet_for : ℕ → LinkVerdict → Bool
is_packet_for letter (Routed to act.Packet) = to == letter
is_packet_for letter _ = false

-- The packets for a module are those of the entries whose verdicts say so, in order, each entry
-- once.
abbrev pub PacketsAreOfEntries : Type 0
PacketsAreOfEntries =
    (setup : Setup) (entries : List Entry) (letter : ℕ) →
    filter_map packet_index (routed setup entries letter)
    ≡ filter (λ n. is_packet_for letter (link_verdict setup entries n))
    (range_with_len 0 (length entries))

-- The Join of an entry that asked for this module and has a claim: with its link, index and moment.
abbrev pub join_event : Here → Peer → Request → Claim → Event
join_event here x request claim = record {
  tag = record { link = here.setup.link; index = here.index };
  at = here.moment;
  body = Join claim.member x request.callsign request.listen claim.after;
}

abbrev pub joins_by : Here → ℕ → Notice → Option Request → Option Claim → List Event
joins_by here letter (Notice.Sent from at p) (Some request) (Some claim) =
    if request.letter == letter then join_event here from request claim ∷ [] else []
joins_by here letter _ _ _ = []

unfoldable pub joins_at : Setup → List Entry → ℕ → ℕ → List Event
joins_at setup entries letter n =
    if asks_at (past_at setup entries n)
    then joins_by (here_of (past_at setup entries n)) letter (notice_at entries n)
    (request_in (notice_at entries n)) (claim_at entries n) else []

-- An entry is Full exactly where it asks for a place and has no claim, and a Join exactly where it
-- asks and has one.
abbrev pub is_full : LinkVerdict → Bool
is_full Full = true
is_full _ = false

abbrev pub is_joining : LinkVerdict → Bool
is_joining (Routed letter act.Join) = true
is_joining _ = false

pub record AskersJoinOrAreFull : Type 0 where
  pub full : (setup : Setup) (entries : List Entry) (n : ℕ) →
      is_full (link_verdict setup entries n)
      ≡ (asks_at (past_at setup entries n) && not (is_some (claim_at entries n)))
  pub joins : (setup : Setup) (entries : List Entry) (n : ℕ) →
      is_joining (link_verdict setup entries n)
      ≡ (asks_at (past_at setup entries n) && is_some (claim_at entries n))

-- Who asks for a place asks for it in a served module.
abbrev pub AskersAskForServedModules : Type 0
AskersAskForServedModules =
    (setup : Setup) (entries : List Entry) (n : ℕ) → asks_at (past_at setup entries n) ≡ true →
    (request : Request) × (request_in (notice_at entries n) ≡ Some request)
    × (serves setup.modules request.letter ≡ true)

-- the event is a Join
abbrev pub is_join : Body → Bool
is_join (Join k x callsign listen after) = true
is_join _ = false

-- The Joins for a module are those of the entries that asked for it and have a claim, in order,
-- each entry once.
abbrev pub JoinsAreTheClaims : Type 0
JoinsAreTheClaims =
    (setup : Setup) (entries : List Entry) (letter : ℕ) →
    filter (λ event. is_join event.body) (routed setup entries letter)
    ≡ flat_map (joins_at setup entries letter) (range_with_len 0 (length entries))

-- The Joins of all entries that ask for a place and have a claim, in order.
abbrev pub join_by : Here → Notice → Option Request → Option Claim → List Event
join_by here (Notice.Sent from at p) (Some request) (Some claim) =
    join_event here from request claim ∷ []
join_by here _ _ _ = []

unfoldable pub all_joins : Setup → List Entry → List Event
all_joins setup entries = flat_map
    (λ n. if asks_at (past_at setup entries n)
    then join_by (here_of (past_at setup entries n)) (notice_at entries n)
    (request_in (notice_at entries n)) (claim_at entries n) else [])
    (range_with_len 0 (length entries))

-- The Joins for all served modules together are these, each as often.
abbrev pub JoinsOfAllModules : Type 0
JoinsOfAllModules =
    (setup : Setup) (entries : List Entry) (test : Event → Bool) →
    sum_by (λ letter. count_by test
    (filter (λ event. is_join event.body) (routed setup entries letter)))
    (letters_of setup.modules)
    ≡ count_by test (all_joins setup entries)

-- Where a link has ended nobody is known.
abbrev pub NobodyIsKnownBehindTheEnd : Type 0
NobodyIsKnownBehindTheEnd =
    (setup : Setup) (entries : List Entry) → EndsOnce entries →
    known_at (past_at setup entries (length entries)) ≡ []

-- No entry has a claim but one that asks for a place.
abbrev pub ClaimsAreAsked : Setup → List Entry → Type 0
ClaimsAreAsked setup entries =
    (n : ℕ) → n < length entries → asks_at (past_at setup entries n) ≡ false →
    claim_at entries n ≡ None

-- how many of the Joins, and of the Leaves, that a module is routed are of such a member
abbrev pub joined_count : Setup → List Entry → ℕ → (Member → Bool) → ℕ
joined_count setup entries letter test =
    count_by test (filter_map (λ event. joiner_of event.body) (routed setup entries letter))

abbrev pub left_count : Setup → List Entry → ℕ → (Member → Bool) → ℕ
left_count setup entries letter test =
    count_by test (filter_map (λ event. leaver_of event.body) (routed setup entries letter))

-- Who has joined a module, as often, has left it or is known in it; so with the end of a link each
-- has left.
pub record WhoJoinsLeaves : Type 0 where
  pub so_far : (setup : Setup) (entries : List Entry) (letter : ℕ) (test : Member → Bool) →
      ClaimsAreAsked setup entries →
      joined_count setup entries letter test
      ≡ left_count setup entries letter test
      + count_by (λ (k : Known). k.letter == letter && test k.member)
      (known_at (past_at setup entries (length entries)))
  pub at_the_end : (setup : Setup) (entries : List Entry) (letter : ℕ) (test : Member → Bool) →
      ClaimsAreAsked setup entries → EndsOnce entries →
      joined_count setup entries letter test ≡ left_count setup entries letter test

-- The members that joined by the entries before a position, and those that left by them, each with
-- its peer.
abbrev pub joined_by : Notice → Option Claim → List Departed
joined_by (Notice.Sent from at p) (Some claim) =
    record { member = claim.member; peer = from } ∷ []
joined_by _ _ = []

unfoldable pub joined_before : Setup → List Entry → ℕ → List Departed
joined_before setup entries n = flat_map
    (λ i. if asks_at (past_at setup entries i)
    then joined_by (notice_at entries i) (claim_at entries i) else []) (range_with_len 0 n)

unfoldable pub left_before : Setup → List Entry → ℕ → List Departed
left_before setup entries n =
    flat_map (λ i. map departed_of (outcome_at setup entries i).left) (range_with_len 0 n)

-- a member of this peer, and such a one
abbrev pub is_of_peer : Peer → (Member → Bool) → Departed → Bool
is_of_peer x test d = is_peer x d.peer && test d.member

-- Who has joined has left, as often, or is known; and where a peer asks for a place, each member
-- that it was has left, the last of them by this entry at the latest.
pub record PeersComeAndGo : Type 0 where
  pub so_far : (setup : Setup) (entries : List Entry) (n : ℕ) (test : Departed → Bool) →
      ClaimsAreAsked setup entries → n ≤ length entries →
      count_by test (joined_before setup entries n)
      ≡ count_by test (left_before setup entries n)
      + count_by (λ (k : Known). test (departed_of k)) (known_at (past_at setup entries n))
  pub asking : (setup : Setup) (entries : List Entry) (n : ℕ) (x : Peer) (test : Member → Bool) →
      ClaimsAreAsked setup entries → n < length entries →
      asks_at (past_at setup entries n) ≡ true → is_from x (notice_at entries n) ≡ true →
      count_by (is_of_peer x test) (joined_before setup entries n)
      ≡ count_by (is_of_peer x test)
      (left_before setup entries n ++ map departed_of (unclaimed_at (past_at setup entries n)).left)

-- A reply past all modules, if this is one; and all that a link answers so, in order.
abbrev pub direct_of : Dispatch → Option Direct
direct_of (ToModule letter event) = None
direct_of (ToDoor direct) = Some direct

unfoldable pub door_replies : Setup → List Entry → List Direct
door_replies setup entries = filter_map direct_of (posted setup entries)

-- what it answers this peer, if it is for it
abbrev pub told_to : Peer → Direct → Option Control
told_to x direct = if is_peer x direct.peer then Some direct.control else None

-- it is a NACK, or a DISC of 4 bytes
abbrev pub is_door_reply : Control → Bool
is_door_reply Nack = true
is_door_reply (Disc None) = true
is_door_reply _ = false

-- The replies past all modules carry the link, each is a NACK or a DISC of 4 bytes, those for a
-- peer are its direct replies, and one entry more answers behind all before.
pub record DoorCarriesReplies : Type 0 where
  pub link : (setup : Setup) (entries : List Entry) →
      AllByRecursion (λ direct. direct.link ≡ setup.link) (door_replies setup entries)
  pub kinds : (setup : Setup) (entries : List Entry) →
      AllByRecursion (λ direct. is_door_reply direct.control ≡ true) (door_replies setup entries)
  pub to_peer : (setup : Setup) (entries : List Entry) (x : Peer) →
      filter_map (told_to x) (door_replies setup entries) ≡ direct_replies setup entries x
  pub more : (setup : Setup) (entries : List Entry) (entry : Entry) →
      door_replies setup (entries ++ entry ∷ []) ≡ door_replies setup entries
      ++ filter_map direct_of (posts_at setup (entries ++ entry ∷ []) (length entries))

-- Peers that their order finds equal are one, and each is equal to itself.
pub record PeersAreToldApart : Type 0 where
  pub same : (a b : Peer) → is_peer a b ≡ true → a ≡ b
  pub itself : (x : Peer) → is_peer x x ≡ true

-- the entry is a datagram from the peer, whatever its bytes say
abbrev pub CameFrom : Peer → Notice → Type 0
CameFrom x (Notice.Sent from at p) = x ≡ from
CameFrom x (Notice.Garbled from at refusal) = x ≡ from
CameFrom x _ = ⊥

-- The peers that are named before a position stand in strict order, and are just those that a
-- datagram came from there.
pub record PeersAreNamedInOrder : Type 0 where
  pub rising : (entries : List Entry) (n i j : ℕ) (x y : Peer) → i < j →
      slice_get (peers_named entries n) i ≡ Some x → slice_get (peers_named entries n) j ≡ Some y →
      peer_cmp x y ≡ Less
  pub senders : (entries : List Entry) (n : ℕ) (x : Peer) →
      ((i : ℕ) × (slice_get (peers_named entries n) i ≡ Some x))
      ↔ ((i : ℕ) × (i < n) × CameFrom x (notice_at entries i))

-- An entry that asks for a place comes to what it comes to before its claim, and then to what its
-- request comes to by the claim; any other entry to the former alone.
pub record ClaimsCompleteAskers : Type 0 where
  pub asking : (setup : Setup) (entries : List Entry) (n : ℕ) →
      asks_at (past_at setup entries n) ≡ true → outcome_at setup entries n
      ≡ both (unclaimed_at (past_at setup entries n))
      (settled_at (past_at setup entries n) (claim_at entries n))
  pub other : (setup : Setup) (entries : List Entry) (n : ℕ) →
      asks_at (past_at setup entries n) ≡ false →
      outcome_at setup entries n ≡ unclaimed_at (past_at setup entries n)

-- The member that an event is of, if it is of one.
abbrev pub member_of : Body → Option Member
member_of (Join k x callsign listen after) = Some k
member_of (Leave k why) = Some k
member_of (Packet k p) = Some k
member_of (Reply k control) = Some k
member_of _ = None

-- Each member that an event of a route is of was given by a claim: what is true of the members of
-- all claims is true of it.
abbrev pub RouteIsOfClaimed : Type 0
RouteIsOfClaimed =
    (setup : Setup) (entries : List Entry) (letter : ℕ) (test : Member → Bool) →
    ((n : ℕ) (claim : Claim) → claim_at entries n ≡ Some claim → test claim.member ≡ true) →
    AllByRecursion (λ k. test k ≡ true)
    (filter_map (λ (event : Event). member_of event.body) (routed setup entries letter))

-- The members of the claims, in order; where claims stand at asking entries alone, they are those
-- that join, in order.
abbrev pub claimed_members : List Entry → List Member
claimed_members entries = filter_map
    (λ (entry : Entry). option_map (λ (claim : Claim). claim.member) entry.claim) entries

pub record EachClaimJoins : Type 0 where
  pub joins : (setup : Setup) (entries : List Entry) → ClaimsAreAsked setup entries →
      filter_map (λ (event : Event). joiner_of event.body) (all_joins setup entries)
      ≡ claimed_members entries
  pub joined : (setup : Setup) (entries : List Entry) → ClaimsAreAsked setup entries →
      map (λ (d : Departed). d.member) (joined_before setup entries (length entries))
      ≡ claimed_members entries

-- Whoever leaves by an entry was known before it: of no kind do more leave than were known.
abbrev pub LeaversWereKnown : Type 0
LeaversWereKnown =
    (setup : Setup) (entries : List Entry) (n : ℕ) (test : Departed → Bool) →
    count_by (λ (k : Known). test (departed_of k)) (outcome_at setup entries n).left
    ≤ count_by (λ (k : Known). test (departed_of k)) (known_at (past_at setup entries n))

-- Two lists of entries that say the same, each with claims that are given freely.
pub record AreGivenOtherwise (setup : Setup) (entries others : List Entry) : Type 0 where
  pub same : SayTheSame entries others
  pub first : AreGivenFreely setup entries
  pub second : AreGivenFreely setup others

-- Which free places are given changes no verdict, nor who is known, but for the members, nor what
-- is answered past all modules; and each module is routed the same events, but for the members and
-- for how many departed ones a greeting waits for.
pub record PlacesChangeNoVerdict : Type 0 where
  pub verdicts : (setup : Setup) (entries others : List Entry) →
      AreGivenOtherwise setup entries others → (n : ℕ) → n < length entries →
      link_verdict setup entries n ≡ link_verdict setup others n
  pub known : (setup : Setup) (entries others : List Entry) →
      AreGivenOtherwise setup entries others → (n : ℕ) → n ≤ length entries →
      AllZip (IsRenamedRow (stands_for entries others)) (known_at (past_at setup entries n))
      (known_at (past_at setup others n))
  pub answers : (setup : Setup) (entries others : List Entry) →
      AreGivenOtherwise setup entries others → (x : Peer) →
      direct_replies setup entries x ≡ direct_replies setup others x
  pub routes : (setup : Setup) (entries others : List Entry) →
      AreGivenOtherwise setup entries others → (letter : ℕ) →
      AreRenamedEvents (stands_for entries others) (routed setup entries letter)
      (routed setup others letter)

-- Where places are given freely, who joins a module takes one of the places, and whoever joined the
-- module at it before has left.
abbrev pub JoinsTakeFreePlaces : Type 0
JoinsTakeFreePlaces =
    (setup : Setup) (entries : List Entry) (letter : ℕ) → AreGivenFreely setup entries →
    TakeFreePlaces setup.places (routed setup entries letter)

-- Each claim is of one of the places.
abbrev pub ClaimsArePlaced : Setup → List Entry → Type 0
ClaimsArePlaced setup entries =
    (n : ℕ) (claim : Claim) → claim_at entries n ≡ Some claim → claim.member.place < setup.places

-- Where an entry asks and as many others are still known as there are places, each place was
-- claimed by an entry before it.
abbrev pub AllPlacesAreClaimed : Type 0
AllPlacesAreClaimed =
    (setup : Setup) (entries : List Entry) (n q : ℕ) → ClaimsAreAsked setup entries →
    ClaimsArePlaced setup entries → n < length entries →
    asks_at (past_at setup entries n) ≡ true →
    length (others_at (past_at setup entries n)) ≡ setup.places → q < setup.places →
    (i : ℕ) × (claim : Claim) × (i < n) × (claim_at entries i ≡ Some claim)
    × (claim.member.place ≡ q)

-- The member was given by a claim, and a later entry's claim is of its place again.
pub record IsClaimedAgain (entries : List Entry) (k : Member) : Type 0 where
  pub first : ℕ
  pub second : ℕ
  pub own : Claim
  pub other : Claim
  pub later : first < second
  pub own_there : claim_at entries first ≡ Some own
  pub other_there : claim_at entries second ≡ Some other
  pub is_own : own.member ≡ k
  pub same_place : other.member.place ≡ k.place

-- A Leave that a module is routed stands behind a Join of its member there; and where the member is
-- replaced, its place was claimed again.
abbrev pub LeavesFollowJoins : Type 0
LeavesFollowJoins =
    (setup : Setup) (entries : List Entry) (letter n : ℕ) (event : Event) (k : Member)
    (why : Why) → slice_get (routed setup entries letter) n ≡ Some event →
    event.body ≡ Leave k why →
    ((i : ℕ) × (i < n) × (joiner_at (routed setup entries letter) i ≡ Some k))
    × (why ≡ Replaced → IsClaimedAgain entries k)
