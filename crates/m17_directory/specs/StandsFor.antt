-- What the table of a directory stands for, out of all that its link heard.
use Rattle.std.specs.Prelude.{◌≡◌, ◌==◌, ◌&&◌, ◌||◌, ℕ, zero, suc, ◌+◌, ◌<◌, ◌≤◌, nat_eq, Bool, true, false, not, List, [], ◌∷◌, ◌++◌, length, map, filter, Option, None, Some, if◌then◌else◌}
use Rattle.std.specs.List.{list_any, AllByRecursion, IsDistinct}
use Rattle.std.specs.Option.{option_map_or}
use Rattle.m17_values.specs.declared.member.Member.{Member}
use Rattle.m17_values.specs.declared.peer.Peer.{Peer}
use Rattle.m17_control.specs.declared.packet.Packet.{Packet}
use Rattle.m17_directory.specs.declared.asked.Asked.{Asked}
use Rattle.m17_directory.specs.declared.dispatch.Dispatch.{Dispatch}
use Rattle.m17_directory.specs.declared.known.Departed.{Departed}
use Rattle.m17_directory.specs.declared.known.Known.{Known}
use Rattle.m17_directory.specs.declared.verdict.LinkVerdict.{LinkVerdict}
use Rattle.m17_directory.specs.Entries.{Notice, Claim, Entry, Setup, notice_at, claim_at, moment_before, is_peer, is_fault}
use Rattle.m17_directory.specs.Known.{known_at, request_of}
use Rattle.m17_directory.specs.Outcome.{Outcome}
use Rattle.m17_directory.specs.declared.verdict.LinkVerdict.TheVariants.{Asks}
use Rattle.m17_directory.specs.Routed.{past_at, asks_at, unclaimed_at, settled_at, others_at}

-- What a directory keeps: how it was made, the link's moment, who is known, in order of peers, the
-- request that waits for a claim, if one does, who has left and was not reported yet, how many
-- faults came last in a row, and whether the link has ended.
pub record DirectoryKept : Type 0 where
  pub setup : Setup
  pub moment : ℕ
  pub known : List Known
  pub asked : Option Asked
  pub departing : List Departed
  pub faults : ℕ
  pub ended : Bool

-- how many of the entries right before position n are faults
abbrev pub faults_before : List Entry → ℕ → ℕ
faults_before entries zero = 0
faults_before entries (suc n) =
    if is_fault (notice_at entries n) then suc (faults_before entries n) else 0

-- The request is that of the last entry, which asks for a place and has no claim.
pub record IsAsked (setup : Setup) (entries : List Entry) (asked : Asked) : Type 0 where
  pub last : suc asked.index ≡ length entries
  pub asks : asks_at (past_at setup entries asked.index) ≡ true
  pub no_claim : claim_at entries asked.index ≡ None
  pub at : ℕ
  pub packet : Packet
  pub says : notice_at entries asked.index ≡ Notice.Sent asked.peer at packet
  pub request : request_of packet ≡ Some asked.request

-- The directory may have come from these entries.
pub record StandsFor (kept : DirectoryKept) (entries : List Entry) : Type 0 where
  pub moment : kept.moment ≡ moment_before entries (length entries)
  pub known : kept.known ≡ known_at (past_at kept.setup entries (length entries))
  pub asked : (asked : Asked) → kept.asked ≡ Some asked → IsAsked kept.setup entries asked
  pub faults : kept.faults ≡ faults_before entries (length entries)

-- how many members may be known and departing together
abbrev pub most_members : ℕ
most_members = 512

-- What is true of every directory: it knows at most as many peers as there are places, 512 members
-- are known and departing at most, and the places of those that are known are places, each another.
pub record IsBounded (kept : DirectoryKept) : Type 0 where
  pub known : length kept.known ≤ kept.setup.places
  pub members : length kept.known + length kept.departing ≤ most_members
  pub below : AllByRecursion (λ k. k.member.place < kept.setup.places) kept.known
  pub apart : IsDistinct nat_eq (map (λ k. k.member.place) kept.known)

-- an entry that has no claim, and one that has it
abbrev pub unclaimed : Notice → Entry
unclaimed notice = record { notice = notice; claim = None }

abbrev pub claimed : Notice → Option Claim → Entry
claimed notice claim = record { notice = notice; claim = claim }

-- who has left, as it is kept
abbrev pub departed_of : Known → Departed
departed_of k = record { member = k.member; peer = k.peer }

-- the departing with these that have left
abbrev pub with_left : List Departed → List Known → List Departed
with_left departing left = departing ++ map departed_of left

-- more may have left, behind those that had
abbrev pub HasGrown : List Departed → List Departed → Type 0
HasGrown old new = (more : List Departed) × (new ≡ old ++ more)

-- What a call answered, and what it posted.
pub record Answer : Type 0 where
  pub verdict : LinkVerdict
  pub posts : List Dispatch

-- The answer is this outcome, and who left by it is departing.
pub record HasOutcome (old new : DirectoryKept) (answer : Answer) (outcome : Outcome) : Type 0 where
  pub verdict : answer.verdict ≡ outcome.verdict
  pub posts : answer.posts ≡ outcome.posts
  pub departing : new.departing ≡ with_left old.departing outcome.left

-- The link heard an entry that says this, behind these: the directory then stands for the list with
-- it, without a claim; its answer is what the entry comes to; and where it asks, those that are
-- known are the others.
pub record IsHeard (old new : DirectoryKept) (entries : List Entry) (notice : Notice) (answer : Answer)
    : Type 0 where
  pub stands : StandsFor new (entries ++ unclaimed notice ∷ [])
  pub outcome : HasOutcome old new answer
      (unclaimed_at (past_at old.setup (entries ++ unclaimed notice ∷ []) (length entries)))
  pub others : answer.verdict ≡ Asks → new.known
      ≡ others_at (past_at old.setup (entries ++ unclaimed notice ∷ []) (length entries))

-- The request of the last entry, behind these, was settled by this claim: the directory then stands
-- for the list in which the entry has it, and its answer is what the request comes to.
pub record IsSettled (old new : DirectoryKept) (entries : List Entry) (entry : Entry) (answer : Answer)
    : Type 0 where
  pub stands : StandsFor new (entries ++ entry ∷ [])
  pub outcome : HasOutcome old new answer
      (settled_at (past_at old.setup (entries ++ entry ∷ []) (length entries)) entry.claim)

-- some member of this peer is departing
abbrev pub has_departing : Peer → List Departed → Bool
has_departing x departing = list_any (λ d. is_peer x d.peer) departing

-- A request must wait: one is asked, and its peer has a departing member, or 512 are known and
-- departing.
abbrev pub must_wait : DirectoryKept → Bool
must_wait kept = option_map_or (λ asked. has_departing asked.peer kept.departing
    || (length kept.known + length kept.departing) == most_members) kept.asked false

-- the departing but this member
abbrev pub is_member : Member → Departed → Bool
is_member m d = d.member.place == m.place && d.member.generation == m.generation

abbrev pub without_member : Member → List Departed → List Departed
without_member m departing = filter (λ d. not (is_member m d)) departing
