-- The claims that a receiver makes for those who ask, and when their peers may be greeted.
use Rattle.std.specs.Prelude.{◌≡◌, ◌≢◌, ◌⊎◌, ◌↔◌, ℕ, ◌+◌, ◌*◌, Bool, true, false, ◌<◌, ◌≤◌, List, [], ◌∷◌, ◌++◌, length, take, filter, Contains, None, Some}
use Rattle.std.specs.List.{list_any, range_with_len}
use Rattle.m17_values.specs.declared.member.Member.{Member}
use Rattle.m17_values.specs.declared.peer.Peer.{Peer}
use Rattle.m17_roll.specs.Seat.{RollView}
use Rattle.m17_roll.specs.Sightings.{sighting}
use Rattle.m17_roll.specs.declared.rule.Sighting.{Sighting}
use Rattle.m17_directory.specs.Entries.{Notice, Claim, Entry, Setup, notice_at, claim_at, is_from}
use Rattle.m17_directory.specs.Outcome.{has_place}
use Rattle.m17_directory.specs.Routed.{past_at, asks_at, others_at, link_verdict}
use Rattle.m17_directory.specs.Laws.{ClaimsAreAsked, claimed_members, is_full}
use Rattle.m17_receiver.specs.Devices.{IsCounted}

-- The indexes of the entries that are Full: those that ask for a place and have no claim, in order.
unfoldable pub turned_away : Setup → List Entry → List ℕ
turned_away setup entries =
    filter (λ n. is_full (link_verdict setup entries n)) (range_with_len 0 (length entries))

-- An entry that asks is without a claim exactly where as many other peers are still known as there
-- are places.
abbrev pub IsPatientAt : Setup → List Entry → ℕ → Type 0
IsPatientAt setup entries n =
    (claim_at entries n ≡ None) ↔ (length (others_at (past_at setup entries n)) ≡ setup.places)

-- A claim of the entry is of a place that none of the other peers has that are still known.
abbrev pub HasFreePlaceAt : Setup → List Entry → ℕ → Type 0
HasFreePlaceAt setup entries n =
    (claim : Claim) → claim_at entries n ≡ Some claim →
    list_any (has_place claim.member.place) (others_at (past_at setup entries n)) ≡ false

-- The members of the entries' claims are those that the seat claimed, in order, and entries that
-- ask for a place have claims alone; the seat gave nothing back. A receiver that isn't patient
-- claims once for each that asks: the seat's refused askers are the Full entries. A patient one
-- claims no place of another known peer.
pub record HasClaimed (patient : Bool) (setup : Setup) (entries : List Entry) (seat : RollView)
    : Type 0 where
  pub asked : ClaimsAreAsked setup entries
  pub claims : seat.claimed ≡ claimed_members entries
  pub given : seat.given ≡ []
  pub refused : patient ≡ false → seat.refused ≡ turned_away setup entries
  pub patient_claims : patient ≡ true → (n : ℕ) → n < length entries →
      asks_at (past_at setup entries n) ≡ true → IsPatientAt setup entries n
  pub patient_places : patient ≡ true → (n : ℕ) → HasFreePlaceAt setup entries n

-- both entries are packets from one peer
abbrev pub AreOfOnePeer : Notice → Notice → Type 0
AreOfOnePeer a b = (x : Peer) × (is_from x a ≡ true) × (is_from x b ≡ true)

-- Each claim waits for at most as many notes as were popped, and those that it waits for name
-- each earlier member of its peer.
pub record IsGreetedAfter (entries : List Entry) (notes : List Member) : Type 0 where
  pub enough : (n : ℕ) (claim : Claim) → claim_at entries n ≡ Some claim →
      claim.after ≤ length notes
  pub earlier : IsCounted notes → (i n : ℕ) (first second : Claim) → i < n →
      claim_at entries i ≡ Some first → claim_at entries n ≡ Some second →
      AreOfOnePeer (notice_at entries i) (notice_at entries n) →
      Contains (take second.after notes) first.member

-- The last that the seat saw is that the place of the member is its own no more.
pub record SeesLeft (member : Member) (seat : RollView) : Type 0 where
  pub word : ℕ
  pub another : word ≢ 2 * member.generation + 1
  pub before : List Sighting
  pub last : seat.seen ≡ before ++ sighting member.place word ∷ []

-- The same, or the roll has no such place.
abbrev pub HasSeenLeft : Member → RollView → Type 0
HasSeenLeft member seat = (seat.places ≤ member.place) ⊎ SeesLeft member seat
