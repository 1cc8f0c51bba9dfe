-- What contracts see of a seat, and what each call does to it.
use Rattle.std.specs.Prelude.{◌≡◌, ◌≢◌, ℕ, ◌+◌, ◌-◌, ◌*◌, ◌^◌, ◌<◌, ◌≤◌, ◌⊎◌, List, [], ◌∷◌, ◌++◌, length, replicate}
use Rattle.atomic_table.specs.Seated.{TableId}
use Rattle.m17_values.specs.declared.member.Member.{Member}
use Rattle.m17_roll.specs.declared.rule.Sighting.{Sighting}
use Rattle.m17_roll.specs.Sightings.{sighting, free_for, IsNotBelow, IsNewAt, IsSeenTaken}

-- A seat: which roll it belongs to, the roll's numbers of seats and places, and in order of time
-- the members that this seat claimed, those that it gave back, what it found where a giving back
-- was refused, its refused askers, and what it found at looks and at lost claims.
pub record RollView : Type 0 where
  pub roll : TableId
  pub seats : ℕ
  pub places : ℕ
  pub claimed : List Member
  pub given : List Member
  pub missed : List Sighting
  pub refused : List ℕ
  pub seen : List Sighting

-- a seat that has done nothing
abbrev pub new_seat : TableId → ℕ → ℕ → RollView
new_seat roll seats places = record {
  roll = roll;
  seats = seats;
  places = places;
  claimed = [];
  given = [];
  missed = [];
  refused = [];
  seen = [];
}

-- These are new seats of one roll, as many as it has, with this number of places.
abbrev pub AreNew : ℕ → ℕ → List RollView → Type 0
AreNew places seats all = (roll : TableId) × (all ≡ replicate seats (new_seat roll seats places))

-- the seat is of this roll, which has this number of seats and of places
abbrev pub IsSeatOf : TableId → ℕ → ℕ → RollView → Type 0
IsSeatOf roll seats places s = (s.roll ≡ roll) × (s.seats ≡ seats) × (s.places ≡ places)

-- The seat is still that seat: of the same roll. What it did meanwhile is not said.
abbrev pub IsSameSeat : RollView → RollView → Type 0
IsSameSeat before after = IsSeatOf before.roll before.seats before.places after

-- The seat's claims, the members that it gave back, and its refused askers are these. What it saw is
-- not said.
abbrev pub HasLists : List Member → List Member → List ℕ → RollView → Type 0
HasLists claimed given refused s =
    (s.claimed ≡ claimed) × (s.given ≡ given) × (s.refused ≡ refused)

-- the seat as it was, and after these looks
abbrev pub with_looks : RollView → List Sighting → RollView
with_looks s looks = record s { seen = s.seen ++ looks }

-- .. with one claim more
abbrev pub with_claim : RollView → Member → RollView
with_claim s m = record s { claimed = s.claimed ++ m ∷ [] }

-- .. with one member more given back
abbrev pub with_gift : RollView → Member → RollView
with_gift s m = record s { given = s.given ++ m ∷ [] }

-- .. with what it found where a giving back was refused
abbrev pub with_miss : RollView → Sighting → RollView
with_miss s x = record s { missed = s.missed ++ x ∷ [] }

-- .. with these refused askers more
abbrev pub with_refused : RollView → List ℕ → RollView
with_refused s askers = record s { refused = s.refused ++ askers }

-- The seat claimed the member. It saw every lower place taken, in at most twice as many looks as there
-- are of them, and then found the member's place free for a generation that isn't its last, later than
-- any that this seat had claimed there.
pub record IsClaim (old : RollView) (m : Member) (new : RollView) : Type 0 where
  pub looks : List Sighting
  pub few : length looks ≤ 2 * m.place
  pub lower : (q : ℕ) → q < m.place → IsSeenTaken looks q
  pub after : new ≡ with_claim (with_looks old (looks ++ free_for m ∷ [])) m
  pub in_roll : m.place < old.places
  pub not_last : m.generation < 2 ^ 63 - 1
  pub newer : IsNewAt old.claimed m.place m.generation

-- The seat refused the asker. It saw every place of the roll taken in this call, in at most twice as
-- many looks as there are places.
pub record IsRefusal (old : RollView) (asker : ℕ) (new : RollView) : Type 0 where
  pub looks : List Sighting
  pub few : length looks ≤ 2 * old.places
  pub all_taken : (q : ℕ) → q < old.places → IsSeenTaken looks q
  pub after : new ≡ with_refused (with_looks old looks) (asker ∷ [])

-- The word of the member's place was not that of the member: the exchange found another one, no
-- lower than any that this seat had seen there.
pub record IsMiss (old : RollView) (m : Member) (new : RollView) : Type 0 where
  pub in_roll : m.place < old.places
  pub word : ℕ
  pub another : word ≢ 2 * m.generation + 1
  pub not_below : IsNotBelow old.seen m.place word
  pub after : new ≡ with_miss old (sighting m.place word)

-- The member was not given back: the roll has no such place, or no place can come to this
-- generation, and then nothing was done; or the place's word was another one.
abbrev pub IsNotGiven : RollView → Member → RollView → Type 0
IsNotGiven old m new =
    (((old.places ≤ m.place) ⊎ (2 ^ 63 - 1 ≤ m.generation)) × (new ≡ old))
    ⊎ IsMiss old m new

-- A place was claimed: it was found free for a generation that isn't its last, later than any that
-- this seat had claimed there.
pub record TakesAt (old : RollView) (place : ℕ) (m : Member) (new : RollView) : Type 0 where
  pub here : m.place ≡ place
  pub in_roll : place < old.places
  pub after : new ≡ with_claim (with_looks old (sighting place (2 * m.generation) ∷ [])) m
  pub not_last : m.generation < 2 ^ 63 - 1
  pub newer : IsNewAt old.claimed place m.generation

-- A place of the roll was seen taken, in at most two looks, and these askers were refused.
pub record PassesAt (old : RollView) (place : ℕ) (who : List ℕ) (new : RollView) : Type 0 where
  pub looks : List Sighting
  pub few : length looks ≤ 2
  pub in_roll : place < old.places
  pub taken : IsSeenTaken looks place
  pub after : new ≡ with_refused (with_looks old looks) who

-- The place was not claimed, and nobody was refused: the roll has no such place, and then nothing
-- was done; or it was seen taken.
abbrev pub IsNotClaimed : RollView → ℕ → RollView → Type 0
IsNotClaimed old place new =
    ((old.places ≤ place) × (new ≡ old)) ⊎ PassesAt old place [] new
