-- The seats of a roll brought together again, and what is shown then.
use Rattle.std.specs.Prelude.{ℕ, ◌<◌, List, [], ◌∷◌, ◌++◌, length}
use Rattle.std.specs.List.{All, Contains}
use Rattle.atomic_table.specs.Seated.{TableId}
use Rattle.m17_values.specs.declared.member.Member.{Member}
use Rattle.m17_roll.specs.Sightings.{member}
use Rattle.m17_roll.specs.Seat.{RollView, IsSeatOf}
use Rattle.m17_roll.specs.Run.{IsRollRun}

-- A closed roll: the words that the places have in the end, all members that were claimed, all that
-- were given back, and for each seat its refused askers.
pub record EndView : Type 0 where
  pub words : List ℕ
  pub claimed : List Member
  pub given : List Member
  pub refused : List (List ℕ)

-- These are all the seats of one roll: as many as were made, each of this roll with this number of places.
pub record AreAll (roll : TableId) (places : ℕ) (seats : List RollView) : Type 0 where
  pub some_seat : 0 < length seats
  pub each : All (IsSeatOf roll (length seats) places) seats

-- what the seats claimed, one seat after another
abbrev pub claims_of : List RollView → List Member
claims_of [] = []
claims_of (s ∷ ss) = s.claimed ++ claims_of ss

-- what the seats gave back, one seat after another
abbrev pub gifts_of : List RollView → List Member
gifts_of [] = []
gifts_of (s ∷ ss) = s.given ++ gifts_of ss

-- Some seat refused an asker.
abbrev pub HasRefusal : List (List ℕ) → Type 0
HasRefusal refused = (asker : ℕ) × (others : List ℕ) × Contains refused (asker ∷ others)

-- Every place of the roll stands among the claimed members.
abbrev pub EveryPlaceStands : List ℕ → List Member → Type 0
EveryPlaceStands words claimed =
    (q : ℕ) → q < length words → (generation : ℕ) × Contains claimed (member q generation)

-- What was claimed and given back is one run of the roll, and where some seat refused an asker,
-- every place of the roll stands among the claimed members.
pub record IsEnded (e : EndView) : Type 0 where
  pub run : IsRollRun e.words e.claimed e.given
  pub refused_when_full : HasRefusal e.refused → EveryPlaceStands e.words e.claimed
