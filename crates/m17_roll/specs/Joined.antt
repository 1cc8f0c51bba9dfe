-- Seats that are being joined, as `close` goes from the last one to the first.
use Rattle.std.specs.Prelude.{◌≡◌, ℕ, zero, suc, ◌+◌, List, [], ◌∷◌, ◌++◌, map, length}
use Rattle.atomic_table.specs.Seated.{TableId}
use Rattle.m17_values.specs.declared.member.Member.{Member}
use Rattle.m17_roll.specs.Run.{count_at}
use Rattle.m17_roll.specs.Seat.{RollView}
use Rattle.m17_roll.specs.Closing.{EndView, claims_of, gifts_of}

-- the seats of a roll that were joined so far
pub record GatheredView : Type 0 where
  pub roll : TableId
  pub seats : ℕ
  pub places : ℕ
  pub parts : ℕ
  pub claimed : List Member
  pub given : List Member
  pub refused : List (List ℕ)

abbrev pub first_gathered : RollView → GatheredView
first_gathered s = record {
  roll = s.roll;
  seats = s.seats;
  places = s.places;
  parts = 1;
  claimed = s.claimed;
  given = s.given;
  refused = s.refused ∷ [];
}

abbrev pub with_seat : GatheredView → RollView → GatheredView
with_seat g s = record {
  roll = g.roll;
  seats = g.seats;
  places = g.places;
  parts = g.parts + 1;
  claimed = s.claimed ++ g.claimed;
  given = s.given ++ g.given;
  refused = s.refused ∷ g.refused;
}

-- the words of n places from the k-th on: each has risen by one at each claim and at each giving
-- back
abbrev pub words_from : ℕ → ℕ → List Member → List Member → List ℕ
words_from k zero claimed given = []
words_from k (suc n) claimed given =
    let risen = count_at k claimed + count_at k given in risen ∷ words_from (suc k) n claimed given

abbrev pub words_of : ℕ → List Member → List Member → List ℕ
words_of places claimed given = words_from 0 places claimed given

-- what is shown of a roll when all its seats are here
abbrev pub end_of : GatheredView → EndView
end_of g = record {
  words = words_of g.places g.claimed g.given;
  claimed = g.claimed;
  given = g.given;
  refused = g.refused;
}

-- these seats were joined
pub record IsGathered (r : TableId) (places seats : ℕ) (ss : List RollView) (g : GatheredView) : Type 0 where
  pub same_roll : g.roll ≡ r
  pub same_places : g.places ≡ places
  pub same_seats : g.seats ≡ seats
  pub parts : g.parts ≡ length ss
  pub claimed : g.claimed ≡ claims_of ss
  pub given : g.given ≡ gifts_of ss
  pub refused : g.refused ≡ map (λ s. s.refused) ss
