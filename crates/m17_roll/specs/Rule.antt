-- The rule that every step on the table keeps, and what each kind of step tells its seat.
use Rattle.std.specs.Prelude.{◌≡◌, ◌≢◌, ℕ, zero, suc, ◌+◌, ◌/◌, ◌<◌, ◌≤◌, List, [], ◌∷◌, length, slice_index}
use Rattle.std.specs.List.{All, Contains}
use mathlib.Core.Option.{some}
use lib.ListN.{get_elem?}
use Rattle.atomic_table.specs.Table.{State, Me, Step}
use Rattle.m17_values.specs.declared.member.Member.{Member}
use Rattle.m17_roll.specs.declared.rule.Notes.{Notes}
use Rattle.m17_roll.specs.declared.rule.Sighting.{Sighting}
use Rattle.m17_roll.specs.Sightings.{sighting, IsNotBelow, IsNewAt, IsTaken}
use Rattle.m17_roll.specs.Notes.{sees, claiming, giving, missing, refusing, refusals}

-- the weights of the members, added up
abbrev pub weigh : (ℕ → ℕ → ℕ) → List Member → ℕ
weigh h [] = 0
weigh h (m ∷ ms) = h m.place m.generation + weigh h ms

-- f of each seat, added up
abbrev pub total : (Notes → ℕ) → List Notes → ℕ
total f [] = 0
total f (v ∷ vs) = f v + total f vs

-- h 0 to h (n - 1), added up
abbrev pub upto : (ℕ → ℕ) → ℕ → ℕ
upto h zero = 0
upto h (suc n) = upto h n + h n

-- the weights of all members whose generation is below f of their place's word, added up
abbrev pub sums : (ℕ → ℕ → ℕ) → (ℕ → ℕ) → List ℕ → ℕ
sums h f [] = 0
sums h f (w ∷ ws) = upto (h zero) (f w) + sums (λ q. h (suc q)) f ws

-- how many generations of a place were claimed, and given back, by its word
abbrev pub claims_by : ℕ → ℕ
claims_by w = (w + 1) / 2

abbrev pub gifts_by : ℕ → ℕ
gifts_by w = w / 2

-- a seat that was joined to another has no list left; no word falls below what was seen; a refusal
-- saw no word at 0
pub record Fits (words : List ℕ) (v : Notes) : Type 0 where
  pub idle : v.parts ≡ 0 → (v.claimed ≡ []) × (v.given ≡ [])
  pub sized : 0 < v.parts → v.places ≡ length words
  pub below : All (λ x. x.word ≤ slice_index words x.place) v.seen
  pub asked : 0 < refusals v → (q : ℕ) → q < length words → 0 < slice_index words q

-- However members are weighed, all claims weigh what the words say was claimed, and all givings
-- back what they say was given back. No word passes its last value, and the seats are as many as
-- were made.
pub record Kept (places seats : ℕ) (s : State (Unit {0}) Notes) : Type 0 where
  pub wide : length s.words ≡ places
  pub bounded : (q : ℕ) → slice_index s.words q ≤ 18446744073709551614
  pub whole : total (λ v. v.parts) s.views ≡ seats
  pub claims : (h : ℕ → ℕ → ℕ) → total (λ v. weigh h v.claimed) s.views ≡ sums h claims_by s.words
  pub gifts : (h : ℕ → ℕ → ℕ) → total (λ v. weigh h v.given) s.views ≡ sums h gifts_by s.words
  pub each : (id : ℕ) (v : Notes) → get_elem? s.views id ≡ some v → Fits s.words v

abbrev pub Mine : Type 0
Mine = Me (Unit {0}) Notes

-- the word was noted
abbrev pub Saw : Mine → ℕ → ℕ → Mine → Type 0
Saw m q r m' = (m' ≡ (sees m.0 q r, m.1)) × IsNotBelow m.0.seen q r

abbrev pub looked : Step (Unit {0}) → Mine → ℕ → Mine → Type 0
looked st m r m' = Saw m st.word r m'

-- a look of a claim: where it finds the place taken, these askers are refused
pub record LookedFor (who : List ℕ) (m : Mine) (q r : ℕ) (m' : Mine) : Type 0 where
  pub not_below : IsNotBelow m.0.seen q r
  pub taken : IsTaken r → m' ≡ (refusing (sees m.0 q r) who, m.1)
  pub free : ¬ IsTaken r → m' ≡ (sees m.0 q r, m.1)

abbrev pub looked_for : List ℕ → Step (Unit {0}) → Mine → ℕ → Mine → Type 0
looked_for who st m r m' = LookedFor who m st.word r m'

-- the exchange of a claim: won, and then the member is noted, or lost, and then the word and these
-- refused askers are
pub record ClaimedFor (who : List ℕ) (m : Mine) (q old r : ℕ) (m' : Mine) : Type 0 where
  pub won : r ≡ old → (m' ≡ (claiming m.0 q (old / 2), m.1)) × IsNewAt m.0.claimed q (old / 2)
  pub lost : r ≢ old → (m' ≡ (refusing (sees m.0 q r) who, m.1)) × IsNotBelow m.0.seen q r

abbrev pub claims_for : List ℕ → Step (Unit {0}) → Mine → ℕ → Mine → Type 0
claims_for who st m r m' = ClaimedFor who m st.word st.first r m'

-- the exchange of a giving back: won, and then the member is noted, or lost, and then the word is
pub record Gave (m : Mine) (q old r : ℕ) (m' : Mine) : Type 0 where
  pub won : r ≡ old → m' ≡ (giving m.0 q (old / 2), m.1)
  pub lost : r ≢ old → (m' ≡ (missing m.0 q r, m.1)) × IsNotBelow m.0.seen q r

abbrev pub gives : Step (Unit {0}) → Mine → ℕ → Mine → Type 0
gives st m r m' = Gave m st.word st.first r m'

-- the table as the seat sees it that all others were joined to
pub record Shown (v : Notes) (q r : ℕ) : Type 0 where
  pub words : List ℕ
  pub wide : length words ≡ v.places
  pub found : slice_index words q ≡ r
  pub claims : (h : ℕ → ℕ → ℕ) → weigh h v.claimed ≡ sums h claims_by words
  pub gifts : (h : ℕ → ℕ → ℕ) → weigh h v.given ≡ sums h gifts_by words
  pub asked : 0 < refusals v → (p : ℕ) → p < length words → 0 < slice_index words p

abbrev pub reads : Step (Unit {0}) → Mine → ℕ → Mine → Type 0
reads st m r m' = (m' ≡ m) × Shown m.0 st.word r

-- some word above 0 was seen at this place
abbrev pub IsSeenAbove : List Sighting → ℕ → Type 0
IsSeenAbove seen q = (w : ℕ) × Contains seen (sighting q w) × (0 < w)

-- where somebody is to be refused, every place but this one was seen with a word above 0
abbrev pub SeenElse : ℕ → ℕ → List Sighting → List ℕ → Type 0
SeenElse places place seen who =
    0 < length who → (q : ℕ) → q < places → q ≢ place → IsSeenAbove seen q
