-- The run of a roll: what was claimed and given back in all, and the words that the places have in
-- the end.
use Rattle.std.specs.Prelude.{◌≡◌, ◌==◌, ◌&&◌, ℕ, ◌+◌, ◌-◌, ◌*◌, ◌<◌, ◌≤◌, ◌⊎◌, List, length, slice_index, count_by}
use Rattle.std.specs.List.{Contains}
use Rattle.m17_values.specs.declared.member.Member.{Member}
use Rattle.m17_roll.specs.Sightings.{member}

-- how many of the members are of this place
abbrev pub count_at : ℕ → List Member → ℕ
count_at place members = count_by (λ m. m.place == place) members

-- how often the member of place q and generation g stands among the members
abbrev pub times : ℕ → ℕ → List Member → ℕ
times q g members = count_by (λ m. (m.place == q) && (m.generation == g)) members

-- of the claimed members of a place the one with the last generation
abbrev pub last_of : ℕ → List Member → Member
last_of q claimed = member q (count_at q claimed - 1)

-- The place was never claimed, or its last member was given back.
abbrev pub IsLeftFree : ℕ → List Member → List Member → Type 0
IsLeftFree q claimed given =
    (count_at q claimed ≡ 0) ⊎ ((0 < count_at q claimed) × Contains given (last_of q claimed))

-- The place was claimed, and its last member was not given back.
abbrev pub IsLeftTaken : ℕ → List Member → List Member → Type 0
IsLeftTaken q claimed given = (0 < count_at q claimed) × ¬ Contains given (last_of q claimed)

-- With c claims a place has the word 2 c where it is left free, and 2 c - 1 where it is left taken.
abbrev pub HasWordFor : List ℕ → List Member → List Member → ℕ → Type 0
HasWordFor words claimed given q =
    (IsLeftFree q claimed given → slice_index words q ≡ 2 * count_at q claimed)
    × (IsLeftTaken q claimed given → slice_index words q + 1 ≡ 2 * count_at q claimed)

-- The words at the end, all members that were claimed, and all that were given back, are those of
-- one run. A place with c claims had the generations 0 to c - 1, each once, and no other, and it
-- has the word for that. Only claimed members of the roll's places were given back, each at most
-- once, and each of them before the next generation of its place was claimed.
pub record IsRollRun (words : List ℕ) (claimed given : List Member) : Type 0 where
  pub each_once : (q g : ℕ) → q < length words → g < count_at q claimed → times q g claimed ≡ 1
  pub no_other : (q g : ℕ) → q < length words → count_at q claimed ≤ g → times q g claimed ≡ 0
  pub word : (q : ℕ) → q < length words → HasWordFor words claimed given q
  pub within : (m : Member) → Contains claimed m → m.place < length words
  pub was_claimed : (m : Member) → Contains given m → Contains claimed m
  pub given_once : (q g : ℕ) → times q g given ≤ 1
  pub given_before :
      (a b : Member) → Contains claimed a → Contains claimed b → a.place ≡ b.place
      → a.generation < b.generation → Contains given a
