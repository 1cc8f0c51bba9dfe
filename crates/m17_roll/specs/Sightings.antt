-- Words that a seat found at places, and members that it claimed. The word of a place is 2 g while
-- it is free for its generation g, and 2 g + 1 while that generation has it.
use Rattle.std.specs.Prelude.{◌≡◌, ℕ, ◌-◌, ◌*◌, ◌%◌, ◌^◌, ◌<◌, ◌≤◌, ◌⊎◌, List, Some, slice_get}
use Rattle.std.specs.List.{All, AllPairs, Contains}
use Rattle.m17_values.specs.declared.member.Member.{Member}
use Rattle.m17_roll.specs.declared.rule.Sighting.{Sighting}

-- this word was found at this place
abbrev pub sighting : ℕ → ℕ → Sighting
sighting place word = record { place = place; word = word }

-- the member of this place and generation
abbrev pub member : ℕ → ℕ → Member
member place generation = record { place = place; generation = generation }

-- the member's place is free for it
abbrev pub free_for : Member → Sighting
free_for m = sighting m.place (2 * m.generation)

-- Of two words that were found at one place the later is not below the earlier.
abbrev pub NeverFalls : List Sighting → Type 0
NeverFalls seen = AllPairs (λ x y. x.place ≡ y.place → x.word ≤ y.word) seen

-- Of two claims of one place the later has the greater generation.
abbrev pub RisesAtPlaces : List Member → Type 0
RisesAtPlaces claimed = AllPairs (λ a b. a.place ≡ b.place → a.generation < b.generation) claimed

-- No word that was found at this place is above this one.
abbrev pub IsNotBelow : List Sighting → ℕ → ℕ → Type 0
IsNotBelow seen place word = All (λ x. x.place ≡ place → x.word ≤ word) seen

-- No claim of this place has this generation or a later one.
abbrev pub IsNewAt : List Member → ℕ → ℕ → Type 0
IsNewAt claimed place generation = All (λ m. m.place ≡ place → m.generation < generation) claimed

-- The word is that of a taken place, or of a free one at its last value, which is never taken
-- again.
abbrev pub IsTaken : ℕ → Type 0
IsTaken word = (word % 2 ≡ 1) ⊎ (word ≡ 2 ^ 64 - 2)

-- These looks saw the place taken: by its word, or by another seat between two looks, of which the
-- later found a greater word.
abbrev pub IsSeenTaken : List Sighting → ℕ → Type 0
IsSeenTaken looks place =
    ((word : ℕ) × Contains looks (sighting place word) × IsTaken word)
    ⊎ ((i j before after : ℕ) × (i < j) × (slice_get looks i ≡ Some (sighting place before))
    × (slice_get looks j ≡ Some (sighting place after)) × (before < after))
