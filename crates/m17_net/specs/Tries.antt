-- When a thing that is tried again is given up.
use Rattle.std.specs.Prelude.{◌≡◌, ◌⊎◌, ℕ, ◌<◌, List, [], ◌∷◌, ◌++◌, length, All}

-- What the calls answered, where no other is made: each answer is worth another call, and they are as many as there may
-- be; or each before the last is, these are fewer than that, and the last is not.
abbrev pub GivesUpAfter : {A : Type 0} → (A → Type 0) → ℕ → List A → Type 0
GivesUpAfter {A} IsWorth most answers = (All IsWorth answers × (length answers ≡ most))
    ⊎ ((earlier : List A) × (last : A) × (answers ≡ earlier ++ last ∷ [])
    × All IsWorth earlier × (length earlier < most) × ¬ (IsWorth last))
