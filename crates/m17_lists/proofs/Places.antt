-- What stands at which place of a list (`slice_get`): of two lists one behind the other, after a write, of a list that
-- was mapped, numbered, or made of copies, and of what was taken or dropped.
use Rattle.std.proofs.Common.{◌≡◌, ◌≢◌, ◌⊎◌, inl, inr, ℕ, zero, suc, ◌+◌, ◌<◌, List, [], ◌∷◌, ◌++◌, map, length, take, drop, set, get_or, slice_get, slice_index, replicate, Some, refl, sym, ap, ◌∙◌, arith}
use Rattle.std.specs.List.{enumerate_from}
use Rattle.std.proofs.lemmas.Bool.{cases_eq}
use Rattle.std.proofs.lemmas.Option.{none-some, same_Some, slice_get_within, slice_get-get_or, get_or_from_slice_get}
use Rattle.std.proofs.lemmas.List.{get_or-set_same, get_or-set_other, length-set}

module _ {A : Type 0} where
  pub each_place_has_one : (xs : List A) (m : ℕ) → m < length xs → (x : A) × (slice_get xs m ≡ Some x)
  each_place_has_one [] m lt = absurd (omega arith)
  each_place_has_one (x ∷ xs) zero lt = (x, refl)
  each_place_has_one (x ∷ xs) (suc m) lt = each_place_has_one xs m (omega arith)

  -- what was read with a default that it is itself
  pub read_stands_there : (xs : List A) (m : ℕ) (y : A) → m < length xs → y ≡ get_or xs m y → slice_get xs m ≡ Some y
  read_stands_there [] m y lt e = absurd (omega arith)
  read_stands_there (x ∷ xs) zero y lt e = ap (λ (z : A). Some z) (sym e)
  read_stands_there (x ∷ xs) (suc m) y lt e = read_stands_there xs m y (omega arith) e

  -- one list behind another
  pub places_before_stay : (xs ys : List A) (m : ℕ) → m < length xs → slice_get (xs ++ ys) m ≡ slice_get xs m
  places_before_stay [] ys m h = absurd (omega arith)
  places_before_stay (x ∷ xs) ys zero h = refl
  places_before_stay (x ∷ xs) ys (suc m) h = places_before_stay xs ys m (omega arith)

  pub what_stands_stays : (xs ys : List A) (i : ℕ) (x : A) → slice_get xs i ≡ Some x → slice_get (xs ++ ys) i ≡ Some x
  what_stands_stays xs ys i x e = places_before_stay xs ys i (slice_get_within xs i x e) ∙ e

  pub places_behind_follow : (xs ys : List A) (i j : ℕ) → j ≡ length xs + i → slice_get (xs ++ ys) j ≡ slice_get ys i
  places_behind_follow [] ys i j is = ap (slice_get ys) (let e : j ≡ i = omega arith in e)
  places_behind_follow (x ∷ xs) ys i zero is = absurd (omega arith)
  places_behind_follow (x ∷ xs) ys i (suc j) is = places_behind_follow xs ys i j (omega arith)

  pub first_of_rest_stands_behind : (xs : List A) (y : A) (ys : List A) → slice_get (xs ++ y ∷ ys) (length xs) ≡ Some y
  first_of_rest_stands_behind [] y ys = refl
  first_of_rest_stands_behind (x ∷ xs) y ys = first_of_rest_stands_behind xs y ys

  pub one_more_stands_at_the_end : (xs : List A) (y : A) → slice_get (xs ++ y ∷ []) (length xs) ≡ Some y
  one_more_stands_at_the_end xs y = first_of_rest_stands_behind xs y []

  -- after a write
  pub written_stands_there : (xs : List A) (m : ℕ) (y : A) → m < length xs → slice_get (set xs m y) m ≡ Some y
  written_stands_there [] m y lt = absurd (omega arith)
  written_stands_there (x ∷ xs) zero y lt = refl
  written_stands_there (x ∷ xs) (suc m) y lt = written_stands_there xs m y (omega arith)

  pub other_places_stay : (xs : List A) (m n : ℕ) (y : A) → n ≢ m → slice_get (set xs m y) n ≡ slice_get xs n
  other_places_stay [] m n y ne = refl
  other_places_stay (x ∷ xs) zero zero y ne = absurd (ne refl)
  other_places_stay (x ∷ xs) zero (suc n) y ne = refl
  other_places_stay (x ∷ xs) (suc m) zero y ne = refl
  other_places_stay (x ∷ xs) (suc m) (suc n) y ne = other_places_stay xs m n y (λ e. ne (ap suc e))

  pub written_or_as_before : (xs : List A) (m : ℕ) (y : A) (n : ℕ) (x : A) → m < length xs → slice_get (set xs m y) n ≡ Some x
      → ((n ≡ m) × (x ≡ y)) ⊎ ((n ≢ m) × (slice_get xs n ≡ Some x))
  written_or_as_before xs m y n x within e =
      let inside : n < length (set xs m y) = slice_get_within (set xs m y) n x e in
      let found = sym (get_or_from_slice_get (set xs m y) n x x e) in
      elim (cases_eq n m) [
        | inl same ↦ inl (same, found ∙ ap (λ (k : ℕ). get_or (set xs m y) k x) same ∙ get_or-set_same xs m y x within)
        | inr other ↦ inr (other, slice_get-get_or xs n x (omega (arith, length-set xs m y)) ∙ ap Some (sym (get_or-set_other xs m n y x other) ∙ sym found))
      ]

  -- what was taken and what was dropped
  pub taken_keeps_places : (xs : List A) (n i : ℕ) → i < n → slice_get (take n xs) i ≡ slice_get xs i
  taken_keeps_places [] zero i h = refl
  taken_keeps_places [] (suc n) i h = refl
  taken_keeps_places (x ∷ xs) zero i h = absurd (omega arith)
  taken_keeps_places (x ∷ xs) (suc n) zero h = refl
  taken_keeps_places (x ∷ xs) (suc n) (suc i) h = taken_keeps_places xs n i (omega arith)

  pub same_fronts_same_places : (xs ys : List A) (n : ℕ) → take n xs ≡ take n ys → (i : ℕ) → i < n
      → slice_get xs i ≡ slice_get ys i
  same_fronts_same_places xs ys n e i l =
      sym (taken_keeps_places xs n i l) ∙ ap (λ zs. slice_get zs i) e ∙ taken_keeps_places ys n i l

  pub dropped_moves_places : (xs : List A) (k i j : ℕ) → j ≡ k + i → slice_get (drop k xs) i ≡ slice_get xs j
  dropped_moves_places xs zero i j is = ap (slice_get xs) (let e : i ≡ j = omega arith in e)
  dropped_moves_places [] (suc k) i j is = refl
  dropped_moves_places (x ∷ xs) (suc k) i zero is = absurd (omega arith)
  dropped_moves_places (x ∷ xs) (suc k) i (suc j) is = dropped_moves_places xs k i j (omega arith)

  -- copies of one thing
  pub each_copy_is_it : (x : A) (m i : ℕ) → i < m → slice_get (replicate m x) i ≡ Some x
  each_copy_is_it x zero i below = absurd (omega arith)
  each_copy_is_it x (suc m) zero below = refl
  each_copy_is_it x (suc m) (suc i) below = each_copy_is_it x m i (omega arith)

  pub all_alike_are_copies : (x : A) (xs : List A) (m : ℕ) → length xs ≡ m → ((i : ℕ) → i < m → slice_get xs i ≡ Some x)
      → xs ≡ replicate m x
  all_alike_are_copies x [] zero size each = refl
  all_alike_are_copies x [] (suc m) size each = absurd (omega arith)
  all_alike_are_copies x (y ∷ xs) zero size each = absurd (omega arith)
  all_alike_are_copies x (y ∷ xs) (suc m) size each =
      let first : y ≡ x = same_Some y x (each zero (omega arith)) in
      let more : xs ≡ replicate m x = all_alike_are_copies x xs m (omega arith) (λ i below. each (suc i) (omega arith)) in
      ap (λ (z : A). z ∷ xs) first ∙ ap (λ (zs : List A). x ∷ zs) more

module _ {A B : Type 0} where
  pub mapped_stands_there : (f : A → B) (xs : List A) (i : ℕ) (x : A) → slice_get xs i ≡ Some x
      → slice_get (map f xs) i ≡ Some (f x)
  mapped_stands_there f [] i x e = absurd (none-some x e)
  mapped_stands_there f (y ∷ xs) zero x e = ap (λ (z : A). Some (f z)) (same_Some y x e)
  mapped_stands_there f (y ∷ xs) (suc i) x e = mapped_stands_there f xs i x e

  pub mapped_is_of_its_place : (f : A → B) (xs : List A) (i : ℕ) (y : B) → slice_get (map f xs) i ≡ Some y
      → (x : A) × (slice_get xs i ≡ Some x) × (f x ≡ y)
  mapped_is_of_its_place f [] i y e = absurd (none-some y e)
  mapped_is_of_its_place f (z ∷ xs) zero y e = (z, refl, cc)
  mapped_is_of_its_place f (z ∷ xs) (suc i) y e = mapped_is_of_its_place f xs i y e

  -- a list that was numbered from k on
  pub numbered_stands_there : (f : ℕ × A → B) (k : ℕ) (xs : List A) (i j : ℕ) (x : A) → j ≡ k + i → slice_get xs i ≡ Some x
      → slice_get (map f (enumerate_from k xs)) i ≡ Some (f (j, x))
  numbered_stands_there f k [] i j x is e = absurd (none-some x e)
  numbered_stands_there f k (y ∷ xs) zero j x is e =
      let at : k ≡ j = omega arith in let same : y ≡ x = same_Some y x e in
      ap Some (ap (λ (n : ℕ). f (n, y)) at ∙ ap (λ (z : A). f (j, z)) same)
  numbered_stands_there f k (y ∷ xs) (suc i) j x is e = numbered_stands_there f (k + 1) xs i j x (omega arith) e

pub number_stands_there : (xs : List ℕ) (m n : ℕ) → slice_get xs m ≡ Some n → slice_index xs m ≡ n
number_stands_there [] m n e = absurd (none-some n e)
number_stands_there (x ∷ xs) zero n e = same_Some x n e
number_stands_there (x ∷ xs) (suc m) n e = number_stands_there xs m n e
