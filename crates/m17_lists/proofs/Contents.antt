-- What a list contains, by its parts and by its places.
use Rattle.std.proofs.Common.{◌≡◌, ◌⊎◌, ℕ, zero, suc, ◌<◌, Bool, true, false, cond, List, [], ◌∷◌, length, get_or, map, filter, slice_get, Some, refl, ap, ◌∙◌, inl, inr, arith, Contains}
use Rattle.std.specs.List.{flat_map, items_where_true}
use Rattle.std.proofs.lemmas.List.Elements.{Contains-append_left, Contains-append_right, Contains-append_cases}
use Rattle.std.proofs.lemmas.Option.{get_or_from_slice_get, slice_get-get_or, slice_get_within}

module _ {A : Type 0} where
  pub nothing_is_in_none : (x : A) → Contains [] x → ⊥
  nothing_is_in_none x h = let lt = h.1 in omega arith

  pub first_is_in : (xs : List A) (x : A) → Contains (x ∷ xs) x
  first_is_in xs x = (0, omega arith, refl)

  pub rest_is_in : (y : A) (xs : List A) (x : A) → Contains xs x → Contains (y ∷ xs) x
  rest_is_in y xs x h = (suc h.0, (let lt = h.1 in omega arith), h.2)

  by_place : (y : A) (xs : List A) (x : A) (k : ℕ) → k < suc (length xs) → get_or (y ∷ xs) k x ≡ x
      → (y ≡ x) ⊎ Contains xs x
  by_place y xs x zero lt e = inl e
  by_place y xs x (suc k) lt e = inr (k, omega arith, e)

  pub is_first_or_in_rest : (y : A) (xs : List A) (x : A) → Contains (y ∷ xs) x → (y ≡ x) ⊎ Contains xs x
  is_first_or_in_rest y xs x h = by_place y xs x h.0 h.1 h.2

  pub is_the_only_one : (y x : A) → Contains (y ∷ []) x → y ≡ x
  is_the_only_one y x h =
      elim (is_first_or_in_rest y [] x h) [ inl e ↦ e | inr none ↦ absurd (nothing_is_in_none x none) ]

  -- by places
  pub place_of_what_is_in : (xs : List A) (x : A) → Contains xs x → (k : ℕ) × (slice_get xs k ≡ Some x)
  place_of_what_is_in xs x h = (h.0, slice_get-get_or xs h.0 x h.1 ∙ ap Some h.2)

  pub what_has_a_place_is_in : (xs : List A) (k : ℕ) (x : A) → slice_get xs k ≡ Some x → Contains xs x
  what_has_a_place_is_in xs k x e = (k, slice_get_within xs k x e, get_or_from_slice_get xs k x x e)

  -- what is picked was there
  pub picked_was_in : (bs : List Bool) (xs : List A) (x : A) → Contains (items_where_true bs xs) x → Contains xs x
  picked_was_in [] xs x h = absurd (nothing_is_in_none x h)
  picked_was_in (b ∷ bs) [] x h = absurd (nothing_is_in_none x h)
  picked_was_in (true ∷ bs) (y ∷ xs) x h = elim (is_first_or_in_rest y (items_where_true bs xs) x h) [
    | inl e ↦ (0, omega arith, e)
    | inr more ↦ rest_is_in y xs x (picked_was_in bs xs x more)
  ]
  picked_was_in (false ∷ bs) (y ∷ xs) x h = rest_is_in y xs x (picked_was_in bs xs x h)

  -- what passes a test was there, and passes it
  one_tested : (test : A → Bool) (b : Bool) (y : A) (xs : List A) (x : A) → test y ≡ b
      → ((Contains (filter test xs) x) → Contains xs x × (test x ≡ true))
      → Contains (cond b (y ∷ filter test xs) (filter test xs)) x
      → Contains (y ∷ xs) x × (test x ≡ true)
  one_tested test true y xs x is more h = elim (is_first_or_in_rest y (filter test xs) x h) [
    | inl e ↦ ((0, omega arith, e), rw e at is)
    | inr rest ↦ let (there, passes) = more rest in (rest_is_in y xs x there, passes)
  ]
  one_tested test false y xs x is more h =
      let (there, passes) = more h in (rest_is_in y xs x there, passes)

  pub filtered_was_in : (test : A → Bool) (xs : List A) (x : A) → Contains (filter test xs) x
      → Contains xs x × (test x ≡ true)
  filtered_was_in test [] x h = absurd (nothing_is_in_none x h)
  filtered_was_in test (y ∷ xs) x h =
      one_tested test (test y) y xs x refl (λ rest. filtered_was_in test xs x rest) h

  -- what is there and passes the test is among what does
  keeps_first : (b : Bool) (y : A) (rest : List A) (x : A) → y ≡ x → b ≡ true
      → Contains (cond b (y ∷ rest) rest) x
  keeps_first true y rest x e is = (0, omega arith, e)
  keeps_first false y rest x e is = absurd (cc)

  keeps_rest : (b : Bool) (y : A) (rest : List A) (x : A) → Contains rest x
      → Contains (cond b (y ∷ rest) rest) x
  keeps_rest true y rest x h = rest_is_in y rest x h
  keeps_rest false y rest x h = h

  pub what_passes_is_in : (test : A → Bool) (xs : List A) (x : A) → Contains xs x → test x ≡ true
      → Contains (filter test xs) x
  what_passes_is_in test [] x h is = absurd (nothing_is_in_none x h)
  what_passes_is_in test (y ∷ xs) x h is = elim (is_first_or_in_rest y xs x h) [
    | inl e ↦ keeps_first (test y) y (filter test xs) x e (ap test e ∙ is)
    | inr more ↦ keeps_rest (test y) y (filter test xs) x (what_passes_is_in test xs x more is)
  ]

module _ {A B : Type 0} where
  -- what one item gives is among what all give, and it is of one item
  pub given_by_one_is_in : (f : A → List B) (xs : List A) (x : A) (y : B) → Contains xs x → Contains (f x) y
      → Contains (flat_map f xs) y
  given_by_one_is_in f [] x y h there = absurd (nothing_is_in_none x h)
  given_by_one_is_in f (z ∷ xs) x y h there = elim (is_first_or_in_rest z xs x h) [
    | inl e ↦ Contains-append_left (f z) (flat_map f xs) y (rw e there)
    | inr more ↦ Contains-append_right (f z) (flat_map f xs) y (given_by_one_is_in f xs x y more there)
  ]

  pub is_given_by_one : (f : A → List B) (xs : List A) (y : B) → Contains (flat_map f xs) y
      → (x : A) × Contains xs x × Contains (f x) y
  is_given_by_one f [] y h = absurd (nothing_is_in_none y h)
  is_given_by_one f (z ∷ xs) y h = elim (Contains-append_cases (f z) (flat_map f xs) y h) [
    | inl first ↦ (z, first_is_in xs z, first)
    | inr more ↦ let (x, in_xs, there) = is_given_by_one f xs y more in (x, rest_is_in z xs x in_xs, there)
  ]

  pub mapped_is_in : (f : A → B) (xs : List A) (x : A) → Contains xs x → Contains (map f xs) (f x)
  mapped_is_in f [] x h = absurd (nothing_is_in_none x h)
  mapped_is_in f (z ∷ xs) x h = elim (is_first_or_in_rest z xs x h) [
    | inl e ↦ (0, omega arith, ap f e)
    | inr more ↦ rest_is_in (f z) (map f xs) (f x) (mapped_is_in f xs x more)
  ]

  pub is_mapped_from_one : (f : A → B) (xs : List A) (y : B) → Contains (map f xs) y
      → (x : A) × Contains xs x × (f x ≡ y)
  is_mapped_from_one f [] y h = absurd (nothing_is_in_none y h)
  is_mapped_from_one f (z ∷ xs) y h = elim (is_first_or_in_rest (f z) (map f xs) y h) [
    | inl e ↦ (z, first_is_in xs z, e)
    | inr more ↦ let (x, in_xs, e) = is_mapped_from_one f xs y more in (x, rest_is_in z xs x in_xs, e)
  ]
