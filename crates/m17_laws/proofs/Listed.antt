-- What a list contains, by its parts and by its places.
use Rattle.std.proofs.Common.{◌≡◌, ◌⊎◌, ℕ, zero, suc, Bool, true, false, cond, List, [], ◌∷◌, length, refl, ap, ◌∙◌, subst, inl, inr, arith, Option, None, Some, Contains}
use Rattle.std.specs.Prelude.{slice_get}
use Rattle.std.specs.List.{All, AllZip, cons_option, filter_map}
use Rattle.std.specs.Option.{option_map_or}
use Rattle.std.proofs.lemmas.Option.{get_or_from_slice_get, none-some, slice_get_within}
use Rattle.m17_lists.proofs.Contents.{nothing_is_in_none, first_is_in, rest_is_in, is_first_or_in_rest}

module _ {A : Type 0} where
  -- what is there where its test was made
  pub passes_step : (b : Bool) (y : A) (kept : List A) (x : A) → (Contains kept x ⊎ ((y ≡ x) × (b ≡ true)))
      → Contains (cond b (y ∷ kept) kept) x
  passes_step true y kept x (inl more) = rest_is_in y kept x more
  passes_step false y kept x (inl more) = more
  passes_step true y kept x (inr (same, e)) = (0, omega arith, same)
  passes_step false y kept x (inr (same, e)) = absurd cc

  pub all_at : (P : A → Type 0) (xs : List A) (k : ℕ) (x : A) → All P xs → slice_get xs k ≡ Some x → P x
  all_at P xs k x h e = subst P (get_or_from_slice_get xs k x x e) (h k x (slice_get_within xs k x e))

module _ {A B : Type 0} where
  pub beside : (xs : List A) (ys : List B) (k : ℕ) (x : A) → length xs ≡ length ys → slice_get xs k ≡ Some x
      → (y : B) × (slice_get ys k ≡ Some y)
  beside [] ys k x same e = absurd (none-some x e)
  beside (z ∷ xs) [] k x same e = absurd (omega arith)
  beside (z ∷ xs) (y ∷ ys) zero x same e = (y, refl)
  beside (z ∷ xs) (y ∷ ys) (suc k) x same e = beside xs ys k x (omega arith) e

  some_step : (f : A → Option B) (o : Option B) (z : A) (xs : List A) (rest : List B) (y : B) → f z ≡ o
      → Contains (cons_option o rest) y → (Contains rest y → (x : A) × Contains xs x × (f x ≡ Some y))
      → (x : A) × Contains (z ∷ xs) x × (f x ≡ Some y)
  some_step f None z xs rest y e h more = let (x, there, is) = more h in (x, rest_is_in z xs x there, is)
  some_step f (Some v) z xs rest y e h more = elim (is_first_or_in_rest v rest y h) [
    | inl same ↦ (z, first_is_in xs z, e ∙ ap Some same)
    | inr others ↦ let (x, there, is) = more others in (x, rest_is_in z xs x there, is)
  ]

  pub some_of : (f : A → Option B) (xs : List A) (y : B) → Contains (filter_map f xs) y
      → (x : A) × Contains xs x × (f x ≡ Some y)
  some_of f [] y h = absurd (nothing_is_in_none y h)
  some_of f (z ∷ xs) y h = some_step f (f z) z xs (filter_map f xs) y refl h (λ more. some_of f xs y more)

  pub of_option : (f : A → List B) (o : Option A) (y : B) → Contains (option_map_or f o []) y
      → (x : A) × (o ≡ Some x) × Contains (f x) y
  of_option f None y h = absurd (nothing_is_in_none y h)
  of_option f (Some x) y h = (x, refl, h)

  pub zip_right : (R : A → B → Type 0) (xs : List A) (ys : List B) (y : B) → AllZip R xs ys → Contains ys y
      → (x : A) × Contains xs x × R x y
  zip_right R [] [] y h there = absurd (nothing_is_in_none y there)
  zip_right R [] (v ∷ ys) y h there = absurd h
  zip_right R (u ∷ xs) [] y h there = absurd h
  zip_right R (u ∷ xs) (v ∷ ys) y h there = elim (is_first_or_in_rest v ys y there) [
    | inl same ↦ (u, first_is_in xs u, subst (R u) same h.0)
    | inr more ↦ let (x, in_xs, r) = zip_right R xs ys y h.1 more in (x, rest_is_in u xs x in_xs, r)
  ]
