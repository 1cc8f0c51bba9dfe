-- Numbers in order from one on, and what is put together number by number.
use Rattle.std.proofs.Common.{◌≡◌, ℕ, zero, suc, ◌+◌, ◌<◌, List, [], ◌∷◌, ◌++◌, refl, ap, ◌∙◌, arith}
use Rattle.std.specs.List.{flat_map, range_with_len}
use Rattle.std.proofs.lemmas.List.{append-nil}
use Rattle.std.proofs.lemmas.Grind.{flat_map-append}

pub range_ends_in_its_last : (from n : ℕ) → range_with_len from (suc n) ≡ range_with_len from n ++ (from + n) ∷ []
range_ends_in_its_last from zero = let e : from ≡ from + 0 = omega arith in ap (λ m. m ∷ []) e
range_ends_in_its_last from (suc n) =
    let e : from + 1 + n ≡ from + suc n = omega arith in
    ap (λ xs. from ∷ xs) (range_ends_in_its_last (from + 1) n ∙ ap (λ m. range_with_len (from + 1) n ++ m ∷ []) e)

module _ {A : Type 0} where
  pub one_number_more : (f : ℕ → List A) (n : ℕ) → flat_map f (range_with_len 0 (suc n)) ≡ flat_map f (range_with_len 0 n) ++ f n
  one_number_more f n =
      let at : 0 + n ≡ n = omega arith in
      ap (flat_map f) (range_ends_in_its_last 0 n)
      ∙ flat_map-append f (range_with_len 0 n) ((0 + n) ∷ [])
      ∙ ap (λ m. flat_map f (range_with_len 0 n) ++ flat_map f (m ∷ [])) at
      ∙ ap (λ (xs : List A). flat_map f (range_with_len 0 n) ++ xs) (append-nil (f n))

  -- what agrees at each number makes the same
  pub same_at_each_number : (f g : ℕ → List A) (from n : ℕ) → ((i : ℕ) → i < from + n → f i ≡ g i)
      → flat_map f (range_with_len from n) ≡ flat_map g (range_with_len from n)
  same_at_each_number f g from zero h = refl
  same_at_each_number f g from (suc n) h =
      ap (λ (xs : List A). xs ++ flat_map f (range_with_len (from + 1) n)) (h from (omega arith))
      ∙ ap (λ (xs : List A). g from ++ xs) (same_at_each_number f g (from + 1) n (λ i l. h i (omega arith)))
