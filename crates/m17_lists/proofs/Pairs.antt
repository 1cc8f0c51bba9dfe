-- What holds of each item (`AllByRecursion`), of two lists place by place (`AllZip`), and of each two items (`AllPairs`).
use Rattle.std.proofs.Common.{◌≡◌, ℕ, zero, suc, List, [], ◌∷◌, ◌++◌, slice_get, Some, refl, ap, arith}
use Rattle.std.specs.List.{AllByRecursion, AllPairs, AllZip}

module _ {A : Type 0} where
  pub holds_of_each_by_place : (P : A → Type 0) (xs : List A) → ((i : ℕ) (x : A) → slice_get xs i ≡ Some x → P x)
      → AllByRecursion P xs
  holds_of_each_by_place P [] h = tt
  holds_of_each_by_place P (x ∷ xs) h = (h zero x refl, holds_of_each_by_place P xs (λ i y e. h (suc i) y e))

  pub each_two_of_the_rest : (R : A → A → Type 0) (x : A) (xs : List A) → AllPairs R (x ∷ xs) → AllPairs R xs
  each_two_of_the_rest R x xs h = λ i j d lt less. h (suc i) (suc j) d (omega arith) (omega arith)

  -- a list beside itself
  pub each_beside_itself : (R : A → A → Type 0) → ((x : A) → R x x) → (xs : List A) → AllZip R xs xs
  each_beside_itself R same [] = tt
  each_beside_itself R same (x ∷ xs) = (same x, each_beside_itself R same xs)

module _ {A B : Type 0} where
  -- two pairs of lists, one behind the other
  pub pairs_behind_pairs : (R : A → B → Type 0) (xs : List A) (ys : List B) (us : List A) (vs : List B)
      → AllZip R xs ys → AllZip R us vs → AllZip R (xs ++ us) (ys ++ vs)
  pairs_behind_pairs R [] [] us vs p q = q
  pairs_behind_pairs R [] (y ∷ ys) us vs p q = absurd p
  pairs_behind_pairs R (x ∷ xs) [] us vs p q = absurd p
  pairs_behind_pairs R (x ∷ xs) (y ∷ ys) us vs p q = (p.0, pairs_behind_pairs R xs ys us vs p.1 q)

  -- what stands beside a list with a last item has a last item
  pub last_stands_beside_last : (R : A → B → Type 0) (xs : List A) (x : A) (zs : List B) → AllZip R (xs ++ x ∷ []) zs
      → (ys : List B) × (y : B) × (zs ≡ ys ++ y ∷ []) × AllZip R xs ys × R x y
  last_stands_beside_last R [] x [] p = absurd p
  last_stands_beside_last R [] x (y ∷ []) p = ([], y, refl, tt, p.0)
  last_stands_beside_last R [] x (y ∷ z ∷ zs) p = absurd p.1
  last_stands_beside_last R (w ∷ xs) x [] p = absurd p
  last_stands_beside_last R (w ∷ xs) x (z ∷ zs) p = let (ys, y, is, front, last) = last_stands_beside_last R xs x zs p.1 in
      (z ∷ ys, y, ap (λ (us : List B). z ∷ us) is, (p.0, front), last)

  -- a relation that says less
  pub pairs_say_less : (R S : A → B → Type 0) → ((x : A) (y : B) → R x y → S x y) → (xs : List A) (ys : List B)
      → AllZip R xs ys → AllZip S xs ys
  pairs_say_less R S less [] [] p = tt
  pairs_say_less R S less [] (y ∷ ys) p = absurd p
  pairs_say_less R S less (x ∷ xs) [] p = absurd p
  pairs_say_less R S less (x ∷ xs) (y ∷ ys) p = (less x y p.0, pairs_say_less R S less xs ys p.1)
