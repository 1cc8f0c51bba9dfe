-- Two lists whose items go together place by place.
use Rattle.std.proofs.Common.{◌≡◌, ℕ, zero, suc, ◌+◌, ◌<◌, Bool, true, false, cond, List, [], ◌∷◌, length, map, Option, None, Some, refl, ap, ◌∙◌, arith}
use Rattle.std.specs.List.{AllZip, filter, filter_map, flat_map, cons_option, range_with_len}
use Rattle.m17_lists.proofs.Pairs.{pairs_behind_pairs}

pub zip_length : {A B : Type 0} (R : A → B → Type 0) (xs : List A) (ys : List B) → AllZip R xs ys → length xs ≡ length ys
zip_length R [] [] h = refl
zip_length R (x ∷ xs) (y ∷ ys) h = ap suc (zip_length R xs ys h.1)
zip_length R [] (y ∷ ys) h = absurd h
zip_length R (x ∷ xs) [] h = absurd h

pub zip_map : {A B C D : Type 0} (R : A → B → Type 0) (S : C → D → Type 0) (f : A → C) (g : B → D) (xs : List A) (ys : List B) → ((x : A) (y : B) → R x y → S (f x) (g y)) → AllZip R xs ys → AllZip S (map f xs) (map g ys)
zip_map R S f g [] [] k h = tt
zip_map R S f g (x ∷ xs) (y ∷ ys) k h = (k x y h.0, zip_map R S f g xs ys k h.1)
zip_map R S f g [] (y ∷ ys) k h = absurd h
zip_map R S f g (x ∷ xs) [] k h = absurd h

filter_step : {A B : Type 0} (R : A → B → Type 0) (x : A) (y : B) (us : List A) (vs : List B) (b c : Bool) → b ≡ c → R x y → AllZip R us vs → AllZip R (cond b (x ∷ us) us) (cond c (y ∷ vs) vs)
filter_step R x y us vs true true e h g = (h, g)
filter_step R x y us vs false false e h g = g
filter_step R x y us vs true false e h g = absurd (cc)
filter_step R x y us vs false true e h g = absurd (cc)

pub zip_filter : {A B : Type 0} (R : A → B → Type 0) (p : A → Bool) (q : B → Bool) (xs : List A) (ys : List B) → ((x : A) (y : B) → R x y → p x ≡ q y) → AllZip R xs ys → AllZip R (filter p xs) (filter q ys)
zip_filter R p q [] [] k h = tt
zip_filter R p q (x ∷ xs) (y ∷ ys) k h = filter_step R x y (filter p xs) (filter q ys) (p x) (q y) (k x y h.0) h.0 (zip_filter R p q xs ys k h.1)
zip_filter R p q [] (y ∷ ys) k h = absurd h
zip_filter R p q (x ∷ xs) [] k h = absurd h

-- where both are there, or neither is
abbrev pub BothOr : {A B : Type 0} → (A → B → Type 0) → Option A → Option B → Type 0
BothOr R None None = Unit {0}
BothOr R (Some x) (Some y) = R x y
BothOr R _ _ = ⊥

cons_step : {A B : Type 0} (R : A → B → Type 0) (o : Option A) (p : Option B) (us : List A) (vs : List B) → BothOr R o p → AllZip R us vs → AllZip R (cons_option o us) (cons_option p vs)
cons_step R None None us vs h g = g
cons_step R (Some x) (Some y) us vs h g = (h, g)
cons_step R None (Some y) us vs h g = absurd h
cons_step R (Some x) None us vs h g = absurd h

pub zip_filter_map : {A B C D : Type 0} (R : A → B → Type 0) (S : C → D → Type 0) (f : A → Option C) (g : B → Option D) (xs : List A) (ys : List B) → ((x : A) (y : B) → R x y → BothOr S (f x) (g y)) → AllZip R xs ys → AllZip S (filter_map f xs) (filter_map g ys)
zip_filter_map R S f g [] [] k h = tt
zip_filter_map R S f g (x ∷ xs) (y ∷ ys) k h = cons_step S (f x) (g y) (filter_map f xs) (filter_map g ys) (k x y h.0) (zip_filter_map R S f g xs ys k h.1)
zip_filter_map R S f g [] (y ∷ ys) k h = absurd h
zip_filter_map R S f g (x ∷ xs) [] k h = absurd h

pub zip_flat : {A B : Type 0} (R : A → B → Type 0) (f : ℕ → List A) (g : ℕ → List B) (from n : ℕ) → ((i : ℕ) → i < from + n → AllZip R (f i) (g i)) → AllZip R (flat_map f (range_with_len from n)) (flat_map g (range_with_len from n))
zip_flat R f g from zero h = tt
zip_flat R f g from (suc n) h =
    pairs_behind_pairs R (f from) (g from) (flat_map f (range_with_len (from + 1) n)) (flat_map g (range_with_len (from + 1) n)) (h from (omega arith))
    (zip_flat R f g (from + 1) n (λ i l. h i (omega arith)))

pub zip_equal : {A : Type 0} (xs ys : List A) → AllZip (λ x y. x ≡ y) xs ys → xs ≡ ys
zip_equal [] [] h = refl
zip_equal (x ∷ xs) (y ∷ ys) h = ap (λ z. z ∷ xs) h.0 ∙ ap (λ zs. y ∷ zs) (zip_equal xs ys h.1)
zip_equal [] (y ∷ ys) h = absurd h
zip_equal (x ∷ xs) [] h = absurd h
