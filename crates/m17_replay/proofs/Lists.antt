-- Lists of one, what stands in lists, and sums over them.
use Rattle.std.proofs.Common.{◌≡◌, ◌==◌, ℕ, zero, suc, ◌+◌, ◌<◌, ◌≤◌, Bool, true, false, cond, List, [], ◌∷◌, length, map, drop, Option, None, Some, sym, subst, refl, ap, ◌∙◌, arith}
use Rattle.std.specs.Prelude.{slice_get, filter, sum_by, count_by}
use Rattle.std.specs.List.{flat_map, filter_map, cons_option, range_with_len}
use Rattle.std.proofs.lemmas.Bool.{eqb-true}
use Rattle.std.proofs.lemmas.Bool.Decides.{nat_tests}
use Rattle.std.proofs.lemmas.List.Sums.{sum_by-cons, sum_by-append}
use Rattle.std.proofs.lemmas.Option.{same_Some, none-some}

module _ {A : Type 0} where
  pub head_is : (x y : A) → x ∷ [] ≡ y ∷ [] → x ≡ y
  head_is x y e = cc

  -- a list of one
  pub one_of : (xs : List A) → length xs ≡ 1 → (x : A) × (xs ≡ x ∷ [])
  one_of [] e = absurd (omega arith)
  one_of (x ∷ []) e = (x, refl)
  one_of (x ∷ y ∷ xs) e = absurd (omega arith)

  pub at_below : (xs : List A) (i : ℕ) → i < length xs → (x : A) × (slice_get xs i ≡ Some x)
  at_below [] i lt = absurd (omega arith)
  at_below (x ∷ xs) zero lt = (x, refl)
  at_below (x ∷ xs) (suc i) lt = at_below xs i (omega arith)

  pub below_at : (xs : List A) (i : ℕ) (x : A) → slice_get xs i ≡ Some x → i < length xs
  below_at [] i x e = absurd (none-some x e)
  below_at (y ∷ xs) zero x e = omega arith
  below_at (y ∷ xs) (suc i) x e = omega (arith, below_at xs i x e)

  -- it stands in the list
  abbrev pub IsIn : List A → A → Type 0
  IsIn xs x = (i : ℕ) × (slice_get xs i ≡ Some x)

  pub later_in : (y x : A) (xs : List A) → IsIn xs x → IsIn (y ∷ xs) x
  later_in y x xs h = (suc h.0, h.1)

  kept_step : (b : Bool) (y x : A) (kept : List A) → IsIn kept x → IsIn (cond b (y ∷ kept) kept) x
  kept_step true y x kept h = later_in y x kept h
  kept_step false y x kept h = h

  here_step : (b : Bool) (y x : A) (kept : List A) → b ≡ true → y ≡ x → IsIn (cond b (y ∷ kept) kept) x
  here_step true y x kept e same = (0, ap Some same)
  here_step false y x kept e same = absurd cc

  pub in_filter : (p : A → Bool) (xs : List A) (i : ℕ) (x : A) → slice_get xs i ≡ Some x → p x ≡ true → IsIn (filter p xs) x
  in_filter p [] i x e h = absurd (none-some x e)
  in_filter p (y ∷ xs) zero x e h = let same = same_Some y x e in here_step (p y) y x (filter p xs) (ap p same ∙ h) same
  in_filter p (y ∷ xs) (suc i) x e h = kept_step (p y) y x (filter p xs) (in_filter p xs i x e h)

  from_step : (p : A → Bool) (b : Bool) (y x : A) (kept : List A) (i : ℕ) → p y ≡ b → slice_get (cond b (y ∷ kept) kept) i ≡ Some x → ((j : ℕ) → slice_get kept j ≡ Some x → p x ≡ true) → p x ≡ true
  from_step p true y x kept zero e at later = ap p (sym (same_Some y x at)) ∙ e
  from_step p true y x kept (suc i) e at later = later i at
  from_step p false y x kept i e at later = later i at

  -- what is kept passes
  pub kept_passes : (p : A → Bool) (xs : List A) (i : ℕ) (x : A) → slice_get (filter p xs) i ≡ Some x → p x ≡ true
  kept_passes p [] i x e = absurd (none-some x e)
  kept_passes p (y ∷ xs) i x e = from_step p (p y) y x (filter p xs) i refl e (λ j at. kept_passes p xs j x at)

given_step : {B : Type 0} (o : Option B) (y : B) (rest : List B) → IsIn rest y → IsIn (cons_option o rest) y
given_step None y rest h = h
given_step (Some z) y rest h = later_in z y rest h

module _ {A B : Type 0} where
  -- a list that comes to one
  pub mapped_one : (f : A → B) (xs : List A) (y : B) → map f xs ≡ y ∷ [] → (x : A) × (xs ≡ x ∷ []) × (f x ≡ y)
  mapped_one f [] y e = absurd cc
  mapped_one f (x ∷ []) y e = (x, refl, cc)
  mapped_one f (x ∷ z ∷ xs) y e = absurd cc

  pub in_given : (h : A → Option B) (xs : List A) (i : ℕ) (x : A) (y : B) → slice_get xs i ≡ Some x → h x ≡ Some y → IsIn (filter_map h xs) y
  in_given h [] i x y e g = absurd (none-some x e)
  in_given h (z ∷ xs) zero x y e g =
      subst (λ (o : Option B). IsIn (cons_option o (filter_map h xs)) y) (sym (ap h (same_Some z x e) ∙ g)) (0, refl)
  in_given h (z ∷ xs) (suc i) x y e g = given_step (h z) y (filter_map h xs) (in_given h xs i x y e g)

-- the same function of the numbers of a range
pub map_range : {A : Type 0} (f g : ℕ → A) (a n : ℕ) → ((i : ℕ) → a ≤ i → i < a + n → f i ≡ g i) → map f (range_with_len a n) ≡ map g (range_with_len a n)
map_range f g a zero same = refl
map_range f g a (suc n) same =
    ap (λ x. x ∷ map f (range_with_len (a + 1) n)) (same a (omega arith) (omega arith))
    ∙ ap (λ xs. g a ∷ xs) (map_range f g (a + 1) n (λ i from below. same i (omega arith) (omega arith)))

-- a number that stands in a range
range_step : (k n x : ℕ) (b : Bool) → (k == x) ≡ b → k ≤ x → (k < x → IsIn (range_with_len (k + 1) n) x) → IsIn (range_with_len k (suc n)) x
range_step k n x true e le later = (0, ap Some (eqb-true k x e))
range_step k n x false e le later = later_in k x (range_with_len (k + 1) n) (later (let apart = e in grind (arith, nat_tests)))

pub range_has : (k n x : ℕ) → k ≤ x → x < k + n → IsIn (range_with_len k n) x
range_has k zero x le lt = absurd (omega arith)
range_has k (suc n) x le lt = range_step k n x (k == x) refl le (λ more. range_has (k + 1) n x (omega arith) (omega arith))

-- sums
module _ {A : Type 0} where
  pub sum_same : (g h : A → ℕ) (xs : List A) → ((i : ℕ) (x : A) → slice_get xs i ≡ Some x → g x ≡ h x) → sum_by g xs ≡ sum_by h xs
  sum_same g h [] e = refl
  sum_same g h (x ∷ xs) e =
      omega (arith, sum_by-cons g x xs, sum_by-cons h x xs, sum_same g h xs (λ i y at. e (suc i) y at), e 0 x refl)

  pub sum_zero : (xs : List A) → sum_by (λ (x : A). 0) xs ≡ 0
  sum_zero [] = refl
  sum_zero (x ∷ xs) = omega (arith, sum_by-cons (λ (x : A). 0) x xs, sum_zero xs)

  pub sum_add : (g h : A → ℕ) (xs : List A) → sum_by (λ x. g x + h x) xs ≡ sum_by g xs + sum_by h xs
  sum_add g h [] = refl
  sum_add g h (x ∷ xs) =
      omega (arith, sum_by-cons g x xs, sum_by-cons h x xs, sum_add g h xs, sum_by-cons (λ x. g x + h x) x xs)

  -- one for an item that passes
  abbrev pub one_if : (A → Bool) → A → ℕ
  one_if test x = cond (test x) 1 0

module _ {A B : Type 0} where
  pub sum_flat : (w : B → ℕ) (h : A → List B) (xs : List A) → sum_by w (flat_map h xs) ≡ sum_by (λ x. sum_by w (h x)) xs
  sum_flat w h [] = refl
  sum_flat w h (x ∷ xs) =
      omega (arith, sum_by-append w (h x) (flat_map h xs), sum_by-cons (λ x. sum_by w (h x)) x xs, sum_flat w h xs)

  pub sum_map : (f : B → ℕ) (g : A → B) (xs : List A) → sum_by f (map g xs) ≡ sum_by (λ x. f (g x)) xs
  sum_map f g [] = refl
  sum_map f g (x ∷ xs) = omega (arith, sum_by-cons f (g x) (map g xs), sum_by-cons (λ x. f (g x)) x xs, sum_map f g xs)

  -- two lists whose items weigh the same, place by place
  pub sum_beside : (F : A → ℕ) (G : B → ℕ) (xs : List A) (ys : List B) → length xs ≡ length ys → ((m : ℕ) (x : A) (y : B) → slice_get xs m ≡ Some x → slice_get ys m ≡ Some y → F x ≡ G y) → sum_by F xs ≡ sum_by G ys
  sum_beside F G [] [] e h = refl
  sum_beside F G [] (y ∷ ys) e h = absurd (omega arith)
  sum_beside F G (x ∷ xs) [] e h = absurd (omega arith)
  sum_beside F G (x ∷ xs) (y ∷ ys) e h =
      omega (arith, sum_by-cons F x xs, sum_by-cons G y ys, h 0 x y refl refl, sum_beside F G xs ys (omega arith) (λ m x y ex ey. h (suc m) x y ex ey))

module _ {B : Type 0} where
  -- what an optional item counts
  abbrev pub hits : (B → Bool) → Option B → ℕ
  hits test None = 0
  hits test (Some y) = cond (test y) 1 0

  count_step : (test : B → Bool) (o : Option B) (rest : List B) → count_by test (cons_option o rest) ≡ hits test o + count_by test rest
  count_step test None rest = let z : count_by test rest ≡ 0 + count_by test rest = omega arith in z
  count_step test (Some y) rest = sum_by-cons (λ (y : B). cond (test y) 1 0) y rest

module _ {A B : Type 0} where
  pub count_given : (test : B → Bool) (g : A → Option B) (xs : List A) → count_by test (filter_map g xs) ≡ sum_by (λ x. hits test (g x)) xs
  count_given test g [] = refl
  count_given test g (x ∷ xs) =
      omega (arith, count_step test (g x) (filter_map g xs), sum_by-cons (λ x. hits test (g x)) x xs, count_given test g xs)

-- a number alone in a range
past : (a c k n : ℕ) → a < k → sum_by (λ i. cond (a == i) c 0) (range_with_len k n) ≡ 0
past a c k zero lt = refl
past a c k (suc n) lt =
    let s = sum_by-cons (λ i. cond (a == i) c 0) k (range_with_len (k + 1) n) in
    let r = past a c (k + 1) n (omega arith) in
    let here : cond (a == k) c 0 ≡ 0 = grind (arith, nat_tests) in omega arith

here_at : (a c k : ℕ) → a ≡ k → cond (a == k) c 0 ≡ c
here_at a c k e = grind (arith, nat_tests)

not_at : (a c k : ℕ) → k < a → cond (a == k) c 0 ≡ 0
not_at a c k lt = grind (arith, nat_tests)

more_than : (a k : ℕ) → (a == k) ≡ false → k ≤ a → k < a
more_than a k e le = grind (arith, nat_tests)

alone_by : (a c k n : ℕ) (b : Bool) → (a == k) ≡ b → k ≤ a → (k < a → sum_by (λ i. cond (a == i) c 0) (range_with_len (k + 1) n) ≡ c) → sum_by (λ i. cond (a == i) c 0) (range_with_len k (suc n)) ≡ c
alone_by a c k n true e le later =
    let same = eqb-true a k e in
    omega (arith, sum_by-cons (λ i. cond (a == i) c 0) k (range_with_len (k + 1) n), past a c (k + 1) n (omega arith), here_at a c k same)
alone_by a c k n false e le later =
    let less = more_than a k e le in
    omega (arith, sum_by-cons (λ i. cond (a == i) c 0) k (range_with_len (k + 1) n), not_at a c k less, later less)

pub alone : (a c k n : ℕ) → k ≤ a → a < k + n → sum_by (λ i. cond (a == i) c 0) (range_with_len k n) ≡ c
alone a c k zero le lt = absurd (omega arith)
alone a c k (suc n) le lt = alone_by a c k n (a == k) refl le (λ less. alone a c (k + 1) n (omega arith) (omega arith))

-- items by their number
module _ {A : Type 0} (f : A → ℕ) (w : A → ℕ) where
  abbrev pub of_number : ℕ → A → ℕ
  of_number i x = cond (f x == i) (w x) 0

  -- the sums of all numbers are the sum of all
  pub numbered_sum : (n : ℕ) (xs : List A) → ((i : ℕ) (x : A) → slice_get xs i ≡ Some x → f x < n) → sum_by (λ i. sum_by (of_number i) xs) (range_with_len 0 n) ≡ sum_by w xs
  numbered_sum n [] h = sum_zero (range_with_len 0 n)
  numbered_sum n (x ∷ xs) h =
      let each = sum_same (λ i. sum_by (of_number i) (x ∷ xs)) (λ i. of_number i x + sum_by (of_number i) xs) (range_with_len 0 n) (λ j i at. sum_by-cons (of_number i) x xs) in
      let both = sum_add (λ i. of_number i x) (λ i. sum_by (of_number i) xs) (range_with_len 0 n) in
      let one = alone (f x) (w x) 0 n (omega arith) (omega (arith, h 0 x refl)) in
      let rest = numbered_sum n xs (λ i y at. h (suc i) y at) in
      let all = sum_by-cons w x xs in omega arith
