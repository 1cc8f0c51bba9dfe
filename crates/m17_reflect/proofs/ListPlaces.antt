-- What stands in a list, by the place at which it stands: in what is kept, joined, mapped and counted of lists.
use Rattle.std.proofs.Common.{◌≡◌, ℕ, zero, suc, ◌+◌, ◌<◌, ◌≤◌, Bool, true, false, cond, List, [], ◌∷◌, ◌++◌, Some, sym, subst, refl, ap, ◌∙◌, inl, inr, arith, length, Option, None, map}
use Rattle.std.specs.Prelude.{◌==◌, ◌⊎◌, slice_get, filter, sum_by, Contains, count_by}
use Rattle.std.specs.List.{flat_map, range_with_len, filter_map, cons_option, AllByRecursion}
use Rattle.std.proofs.lemmas.Bool.{eqb-true, eq-eqb, cases_eq}
use Rattle.std.proofs.lemmas.List.Sums.{sum_by-cons, sum_by-append}
use Rattle.std.proofs.lemmas.Option.{same_Some, none-some, slice_get-get_or}
use Rattle.m17_lane.specs.Orders.{picked}
use Rattle.std.proofs.lemmas.Bool.Decides.{nat_tests}
use Rattle.std.proofs.lemmas.List.Elements.{recursion_from_All}
use Rattle.m17_lane.specs.Interleavings.{IsInterleaving}

module _ {A : Type 0} where
  -- It stands in the list, at some place.
  abbrev pub IsIn : List A → A → Type 0
  IsIn xs x = (i : ℕ) × (slice_get xs i ≡ Some x)

  later_in : (y x : A) (xs : List A) → IsIn xs x → IsIn (y ∷ xs) x
  later_in y x xs h = (suc h.0, h.1)

  -- the two forms of standing in a list
  in_at : (xs : List A) (i : ℕ) (x : A) → slice_get xs i ≡ Some x → Contains xs x
  in_at [] i x e = absurd (none-some x e)
  in_at (y ∷ xs) zero x e = (0, omega arith, same_Some y x e)
  in_at (y ∷ xs) (suc i) x e = let (k, lt, is) = in_at xs i x e in (suc k, omega arith, is)

  pub contained : (xs : List A) (x : A) → IsIn xs x → Contains xs x
  contained xs x h = in_at xs h.0 x h.1

  pub stands : (xs : List A) (x : A) → Contains xs x → IsIn xs x
  stands xs x h = (h.0, slice_get-get_or xs h.0 x h.1 ∙ ap Some h.2)

  -- in what is kept
  kept_step : (b : Bool) (y x : A) (kept : List A) → IsIn kept x → IsIn (cond b (y ∷ kept) kept) x
  kept_step true y x kept h = later_in y x kept h
  kept_step false y x kept h = h

  here_step : (b : Bool) (y x : A) (kept : List A) → b ≡ true → y ≡ x → IsIn (cond b (y ∷ kept) kept) x
  here_step true y x kept e same = (0, ap Some same)
  here_step false y x kept e same = absurd cc

  at_filter : (p : A → Bool) (xs : List A) (i : ℕ) (x : A) → slice_get xs i ≡ Some x → p x ≡ true → IsIn (filter p xs) x
  at_filter p [] i x e h = absurd (none-some x e)
  at_filter p (y ∷ xs) zero x e h =
      let same = same_Some y x e in here_step (p y) y x (filter p xs) (ap p same ∙ h) same
  at_filter p (y ∷ xs) (suc i) x e h = kept_step (p y) y x (filter p xs) (at_filter p xs i x e h)

  pub in_filter : (p : A → Bool) (xs : List A) (x : A) → IsIn xs x → p x ≡ true → IsIn (filter p xs) x
  in_filter p xs x h e = at_filter p xs h.0 x h.1 e

  from_step : (p : A → Bool) (b : Bool) (y x : A) (kept xs : List A) (i : ℕ) → p y ≡ b → slice_get (cond b (y ∷ kept) kept) i ≡ Some x → ((j : ℕ) → slice_get kept j ≡ Some x → IsIn xs x × (p x ≡ true)) → IsIn (y ∷ xs) x × (p x ≡ true)
  from_step p true y x kept xs zero e at later = let same = same_Some y x at in ((0, at), ap p (sym same) ∙ e)
  from_step p true y x kept xs (suc i) e at later = let r = later i at in (later_in y x xs r.0, r.1)
  from_step p false y x kept xs i e at later = let r = later i at in (later_in y x xs r.0, r.1)

  from_filter_at : (p : A → Bool) (xs : List A) (x : A) (i : ℕ) → slice_get (filter p xs) i ≡ Some x → IsIn xs x × (p x ≡ true)
  from_filter_at p [] x i e = absurd (none-some x e)
  from_filter_at p (y ∷ xs) x i e = from_step p (p y) y x (filter p xs) xs i refl e (from_filter_at p xs x)

  pub from_filter : (p : A → Bool) (xs : List A) (x : A) → IsIn (filter p xs) x → IsIn xs x × (p x ≡ true)
  from_filter p xs x h = from_filter_at p xs x h.0 h.1

  -- in what is picked by a number
  picked_is : (f : A → ℕ) (k : ℕ) (xs : List A) → picked f k xs ≡ filter (λ x. f x == k) xs
  picked_is f k [] = refl
  picked_is f k (x ∷ xs) = ap (λ (l : List A). cond (f x == k) (x ∷ l) l) (picked_is f k xs)

  pub in_picked : (f : A → ℕ) (k : ℕ) (xs : List A) (x : A) → IsIn xs x → f x ≡ k → IsIn (picked f k xs) x
  in_picked f k xs x h e =
      subst (λ (l : List A). IsIn l x) (sym (picked_is f k xs)) (in_filter (λ x. f x == k) xs x h (eq-eqb (f x) k e))

  pub from_picked : (f : A → ℕ) (k : ℕ) (xs : List A) (x : A) → IsIn (picked f k xs) x → IsIn xs x × (f x ≡ k)
  from_picked f k xs x h =
      let r = from_filter (λ x. f x == k) xs x (subst (λ (l : List A). IsIn l x) (picked_is f k xs) h) in
      (r.0, eqb-true (f x) k r.1)

  -- in two lists as one
  pub in_front : (xs ys : List A) (x : A) (i : ℕ) → slice_get xs i ≡ Some x → IsIn (xs ++ ys) x
  in_front [] ys x i e = absurd (none-some x e)
  in_front (y ∷ xs) ys x zero e = (0, e)
  in_front (y ∷ xs) ys x (suc i) e = later_in y x (xs ++ ys) (in_front xs ys x i e)

  pub in_back : (xs ys : List A) (x : A) → IsIn ys x → IsIn (xs ++ ys) x
  in_back [] ys x h = h
  in_back (y ∷ xs) ys x h = later_in y x (xs ++ ys) (in_back xs ys x h)

  either_step : (y x : A) (xs ys : List A) → IsIn xs x ⊎ IsIn ys x → IsIn (y ∷ xs) x ⊎ IsIn ys x
  either_step y x xs ys (inl h) = inl (later_in y x xs h)
  either_step y x xs ys (inr h) = inr h

  pub either_in : (xs ys : List A) (x : A) (i : ℕ) → slice_get (xs ++ ys) i ≡ Some x → IsIn xs x ⊎ IsIn ys x
  either_in [] ys x i e = inr (i, e)
  either_in (y ∷ xs) ys x zero e = inl (0, e)
  either_in (y ∷ xs) ys x (suc i) e = either_step y x xs ys (either_in xs ys x i e)

  -- what one place counts, and what two count
  pub one_counts : (w : A → ℕ) (xs : List A) (i : ℕ) (x : A) → slice_get xs i ≡ Some x → w x ≤ sum_by w xs
  one_counts w [] i x e = absurd (none-some x e)
  one_counts w (y ∷ xs) zero x e =
      let s = sum_by-cons w y xs in let same : w y ≡ w x = ap w (same_Some y x e) in omega arith
  one_counts w (y ∷ xs) (suc i) x e =
      let s = sum_by-cons w y xs in let r = one_counts w xs i x e in omega arith

  pub two_count : (w : A → ℕ) (xs : List A) (i j : ℕ) (x y : A) → i < j → slice_get xs i ≡ Some x → slice_get xs j ≡ Some y → w x + w y ≤ sum_by w xs
  two_count w [] i j x y lt e f = absurd (none-some x e)
  two_count w (z ∷ xs) i zero x y lt e f = absurd (omega arith)
  two_count w (z ∷ xs) zero (suc j) x y lt e f =
      let s = sum_by-cons w z xs in let same : w z ≡ w x = ap w (same_Some z x e) in
      let r = one_counts w xs j y f in omega arith
  two_count w (z ∷ xs) (suc i) (suc j) x y lt e f =
      let s = sum_by-cons w z xs in let r = two_count w xs i j x y (omega arith) e f in omega arith

module _ {A B : Type 0} where
  -- in the lists of all items as one
  pub in_flat : (f : A → List B) (xs : List A) (i : ℕ) (a : A) (b : B) → slice_get xs i ≡ Some a → IsIn (f a) b → IsIn (flat_map f xs) b
  in_flat f [] i a b e h = absurd (none-some a e)
  in_flat f (x ∷ xs) zero a b e h =
      let there : IsIn (f x) b = subst (λ (c : A). IsIn (f c) b) (sym (same_Some x a e)) h in
      in_front (f x) (flat_map f xs) b there.0 there.1
  in_flat f (x ∷ xs) (suc i) a b e h = in_back (f x) (flat_map f xs) b (in_flat f xs i a b e h)

  -- The item of a list, of whose list this is one.
  pub record IsOfOne (f : A → List B) (xs : List A) (b : B) : Type 0 where
    pub item : A
    pub there : IsIn xs item
    pub its : IsIn (f item) b

  flat_step : (f : A → List B) (x : A) (xs : List A) (b : B) → IsIn (f x) b ⊎ IsIn (flat_map f xs) b → (IsIn (flat_map f xs) b → IsOfOne f xs b) → IsOfOne f (x ∷ xs) b
  flat_step f x xs b (inl h) later = record { item = x; there = (0, refl); its = h }
  flat_step f x xs b (inr h) later =
      let r = later h in record { item = r.item; there = later_in x r.item xs r.there; its = r.its }

  pub from_flat : (f : A → List B) (xs : List A) (b : B) → IsIn (flat_map f xs) b → IsOfOne f xs b
  from_flat f [] b h = absurd (none-some b h.1)
  from_flat f (x ∷ xs) b h = flat_step f x xs b (either_in (f x) (flat_map f xs) b h.0 h.1) (from_flat f xs b)

pub range_at : (k n i : ℕ) → i < n → slice_get (range_with_len k n) i ≡ Some (k + i)
range_at k zero i lt = absurd (omega arith)
range_at k (suc n) zero lt = let e : k ≡ k + 0 = omega arith in ap Some e
range_at k (suc n) (suc i) lt =
    let e : k + 1 + i ≡ k + suc i = omega arith in range_at (k + 1) n i (omega arith) ∙ ap Some e

-- A number below n stands in the range of n, and each that stands there is below.
pub in_range : (n i : ℕ) → i < n → slice_get (range_with_len 0 n) i ≡ Some i
in_range n i lt = let e : 0 + i ≡ i = omega arith in range_at 0 n i lt ∙ ap Some e

range_below : (k n i m : ℕ) → slice_get (range_with_len k n) i ≡ Some m → m < k + n
range_below k zero i m e = absurd (none-some m e)
range_below k (suc n) zero m e = let same : k ≡ m = same_Some k m e in omega arith
range_below k (suc n) (suc i) m e = let less = range_below (k + 1) n i m e in omega arith

pub from_range : (n m : ℕ) → IsIn (range_with_len 0 n) m → m < n
from_range n m h = let less = range_below 0 n h.0 m h.1 in omega arith

-- What stands in a list, by its position: from what the list weighs, in the parts of an order, and the first number that passes.

module _ {A : Type 0} where
  -- what a list contains stands in it somewhere
  pub contains_at : (xs : List A) (x : A) → Contains xs x → (i : ℕ) × (slice_get xs i ≡ Some x)
  contains_at xs x h = let (i, lt, e) = h in (i, slice_get-get_or xs i x lt ∙ ap Some e)

  -- an item weighs at most what the list does, and two items together
  pub sum_at : (w : A → ℕ) (xs : List A) (i : ℕ) (x : A) → slice_get xs i ≡ Some x → w x ≤ sum_by w xs
  sum_at w [] i x e = absurd (none-some x e)
  sum_at w (y ∷ xs) zero x e = let all = sum_by-cons w y xs in let same = ap w (same_Some y x e) in omega arith
  sum_at w (y ∷ xs) (suc i) x e = let all = sum_by-cons w y xs in let rest = sum_at w xs i x e in omega arith

  pub sum_two : (w : A → ℕ) (xs : List A) (i j : ℕ) (x y : A) → i < j → slice_get xs i ≡ Some x → slice_get xs j ≡ Some y → w x + w y ≤ sum_by w xs
  sum_two w [] i j x y lt ex ey = absurd (none-some x ex)
  sum_two w (z ∷ xs) i zero x y lt ex ey = absurd (omega arith)
  sum_two w (z ∷ xs) zero (suc j) x y lt ex ey =
      let all = sum_by-cons w z xs in let same = ap w (same_Some z x ex) in let rest = sum_at w xs j y ey in omega arith
  sum_two w (z ∷ xs) (suc i) (suc j) x y lt ex ey =
      let all = sum_by-cons w z xs in let rest = sum_two w xs i j x y (omega arith) ex ey in omega arith

  -- where a list weighs something, some item does
  abbrev pub Heavy : (A → ℕ) → List A → Type 0
  Heavy w xs = (i : ℕ) × (x : A) × (slice_get xs i ≡ Some x) × (0 < w x)

  heavy_step : (w : A → ℕ) (x : A) (xs : List A) (n : ℕ) → w x ≡ n → 0 < sum_by w (x ∷ xs) → (0 < sum_by w xs → Heavy w xs) → Heavy w (x ∷ xs)
  heavy_step w x xs zero e h later =
      let all = sum_by-cons w x xs in
      let (i, y, at, some) = later (omega arith) in (suc i, y, at, some)
  heavy_step w x xs (suc n) e h later = (0, x, refl, omega arith)

  pub heavy : (w : A → ℕ) (xs : List A) → 0 < sum_by w xs → Heavy w xs
  heavy w [] h = absurd (omega arith)
  heavy w (x ∷ xs) h = heavy_step w x xs (w x) refl h (heavy w xs)

  -- behind another list
  pub get_behind : (xs ys : List A) (i : ℕ) → slice_get (xs ++ ys) (length xs + i) ≡ slice_get ys i
  get_behind [] ys i = let at : 0 + i ≡ i = omega arith in ap (slice_get ys) at
  get_behind (x ∷ xs) ys i = let at : suc (length xs) + i ≡ suc (length xs + i) = omega arith in ap (slice_get (x ∷ xs ++ ys)) at ∙ get_behind xs ys i

  pub get_front : (xs ys : List A) (i : ℕ) (x : A) → slice_get xs i ≡ Some x → slice_get (xs ++ ys) i ≡ Some x
  get_front [] ys i x e = absurd (none-some x e)
  get_front (z ∷ xs) ys zero x e = e
  get_front (z ∷ xs) ys (suc i) x e = get_front xs ys i x e

module _ {B : Type 0} where
  kept_here : (o : Option B) (rest : List B) (y : B) → o ≡ Some y → slice_get (cons_option o rest) 0 ≡ Some y
  kept_here None rest y e = absurd (none-some y e)
  kept_here (Some z) rest y e = e

  kept_later : (o : Option B) (rest : List B) (p : ℕ) (y : B) → slice_get rest p ≡ Some y → (q : ℕ) × (slice_get (cons_option o rest) q ≡ Some y)
  kept_later None rest p y e = (p, e)
  kept_later (Some z) rest p y e = (suc p, e)

module _ {A B : Type 0} where
  -- what one item gives stands in what all give
  pub flat_at : (f : A → List B) (xs : List A) (i p : ℕ) (x : A) (y : B) → slice_get xs i ≡ Some x → slice_get (f x) p ≡ Some y → (q : ℕ) × (slice_get (flat_map f xs) q ≡ Some y)
  flat_at f [] i p x y e h = absurd (none-some x e)
  flat_at f (z ∷ xs) zero p x y e h =
      (p, get_front (f z) (flat_map f xs) p y (ap (λ (v : A). slice_get (f v) p) (same_Some z x e) ∙ h))
  flat_at f (z ∷ xs) (suc i) p x y e h =
      let (q, at) = flat_at f xs i p x y e h in (length (f z) + q, get_behind (f z) (flat_map f xs) q ∙ at)

  pub filter_map_at : (g : A → Option B) (xs : List A) (i : ℕ) (x : A) (y : B) → slice_get xs i ≡ Some x → g x ≡ Some y → (q : ℕ) × (slice_get (filter_map g xs) q ≡ Some y)
  filter_map_at g [] i x y e h = absurd (none-some x e)
  filter_map_at g (z ∷ xs) zero x y e h = (0, kept_here (g z) (filter_map g xs) y (ap g (same_Some z x e) ∙ h))
  filter_map_at g (z ∷ xs) (suc i) x y e h =
      let (p, at) = filter_map_at g xs i x y e h in kept_later (g z) (filter_map g xs) p y at

module _ {T : Type 0} where
  abbrev pub StandsIn : List T → T → Type 0
  StandsIn xs x = (i : ℕ) × (slice_get xs i ≡ Some x)

  abbrev pub StandInOrder : List T → T → T → Type 0
  StandInOrder xs x y = (i : ℕ) × (j : ℕ) × (i < j) × (slice_get xs i ≡ Some x) × (slice_get xs j ≡ Some y)

  picked_later : (b : Bool) (z : T) (rest : List T) (x : T) → StandsIn rest x → StandsIn (cond b (z ∷ rest) rest) x
  picked_later true z rest x h = (suc h.0, h.1)
  picked_later false z rest x h = h

  -- an item of this number stands in the part of this number
  pub picked_has : (f : T → ℕ) (k : ℕ) (xs : List T) (i : ℕ) (x : T) → slice_get xs i ≡ Some x → f x ≡ k → StandsIn (picked f k xs) x
  picked_has f k [] i x e is = absurd (none-some x e)
  picked_has f k (z ∷ xs) zero x e is =
      let here : (f z == k) ≡ true = eq-eqb (f z) k (ap f (same_Some z x e) ∙ is) in
      (0, ap (λ (b : Bool). slice_get (cond b (z ∷ picked f k xs) (picked f k xs)) 0) here ∙ e)
  picked_has f k (z ∷ xs) (suc i) x e is = picked_later (f z == k) z (picked f k xs) x (picked_has f k xs i x e is)

  part_step : (b : Bool) (z : T) (rest xs : List T) (p : ℕ) (x : T) → slice_get (cond b (z ∷ rest) rest) p ≡ Some x → ((q : ℕ) → slice_get rest q ≡ Some x → StandsIn xs x) → StandsIn (z ∷ xs) x
  part_step true z rest xs zero x e later = (0, e)
  part_step true z rest xs (suc p) x e later = let (i, at) = later p e in (suc i, at)
  part_step false z rest xs p x e later = let (i, at) = later p e in (suc i, at)

  -- and an item of a part in the whole; two of a part in the same order
  pub picked_from : (f : T → ℕ) (k : ℕ) (xs : List T) (p : ℕ) (x : T) → slice_get (picked f k xs) p ≡ Some x → StandsIn xs x
  picked_from f k [] p x e = absurd (none-some x e)
  picked_from f k (z ∷ xs) p x e = part_step (f z == k) z (picked f k xs) xs p x e (λ q at. picked_from f k xs q x at)

  order_step : (b : Bool) (z : T) (rest xs : List T) (p q : ℕ) (x y : T) → p < q → slice_get (cond b (z ∷ rest) rest) p ≡ Some x → slice_get (cond b (z ∷ rest) rest) q ≡ Some y
      → ((i : ℕ) → slice_get rest i ≡ Some y → StandsIn xs y) → ((i j : ℕ) → i < j → slice_get rest i ≡ Some x → slice_get rest j ≡ Some y → StandInOrder xs x y) → StandInOrder (z ∷ xs) x y
  order_step true z rest xs p zero x y lt ex ey one two = absurd (omega arith)
  order_step true z rest xs zero (suc q) x y lt ex ey one two = let (j, at) = one q ey in (0, suc j, omega arith, ex, at)
  order_step true z rest xs (suc p) (suc q) x y lt ex ey one two =
      let (i, j, less, at_x, at_y) = two p q (omega arith) ex ey in (suc i, suc j, omega arith, at_x, at_y)
  order_step false z rest xs p q x y lt ex ey one two =
      let (i, j, less, at_x, at_y) = two p q lt ex ey in (suc i, suc j, omega arith, at_x, at_y)

  pub picked_order : (f : T → ℕ) (k : ℕ) (xs : List T) (p q : ℕ) (x y : T) → p < q → slice_get (picked f k xs) p ≡ Some x → slice_get (picked f k xs) q ≡ Some y → StandInOrder xs x y
  picked_order f k [] p q x y lt ex ey = absurd (none-some x ex)
  picked_order f k (z ∷ xs) p q x y lt ex ey =
      order_step (f z == k) z (picked f k xs) xs p q x y lt ex ey (λ i at. picked_from f k xs i y at)
      (λ i j less at_x at_y. picked_order f k xs i j x y less at_x at_y)

-- The first number behind another that passes.
pub record IsFirst (test : ℕ → Bool) (j : ℕ) : Type 0 where
  pub at : ℕ
  pub behind : j < at
  pub passes : test at ≡ true
  pub none : (i : ℕ) → j < i → i < at → test i ≡ false

first_step : (test : ℕ → Bool) (j : ℕ) (b : Bool) → test (suc j) ≡ b → (b ≡ false → IsFirst test (suc j)) → IsFirst test j
first_step test j true e later = record { at = suc j; behind = omega arith; passes = e; none = λ i l m. absurd (omega arith) }
first_step test j false e later =
    let found = later refl in record {
      at = found.at;
      behind = (let l = found.behind in omega arith);
      passes = found.passes;
      none = λ i l m. elim (cases_eq i (suc j)) [
        | inl same ↦ ap test same ∙ e
        | inr other ↦ found.none i (omega arith) m
      ];
    }

pub first : (test : ℕ → Bool) (j d n : ℕ) → n ≡ suc j + d → test n ≡ true → IsFirst test j
first test j zero n is h = record { at = n; behind = omega arith; passes = h; none = λ i l m. absurd (omega arith) }
first test j (suc d) n is h = first_step test j (test (suc j)) refl (λ e. first test (suc j) d n (omega arith) h)

-- Sums over lists, over the parts of an order, and over two lists at once.

module _ {A : Type 0} where
  pub sum_same : (g h : A → ℕ) (xs : List A) → ((x : A) → g x ≡ h x) → sum_by g xs ≡ sum_by h xs
  sum_same g h [] e = refl
  sum_same g h (x ∷ xs) e =
      let a = sum_by-cons g x xs in let b = sum_by-cons h x xs in let c = sum_same g h xs e in let d = e x in omega arith

  pub sum_zero : (xs : List A) → sum_by (λ (x : A). 0) xs ≡ 0
  sum_zero [] = refl
  sum_zero (x ∷ xs) = let a = sum_by-cons (λ (x : A). 0) x xs in let c = sum_zero xs in omega arith

  pub sum_add : (g h : A → ℕ) (xs : List A) → sum_by (λ x. g x + h x) xs ≡ sum_by g xs + sum_by h xs
  sum_add g h [] = refl
  sum_add g h (x ∷ xs) =
      let a = sum_by-cons g x xs in let b = sum_by-cons h x xs in let c = sum_add g h xs in
      let d = sum_by-cons (λ x. g x + h x) x xs in omega arith

module _ {B : Type 0} where
  -- what an optional item counts
  abbrev pub hits : (B → Bool) → Option B → ℕ
  hits test None = 0
  hits test (Some y) = cond (test y) 1 0

  count_step : (test : B → Bool) (o : Option B) (r : List B) (n : ℕ) → count_by test r ≡ n → count_by test (cons_option o r) ≡ hits test o + n
  count_step test None r n e = let z : n ≡ 0 + n = omega arith in e ∙ z
  count_step test (Some y) r n e = let a = sum_by-cons (λ (y : B). cond (test y) 1 0) y r in omega arith

module _ {A B : Type 0} where
  pub sum_map : (f : B → ℕ) (g : A → B) (xs : List A) → sum_by f (map g xs) ≡ sum_by (λ x. f (g x)) xs
  sum_map f g [] = refl
  sum_map f g (x ∷ xs) =
      let a = sum_by-cons f (g x) (map g xs) in let b = sum_by-cons (λ x. f (g x)) x xs in let c = sum_map f g xs in omega arith

  -- two sums in the other order
  pub swap : (G : A → B → ℕ) (xs : List A) (ys : List B) → sum_by (λ x. sum_by (G x) ys) xs ≡ sum_by (λ y. sum_by (λ x. G x y) xs) ys
  swap G [] ys = sym (sum_zero ys)
  swap G (x ∷ xs) ys =
      let a = sum_by-cons (λ x. sum_by (G x) ys) x xs in let b = swap G xs ys in
      let c = sum_add (G x) (λ y. sum_by (λ x. G x y) xs) ys in
      let d = sum_same (λ y. sum_by (λ x. G x y) (x ∷ xs)) (λ y. G x y + sum_by (λ x. G x y) xs) ys (λ y. sum_by-cons (λ x. G x y) x xs) in omega arith

  pub sum_flat : (w : B → ℕ) (h : A → List B) (xs : List A) → sum_by w (flat_map h xs) ≡ sum_by (λ x. sum_by w (h x)) xs
  sum_flat w h [] = refl
  sum_flat w h (x ∷ xs) =
      let a = sum_by-append w (h x) (flat_map h xs) in let b = sum_by-cons (λ x. sum_by w (h x)) x xs in let c = sum_flat w h xs in omega arith

  pub count_mapped : (test : B → Bool) (g : A → Option B) (xs : List A) → count_by test (filter_map g xs) ≡ sum_by (λ x. hits test (g x)) xs
  count_mapped test g [] = refl
  count_mapped test g (x ∷ xs) =
      count_step test (g x) (filter_map g xs) (sum_by (λ x. hits test (g x)) xs) (count_mapped test g xs)
      ∙ sym (sum_by-cons (λ x. hits test (g x)) x xs)

  -- two lists whose items count the same, place by place
  pub sum_beside : (F : A → ℕ) (G : B → ℕ) (xs : List A) (ys : List B) → length xs ≡ length ys → ((m : ℕ) (x : A) (y : B) → slice_get xs m ≡ Some x → slice_get ys m ≡ Some y → F x ≡ G y) → sum_by F xs ≡ sum_by G ys
  sum_beside F G [] [] e h = refl
  sum_beside F G [] (y ∷ ys) e h = absurd (omega arith)
  sum_beside F G (x ∷ xs) [] e h = absurd (omega arith)
  sum_beside F G (x ∷ xs) (y ∷ ys) e h =
      let a = sum_by-cons F x xs in let b = sum_by-cons G y ys in let d = h 0 x y refl refl in
      let c = sum_beside F G xs ys (omega arith) (λ m x y ex ey. h (suc m) x y ex ey) in omega arith

-- a number alone in a range
past : (a c k n : ℕ) → a < k → sum_by (λ i. cond (a == i) c 0) (range_with_len k n) ≡ 0
past a c k zero lt = refl
past a c k (suc n) lt =
    let s = sum_by-cons (λ i. cond (a == i) c 0) k (range_with_len (k + 1) n) in
    let r = past a c (k + 1) n (omega arith) in
    let here : cond (a == k) c 0 ≡ 0 = grind (arith, nat_tests) in omega arith

in_range_at : (a c k : ℕ) → a ≡ k → cond (a == k) c 0 ≡ c
in_range_at a c k e = grind (arith, nat_tests)

not_at : (a c k : ℕ) → k < a → cond (a == k) c 0 ≡ 0
not_at a c k lt = grind (arith, nat_tests)

-- by the numbers that are left
same_number : (a k : ℕ) → (a == k) ≡ true → a ≡ k
same_number a k e = eqb-true a k e

other_number : (a k : ℕ) → (a == k) ≡ false → k ≤ a → k < a
other_number a k e le = grind (arith, nat_tests)

alone_here : (a c k n : ℕ) → a ≡ k → sum_by (λ i. cond (a == i) c 0) (range_with_len k (suc n)) ≡ c
alone_here a c k n e =
    let s = sum_by-cons (λ i. cond (a == i) c 0) k (range_with_len (k + 1) n) in
    let r = past a c (k + 1) n (omega arith) in let here = in_range_at a c k e in omega arith

alone_by : (a c k n : ℕ) (b : Bool) → (a == k) ≡ b → k ≤ a → a < k + suc n → (k < a → sum_by (λ i. cond (a == i) c 0) (range_with_len (k + 1) n) ≡ c) → sum_by (λ i. cond (a == i) c 0) (range_with_len k (suc n)) ≡ c
alone_by a c k n true e le lt later = alone_here a c k n (same_number a k e)
alone_by a c k n false e le lt later =
    let less = other_number a k e le in
    let s = sum_by-cons (λ i. cond (a == i) c 0) k (range_with_len (k + 1) n) in
    let none = not_at a c k less in let r = later less in omega arith

pub alone : (a c k n : ℕ) → k ≤ a → a < k + n → sum_by (λ i. cond (a == i) c 0) (range_with_len k n) ≡ c
alone a c k zero le lt = absurd (omega arith)
alone a c k (suc n) le lt = alone_by a c k n (a == k) refl le lt (λ less. alone a c (k + 1) n (omega arith) (omega arith))

module _ {T : Type 0} where
  sum_step : (b : Bool) (w : T → ℕ) (x : T) (xs : List T) → sum_by w (cond b (x ∷ xs) xs) ≡ cond b (w x) 0 + sum_by w xs
  sum_step true w x xs = sum_by-cons w x xs
  sum_step false w x xs = let z : sum_by w xs ≡ 0 + sum_by w xs = omega arith in z

  -- the sum of the parts is the sum of the whole
  pub parts_sum : (w f : T → ℕ) (n : ℕ) (xs : List T) → AllByRecursion (λ x. f x < n) xs → sum_by (λ i. sum_by w (picked f i xs)) (range_with_len 0 n) ≡ sum_by w xs
  parts_sum w f n [] h = sum_zero (range_with_len 0 n)
  parts_sum w f n (x ∷ xs) h =
      let each = sum_same (λ i. sum_by w (picked f i (x ∷ xs))) (λ i. cond (f x == i) (w x) 0 + sum_by w (picked f i xs)) (range_with_len 0 n) (λ i. sum_step (f x == i) w x (picked f i xs)) in
      let both = sum_add (λ i. cond (f x == i) (w x) 0) (λ i. sum_by w (picked f i xs)) (range_with_len 0 n) in
      let one = alone (f x) (w x) 0 n (omega arith) (omega (arith, h.0)) in
      let rest = parts_sum w f n xs h.1 in
      let all = sum_by-cons w x xs in omega arith

  lists_are : (g : ℕ → List T) (k : ℕ) (lists : List (List T)) → ((i j : ℕ) (l : List T) → j ≡ k + i → slice_get lists i ≡ Some l → l ≡ g j) → lists ≡ map g (range_with_len k (length lists))
  lists_are g k [] h = refl
  lists_are g k (l ∷ lists) h =
      ap (λ (m : List T). m ∷ lists) (h 0 k l (omega arith) refl)
      ∙ ap (λ (ls : List (List T)). g k ∷ ls) (lists_are g (k + 1) lists (λ i j m is e. h (suc i) j m (omega arith) e))

  -- the sum of an interleaving is the sum of its lists
  pub interleaved : (w f : T → ℕ) (lists : List (List T)) (order : List T) → IsInterleaving f lists order → sum_by w order ≡ sum_by (sum_by w) lists
  interleaved w f lists order h =
      let n = length lists in
      let are = lists_are (λ i. picked f i order) 0 lists (λ i j l is e. let at : i ≡ j = omega arith in h.parts i l e ∙ ap (λ (m : ℕ). picked f m order) at) in
      sym (parts_sum w f n order (recursion_from_All (λ x. f x < n) order h.known))
      ∙ sym (sum_map (sum_by w) (λ i. picked f i order) (range_with_len 0 n)) ∙ ap (sum_by (sum_by w)) (sym are)
