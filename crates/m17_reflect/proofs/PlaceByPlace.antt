-- Relations of lists place by place: with a third list of what each pair chose, and at one place.
use Rattle.std.proofs.Common.{◌≡◌, ℕ, zero, suc, List, [], ◌∷◌, map, length, Some, subst, refl, ap, ◌∙◌, ◌+◌, ◌<◌, Option, sym, arith, ◌++◌, reverse, All, append_assoc, append-nil, Bool, true, false, cond}
use Rattle.std.specs.Prelude.{slice_get, ◌==◌, ◌&&◌, ◌||◌}
use Rattle.std.specs.List.{AllZip, enumerate_from, range_with_len, AllByRecursion, list_any}
use Rattle.std.specs.Option.{option_map, option_map_or}
use Rattle.std.proofs.lemmas.Option.{same_Some, none-some, slice_get-map}
use Rattle.m17_control.specs.declared.event.Event.{Event}
use Rattle.m17_directory.specs.Entries.{Entry}
use Rattle.m17_directory.specs.Routed.{routed}
use Rattle.m17_plan.specs.declared.plan.Plan.{Plan}
use Rattle.m17_reflect.specs.Links.{Link, At, link_setup, routes, route_of}
use Rattle.std.proofs.lemmas.List.{nil_from_length}
use Rattle.std.proofs.lemmas.List.Elements.{All-from_recursion, recursion_from_All}
use Rattle.m17_lists.proofs.Lengths.{one_more_is_first_in_reverse}
use Rattle.m17_reflect.specs.Bare.{EachFrom}
use Rattle.std.proofs.lemmas.Bool.{eq-eqb}
use Rattle.m17_lane.specs.Orders.{picked}

module _ {A B C : Type 0} where
  -- P holds of the items of three lists, place by place
  abbrev pub AllZip3 : (A → B → C → Type 0) → List A → List B → List C → Type 0
  AllZip3 P [] [] [] = Unit {0}
  AllZip3 P [] [] (z ∷ zs) = ⊥
  AllZip3 P [] (y ∷ ys) zs = ⊥
  AllZip3 P (x ∷ xs) [] zs = ⊥
  AllZip3 P (x ∷ xs) (y ∷ ys) [] = ⊥
  AllZip3 P (x ∷ xs) (y ∷ ys) (z ∷ zs) = P x y z × AllZip3 P xs ys zs

  -- what each pair has, as a list
  pub choose : (P : A → B → C → Type 0) (xs : List A) (ys : List B) → AllZip (λ x y. (z : C) × P x y z) xs ys → (zs : List C) × AllZip3 P xs ys zs
  choose P [] [] h = ([], tt)
  choose P [] (y ∷ ys) h = absurd h
  choose P (x ∷ xs) [] h = absurd h
  choose P (x ∷ xs) (y ∷ ys) h =
      let (z, here) = h.0 in let (zs, rest) = choose P xs ys h.1 in (z ∷ zs, (here, rest))

  pub zip3_at : (P : A → B → C → Type 0) (xs : List A) (ys : List B) (zs : List C) → AllZip3 P xs ys zs → (i : ℕ) (x : A) (y : B) (z : C) → slice_get xs i ≡ Some x → slice_get ys i ≡ Some y → slice_get zs i ≡ Some z → P x y z
  zip3_at P [] [] [] h i x y z ex ey ez = absurd (none-some x ex)
  zip3_at P [] [] (c ∷ zs) h i x y z ex ey ez = absurd h
  zip3_at P [] (b ∷ ys) zs h i x y z ex ey ez = absurd h
  zip3_at P (a ∷ xs) [] zs h i x y z ex ey ez = absurd h
  zip3_at P (a ∷ xs) (b ∷ ys) [] h i x y z ex ey ez = absurd h
  zip3_at P (a ∷ xs) (b ∷ ys) (c ∷ zs) h zero x y z ex ey ez =
      subst (λ (w : A). P w y z) (same_Some a x ex)
      (subst (λ (w : B). P a w z) (same_Some b y ey) (subst (P a b) (same_Some c z ez) h.0))
  zip3_at P (a ∷ xs) (b ∷ ys) (c ∷ zs) h (suc i) x y z ex ey ez = zip3_at P xs ys zs h.1 i x y z ex ey ez

  pub zip3_length : (P : A → B → C → Type 0) (xs : List A) (ys : List B) (zs : List C) → AllZip3 P xs ys zs → (length ys ≡ length xs) × (length zs ≡ length xs)
  zip3_length P [] [] [] h = (refl, refl)
  zip3_length P [] [] (c ∷ zs) h = absurd h
  zip3_length P [] (b ∷ ys) zs h = absurd h
  zip3_length P (a ∷ xs) [] zs h = absurd h
  zip3_length P (a ∷ xs) (b ∷ ys) [] h = absurd h
  zip3_length P (a ∷ xs) (b ∷ ys) (c ∷ zs) h = let (e, f) = zip3_length P xs ys zs h.1 in (ap suc e, ap suc f)

module _ {A B : Type 0} where
  pub zip_at : (P : A → B → Type 0) (xs : List A) (ys : List B) → AllZip P xs ys → (i : ℕ) (x : A) (y : B) → slice_get xs i ≡ Some x → slice_get ys i ≡ Some y → P x y
  zip_at P [] [] h i x y ex ey = absurd (none-some x ex)
  zip_at P [] (b ∷ ys) h i x y ex ey = absurd h
  zip_at P (a ∷ xs) [] h i x y ex ey = absurd h
  zip_at P (a ∷ xs) (b ∷ ys) h zero x y ex ey =
      subst (λ (w : A). P w y) (same_Some a x ex) (subst (P a) (same_Some b y ey) h.0)
  zip_at P (a ∷ xs) (b ∷ ys) h (suc i) x y ex ey = zip_at P xs ys h.1 i x y ex ey

  -- an item of a mapped list, before it was mapped
  pub unmapped : (f : A → B) (xs : List A) (i : ℕ) (y : B) → slice_get (map f xs) i ≡ Some y → (x : A) × (slice_get xs i ≡ Some x) × (f x ≡ y)
  unmapped f [] i y e = absurd (none-some y e)
  unmapped f (x ∷ xs) zero y e = (x, refl, same_Some (f x) y e)
  unmapped f (x ∷ xs) (suc i) y e = unmapped f xs i y e

  pub mapped_at : (f : A → B) (xs : List A) (i : ℕ) (x : A) → slice_get xs i ≡ Some x → slice_get (map f xs) i ≡ Some (f x)
  mapped_at f xs i x e = slice_get-map f xs i ∙ ap (option_map f) e

-- What the links route to a module, by the number of the link.

module _ {A B : Type 0} where
  -- what a function of number and item gives is what one of the number alone gives, where they agree
  pub by_number : (f : ℕ × A → B) (g : ℕ → B) (k : ℕ) (xs : List A) → ((i j : ℕ) (x : A) → j ≡ k + i → slice_get xs i ≡ Some x → f (j, x) ≡ g j) → map f (enumerate_from k xs) ≡ map g (range_with_len k (length xs))
  by_number f g k [] h = refl
  by_number f g k (x ∷ xs) h =
      let at : k ≡ k + 0 = omega arith in
      ap (λ (b : B). b ∷ map f (enumerate_from (k + 1) xs)) (h 0 k x at refl)
      ∙ ap (λ (l : List B). g k ∷ l) (by_number f g (k + 1) xs (λ i j y is e. h (suc i) j y (omega arith) e))

  -- the item at a place, with its number
  pub numbered_at : (f : ℕ × A → B) (k : ℕ) (xs : List A) (i j : ℕ) (x : A) → j ≡ k + i → slice_get xs i ≡ Some x → slice_get (map f (enumerate_from k xs)) i ≡ Some (f (j, x))
  numbered_at f k [] i j x is e = absurd (none-some x e)
  numbered_at f k (y ∷ xs) zero j x is e =
      let at : k ≡ j = omega arith in let same : y ≡ x = same_Some y x e in
      ap Some (ap (λ (n : ℕ). f (n, y)) at ∙ ap (λ (z : A). f (j, z)) same)
  numbered_at f k (y ∷ xs) (suc i) j x is e = numbered_at f (k + 1) xs i j x (omega arith) e

  pub numbered_length : (f : ℕ × A → B) (k : ℕ) (xs : List A) → length (map f (enumerate_from k xs)) ≡ length xs
  numbered_length f k [] = refl
  numbered_length f k (x ∷ xs) = ap suc (numbered_length f (k + 1) xs)

module _ {A : Type 0} where
  -- below the length there is an item
  pub at_below : (xs : List A) (i : ℕ) → i < length xs → (x : A) × (slice_get xs i ≡ Some x)
  at_below [] i lt = absurd (omega arith)
  at_below (x ∷ xs) zero lt = (x, refl)
  at_below (x ∷ xs) (suc i) lt = at_below xs i (omega arith)

  -- and an item is below the length
  pub below_at : (xs : List A) (i : ℕ) (x : A) → slice_get xs i ≡ Some x → i < length xs
  below_at [] i x e = absurd (none-some x e)
  below_at (y ∷ xs) zero x e = omega arith
  below_at (y ∷ xs) (suc i) x e = let less = below_at xs i x e in omega arith

-- the entries of a link, by its number
abbrev pub entries_in : List Link → ℕ → List Entry
entries_in links i = option_map_or (λ (link : Link). link.entries) (slice_get links i) []

-- what link i routes to the module with this letter
abbrev pub route_by : Plan → List Link → ℕ → ℕ → List Event
route_by plan links letter i = routed (link_setup plan i) (entries_in links i) letter

pub routes_by : (plan : Plan) (links : List Link) (letter : ℕ) → routes plan links letter ≡ map (route_by plan links letter) (range_with_len 0 (length links))
routes_by plan links letter =
    by_number (route_of plan letter) (route_by plan links letter) 0 links (λ i j link is e.
    let at : i ≡ j = omega arith in
    let same : slice_get links j ≡ Some link = subst (λ (n : ℕ). slice_get links n ≡ Some link) at e in
    ap (λ (o : Option Link). routed (link_setup plan j) (option_map_or (λ (link : Link). link.entries) o []) letter) (sym same))

pub routes_at : (plan : Plan) (links : List Link) (letter i : ℕ) (link : Link) → At links i link → At (routes plan links letter) i (routed (link_setup plan i) link.entries letter)
routes_at plan links letter i link e = numbered_at (route_of plan letter) 0 links i i link (omega arith) e

-- Lists: what stands at a place of a list that was mapped or grew, and what is taken from the ends of lists.

module _ {A B : Type 0} where
  -- what holds of two lists at each place holds where each has one more, of which it holds
  pub each_snoc : (R : A → B → Type 0) (xs : List A) (ys : List B) (a : A) (b : B) → length xs ≡ length ys → ((i : ℕ) (x : A) (y : B) → slice_get xs i ≡ Some x → slice_get ys i ≡ Some y → R x y) → R a b → (i : ℕ) (x : A) (y : B) → slice_get (xs ++ a ∷ []) i ≡ Some x → slice_get (ys ++ b ∷ []) i ≡ Some y → R x y
  each_snoc R [] [] a b long h r zero x y ex ey = subst (λ (u : A). R u y) (same_Some a x ex) (subst (λ (v : B). R a v) (same_Some b y ey) r)
  each_snoc R [] [] a b long h r (suc i) x y ex ey = absurd (none-some x ex)
  each_snoc R [] (v ∷ ys) a b long h r i x y ex ey = absurd (omega arith)
  each_snoc R (u ∷ xs) [] a b long h r i x y ex ey = absurd (omega arith)
  each_snoc R (u ∷ xs) (v ∷ ys) a b long h r zero x y ex ey = h zero x y ex ey
  each_snoc R (u ∷ xs) (v ∷ ys) a b long h r (suc i) x y ex ey = each_snoc R xs ys a b (omega arith) (λ j w z ew ez. h (suc j) w z ew ez) r i x y ex ey

module _ {A : Type 0} where
  -- P holds of each, with its number
  pub each_at : (P : ℕ → A → Type 0) (k n : ℕ) (xs : List A) → EachFrom P k xs → (i : ℕ) (x : A) → n ≡ k + i → slice_get xs i ≡ Some x → P n x
  each_at P k n [] h i x is e = absurd (none-some x e)
  each_at P k n (y ∷ xs) h zero x is e =
      let same : k ≡ n = omega arith in
      subst (λ (m : ℕ). P m x) same (subst (λ (z : A). P k z) (same_Some y x e) h.0)
  each_at P k n (y ∷ xs) h (suc i) x is e = each_at P (suc k) n xs h.1 i x (omega arith) e

  pub all_at : (P : A → Type 0) (xs : List A) → AllByRecursion P xs → (i : ℕ) (x : A) → slice_get xs i ≡ Some x → P x
  all_at P [] h i x e = absurd (none-some x e)
  all_at P (y ∷ xs) h zero x e = subst P (same_Some y x e) h.0
  all_at P (y ∷ xs) h (suc i) x e = all_at P xs h.1 i x e

module _ {A B : Type 0} where
  mapped : (P : B → Type 0) (f : A → B) (xs : List A) → AllByRecursion (λ x. P (f x)) xs → AllByRecursion P (map f xs)
  mapped P f [] h = tt
  mapped P f (x ∷ xs) h = (h.0, mapped P f xs h.1)

  pub all_mapped : (P : B → Type 0) (f : A → B) (xs : List A) → All (λ x. P (f x)) xs → All P (map f xs)
  all_mapped P f xs h = All-from_recursion P (map f xs) (mapped P f xs (recursion_from_All (λ x. P (f x)) xs h))

-- what left the end of one list stands, by f, in the other, in that order
module _ {A J : Type 0} (f : J → A) where
  pub none_taken : (was : List A) (js : List J) → js ≡ [] → was ≡ was ++ map f (reverse js)
  none_taken was js e = sym (append-nil was) ∙ sym (ap (λ (l : List J). was ++ map f (reverse l)) e)

  pub one_taken : (was mid after : List A) (x : J) (js : List J) → was ≡ mid ++ map f js → mid ≡ after ++ f x ∷ [] → was ≡ after ++ map f (x ∷ js)
  one_taken was mid after x js e h = e ∙ ap (λ (l : List A). l ++ map f js) h ∙ append_assoc after (f x ∷ []) (map f js)

  -- the same, where the other list is kept in reverse
  pub taken_next : (was mid after : List A) (x : A) (y : J) (made more : List J) → was ≡ mid ++ map f (reverse made) → mid ≡ after ++ x ∷ [] → f y ≡ x → more ≡ made ++ y ∷ [] → was ≡ after ++ map f (reverse more)
  taken_next was mid after x y made more e h is came =
      one_taken was mid after y (reverse made) e (h ∙ ap (λ (z : A). after ++ z ∷ []) (sym is))
      ∙ sym (ap (λ (l : List J). after ++ map f (reverse l)) came ∙ ap (λ (l : List J). after ++ map f l) (one_more_is_first_in_reverse made y))

  pub taken_all : (was left : List A) (made back : List J) → was ≡ left ++ map f (reverse made) → length left ≡ zero → back ≡ reverse made → map f back ≡ was
  taken_all was left made back e none is =
      ap (map f) is ∙ sym (e ∙ ap (λ (l : List A). l ++ map f (reverse made)) (nil_from_length left none))

-- A list whose part of each link ends in its only stop: what has a stop of each link is all of it.

or_right : (a b : Bool) → a ≡ false → a || b ≡ true → b ≡ true
or_right true b e h = absurd cc
or_right false b e h = h

module _ {T : Type 0} where
  -- events without a stop, and then a stop
  pub record EndsInStop (stop : T → Bool) (xs : List T) : Type 0 where
    pub before : List T
    pub last : T
    pub is : xs ≡ before ++ last ∷ []
    pub none : AllByRecursion (λ x. stop x ≡ false) before

  cond_append : (b : Bool) (x : T) (a l r : List T) → a ≡ l ++ r → cond b (x ∷ a) a ≡ cond b (x ∷ l) l ++ r
  cond_append true x a l r e = ap (λ (m : List T). x ∷ m) e
  cond_append false x a l r e = e

  pub picked_append : (f : T → ℕ) (k : ℕ) (xs ys : List T) → picked f k (xs ++ ys) ≡ picked f k xs ++ picked f k ys
  picked_append f k [] ys = refl
  picked_append f k (x ∷ xs) ys =
      cond_append (f x == k) x (picked f k (xs ++ ys)) (picked f k xs) (picked f k ys) (picked_append f k xs ys)

  end_of : (xs ys : List T) (s : T) → xs ++ ys ≡ [] → ys ≡ []
  end_of [] ys s e = e
  end_of (x ∷ xs) ys s e = absurd cc

  -- behind a front with a stop nothing stands
  only_stop : (stop : T → Bool) (before : List T) (s : T) (front back : List T) → front ++ back ≡ before ++ s ∷ [] → AllByRecursion (λ x. stop x ≡ false) before → list_any stop front ≡ true → back ≡ []
  only_stop stop before s [] back e none some = absurd cc
  only_stop stop [] s (x ∷ front) back e none some =
      let rest : front ++ back ≡ [] = cc in end_of front back s rest
  only_stop stop (y ∷ before) s (x ∷ front) back e none some =
      let head : x ≡ y = cc in let rest : front ++ back ≡ before ++ s ∷ [] = cc in
      only_stop stop before s front back rest none.1
      (or_right (stop x) (list_any stop front) (ap stop head ∙ none.0) some)

  any_step : (here is : Bool) (a b : Bool) (x : T) (stop : T → Bool) (xs : List T) → stop x ≡ is → list_any stop xs ≡ b → (a ≡ true → b ≡ true) → (here && is) || a ≡ true → list_any stop (cond here (x ∷ xs) xs) ≡ true
  any_step true true a b x stop xs e f h g = ap (λ (c : Bool). c || list_any stop xs) e
  any_step true false a b x stop xs e f h g = ap (λ (c : Bool). c || list_any stop xs) e ∙ f ∙ h g
  any_step false is a b x stop xs e f h g = f ∙ h g

  -- a stop of this number is a stop in the part of this number
  any_picked : (f : T → ℕ) (stop : T → Bool) (k : ℕ) (xs : List T) → list_any (λ x. (f x == k) && stop x) xs ≡ true → list_any stop (picked f k xs) ≡ true
  any_picked f stop k [] h = h
  any_picked f stop k (x ∷ xs) h =
      any_step (f x == k) (stop x) (list_any (λ x. (f x == k) && stop x) xs) (list_any stop (picked f k xs)) x stop (picked f k xs) refl refl
      (any_picked f stop k xs) h

  not_none : (b : Bool) (x : T) (xs : List T) → b ≡ true → cond b (x ∷ xs) xs ≡ [] → ⊥
  not_none true x xs e h = cc
  not_none false x xs e h = cc

  -- a list whose parts are all empty is empty
  none_picked : (f : T → ℕ) (n : ℕ) (xs : List T) → AllByRecursion (λ x. f x < n) xs → ((k : ℕ) → k < n → picked f k xs ≡ []) → xs ≡ []
  none_picked f n [] below none = refl
  none_picked f n (x ∷ xs) below none =
      absurd (not_none (f x == f x) x (picked f (f x) xs) (eq-eqb (f x) (f x) refl) (none (f x) below.0))

  below_behind : (P : T → Type 0) (xs ys : List T) → AllByRecursion P (xs ++ ys) → AllByRecursion P ys
  below_behind P [] ys h = h
  below_behind P (x ∷ xs) ys h = below_behind P xs ys h.1

  append_none : (xs ys : List T) → ys ≡ [] → xs ≡ xs ++ ys
  append_none [] ys e = sym e
  append_none (x ∷ xs) ys e = ap (λ (l : List T). x ∷ l) (append_none xs ys e)

  -- all was popped
  pub all_popped : (f : T → ℕ) (stop : T → Bool) (n : ℕ) (order popped rest : List T) → order ≡ popped ++ rest → All (λ x. f x < n) order → ((k : ℕ) → k < n → EndsInStop stop (picked f k order)) → ((k : ℕ) → k < n → list_any (λ x. (f x == k) && stop x) popped ≡ true) → popped ≡ order
  all_popped f stop n order popped rest e below ends stops =
      let all : AllByRecursion (λ x. f x < n) (popped ++ rest) = subst (AllByRecursion (λ x. f x < n)) e (recursion_from_All (λ x. f x < n) order below) in
      append_none popped rest (none_picked f n rest (below_behind (λ x. f x < n) popped rest all)
      (λ k lt. let end = ends k lt in
      only_stop stop end.before end.last (picked f k popped) (picked f k rest)
      (sym (picked_append f k popped rest) ∙ sym (ap (picked f k) e) ∙ end.is) end.none
      (any_picked f stop k popped (stops k lt)))) ∙ sym e
