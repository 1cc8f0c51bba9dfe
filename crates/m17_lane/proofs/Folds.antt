-- The laws on whole lanes: of one producer, and of several as a shuffle.
use Rattle.std.proofs.Common.{◌≡◌, ◌==◌, ℕ, zero, suc, ◌+◌, ◌<◌, ◌≤◌, ◌⊎◌, inl, inr, ⊎_elim, cond, List, [], ◌∷◌, length, All, subst, sym, refl, ap, ◌∙◌, eq-eqb, ne_eqb, arith}
use native.Mathlib.Decide.{ℕ_discrete}
use Rattle.m17_lane.specs.Orders.{items_of, part, EachLog, HasLog, EachKnown, Apart, picked, EachRow}
use Rattle.m17_lane.specs.Laws.{OneProducerKeepsOrder, OrderIsAShuffle}

module _ {T : Type 0} where
  all_from : (p : ℕ) (l : List T) (es : List (ℕ × T)) → EachKnown ((p, l) ∷ []) es → part p es ≡ items_of es
  all_from p l [] h = refl
  all_from p l (e ∷ es) h =
      let is : e.0 ≡ p = ⊎_elim (λ (x : p ≡ e.0). sym x) (λ (x : ⊥). absurd x) h.0 in
      ap (λ b. cond b (e.1 ∷ part p es) (part p es)) (eq-eqb e.0 p is) ∙ ap (λ k. e.1 ∷ k) (all_from p l es h.1)

  pub one_producer : OneProducerKeepsOrder T
  one_producer p l popped rest order h =
      let own : items_of order ≡ l = sym (all_from p l order h.shuffle.known) ∙ sym h.shuffle.parts.0 in
      (own, sym own ∙ h.queued)

  -- the producer q has the row j of these rows, which are counted from k
  abbrev Row : ℕ → ℕ → ℕ → List (ℕ × List T) → Type 0
  Row q j k [] = ⊥
  Row q j k (l ∷ ls) = ((l.0 ≡ q) × (j ≡ k)) ⊎ Row q j (suc k) ls

  row_has : (q j k : ℕ) (ls : List (ℕ × List T)) → Row q j k ls → HasLog q ls
  row_has q j k [] r = r
  row_has q j k (l ∷ ls) r = ⊎_elim (λ (x : (l.0 ≡ q) × (j ≡ k)). inl x.0) (λ x. inr (row_has q j (suc k) ls x)) r

  has_row : (q k : ℕ) (ls : List (ℕ × List T)) → HasLog q ls → (j : ℕ) × Row q j k ls
  has_row q k [] h = absurd h
  has_row q k (l ∷ ls) h = ⊎_elim (λ (x : l.0 ≡ q). (k, inl (x, refl))) (λ x. let r = has_row q (suc k) ls x in (r.0, inr r.1)) h

  row_from : (q j k : ℕ) (ls : List (ℕ × List T)) → Row q j k ls → k ≤ j
  row_from q j k [] r = absurd r
  row_from q j k (l ∷ ls) r = ⊎_elim (λ (x : (l.0 ≡ q) × (j ≡ k)). let e = x.1 in omega arith) (λ x. let h = row_from q j (suc k) ls x in omega arith) r

  row_below : (q j k : ℕ) (ls : List (ℕ × List T)) → Row q j k ls → j < k + length ls
  row_below q j k [] r = absurd r
  row_below q j k (l ∷ ls) r = ⊎_elim (λ (x : (l.0 ≡ q) × (j ≡ k)). let e = x.1 in omega arith) (λ x. let h = row_below q j (suc k) ls x in omega arith) r

  -- the items of the producer q are of its row
  row_items : (f : T → ℕ) (order : List (ℕ × T)) (q j k : ℕ) (ls : List (ℕ × List T)) → EachLog (λ p l. l ≡ part p order) ls → EachRow (λ i l. All (λ x. f x ≡ i) l) k ls → Row q j k ls → All (λ x. f x ≡ j) (part q order)
  row_items f order q j k [] parts rows r = absurd r
  row_items f order q j k (l ∷ ls) parts rows r = ⊎_elim
      (λ (x : (l.0 ≡ q) × (j ≡ k)).
      subst (λ (i : ℕ). All (λ y. f y ≡ i) (part q order)) (sym x.1)
      (subst (λ (xs : List T). All (λ y. f y ≡ k) xs) (parts.0 ∙ ap (λ p. part p order) x.0) rows.0))
      (λ x. row_items f order q j (suc k) ls parts.1 rows.1 x) r

  -- what holds of each producer's items holds of each item of the order
  abbrev EachItem : (ℕ → T → Type 0) → List (ℕ × T) → Type 0
  EachItem F [] = Unit {0}
  EachItem F (e ∷ es) = F e.0 e.1 × EachItem F es

  rest_of : (F : ℕ → T → Type 0) (q p : ℕ) (x : T) (es : List (ℕ × T)) → All (F q) (cond (p == q) (x ∷ part q es) (part q es)) → All (F q) (part q es)
  rest_of F q p x es h = elim (ℕ_discrete p q) [
    | yes is ↦
        let all : All (F q) (x ∷ part q es) = subst (λ b. All (F q) (cond b (x ∷ part q es) (part q es))) (eq-eqb p q is) h in
        λ k d lt. all (suc k) d (omega arith)
    | no isnt ↦ subst (λ b. All (F q) (cond b (x ∷ part q es) (part q es))) (ne_eqb p q isnt) h
  ]

  each_item : (F : ℕ → T → Type 0) (ls : List (ℕ × List T)) (es : List (ℕ × T)) → EachKnown ls es → ((q : ℕ) → HasLog q ls → All (F q) (part q es)) → EachItem F es
  each_item F ls [] known h = tt
  each_item F ls (e ∷ es) known h = (
    let here : All (F e.0) (e.1 ∷ part e.0 es) =
        subst (λ b. All (F e.0) (cond b (e.1 ∷ part e.0 es) (part e.0 es))) (eq-eqb e.0 e.0 refl) (h e.0 known.0) in
        here 0 e.1 (omega arith),
    each_item F ls es known.1 (λ q has. rest_of F q e.0 e.1 es (h q has)),
  )

  agree : (f : T → ℕ) (p j : ℕ) (es : List (ℕ × T)) → EachItem (λ q x. (q ≡ p → f x ≡ j) × (f x ≡ j → q ≡ p)) es → part p es ≡ picked f j (items_of es)
  agree f p j [] h = refl
  agree f p j (e ∷ es) h = let ih = agree f p j es h.1 in elim (ℕ_discrete e.0 p) [
    | yes is ↦
        ap (λ b. cond b (e.1 ∷ part p es) (part p es)) (eq-eqb e.0 p is) ∙ ap (λ l. e.1 ∷ l) ih
        ∙ sym (ap (λ b. cond b (e.1 ∷ picked f j (items_of es)) (picked f j (items_of es))) (eq-eqb (f e.1) j (h.0.0 is)))
    | no isnt ↦
        ap (λ b. cond b (e.1 ∷ part p es) (part p es)) (ne_eqb e.0 p isnt) ∙ ih
        ∙ sym (ap (λ b. cond b (e.1 ∷ picked f j (items_of es)) (picked f j (items_of es))) (ne_eqb (f e.1) j (λ is. isnt (h.0.1 is))))
  ]

  row_unique : (q i j k : ℕ) (ls : List (ℕ × List T)) → Apart ls → Row q i k ls → Row q j k ls → i ≡ j
  row_unique q i j k [] apart r s = absurd r
  row_unique q i j k (l ∷ ls) apart r s = ⊎_elim
      (λ (x : (l.0 ≡ q) × (i ≡ k)). ⊎_elim
      (λ (y : (l.0 ≡ q) × (j ≡ k)). x.1 ∙ sym y.1)
      (λ y. absurd (apart.0 (subst (λ n. HasLog n ls) (sym x.0) (row_has q j (suc k) ls y)))) s)
      (λ x. ⊎_elim
      (λ (y : (l.0 ≡ q) × (j ≡ k)). absurd (apart.0 (subst (λ n. HasLog n ls) (sym y.0) (row_has q i (suc k) ls x))))
      (λ y. row_unique q i j (suc k) ls apart.1 x y) s) r

  row_same : (q p j k : ℕ) (ls : List (ℕ × List T)) → Row q j k ls → Row p j k ls → q ≡ p
  row_same q p j k [] r s = absurd r
  row_same q p j k (l ∷ ls) r s = ⊎_elim
      (λ (x : (l.0 ≡ q) × (j ≡ k)). ⊎_elim
      (λ (y : (l.0 ≡ p) × (j ≡ k)). sym x.0 ∙ y.0)
      (λ y. absurd (let e = x.1 in let h = row_from p j (suc k) ls y in omega arith)) s)
      (λ x. ⊎_elim
      (λ (y : (l.0 ≡ p) × (j ≡ k)). absurd (let e = y.1 in let h = row_from q j (suc k) ls x in omega arith))
      (λ y. row_same q p j (suc k) ls x y) s) r

  items_map : (F G : ℕ → T → Type 0) (es : List (ℕ × T)) → ((q : ℕ) (x : T) → F q x → G q x) → EachItem F es → EachItem G es
  items_map F G [] f h = tt
  items_map F G (e ∷ es) f h = (f e.0 e.1 h.0, items_map F G es f h.1)

  -- the item's producer has a row, and f tells its number
  abbrev Named : (T → ℕ) → List (ℕ × List T) → ℕ → T → Type 0
  Named f logs q x = (j : ℕ) × Row q j 0 logs × (f x ≡ j)

  rows_of : (f : T → ℕ) (logs : List (ℕ × List T)) (order : List (ℕ × T)) → Apart logs → EachItem (Named f logs) order → (k : ℕ) (ls : List (ℕ × List T)) → EachLog (λ p l. l ≡ part p order) ls → ((q j : ℕ) → Row q j k ls → Row q j 0 logs) → EachRow (λ i l. l ≡ picked f i (items_of order)) k ls
  rows_of f logs order apart named k [] parts embed = tt
  rows_of f logs order apart named k (l ∷ ls) parts embed =
      let own : Row l.0 k 0 logs = embed l.0 k (inl (refl, refl)) in (
        parts.0
            ∙ agree f l.0 k order
            (items_map (Named f logs) (λ q x. (q ≡ l.0 → f x ≡ k) × (f x ≡ k → q ≡ l.0)) order
            (λ q x n. (
              λ is. n.2 ∙ row_unique q n.0 k 0 logs apart n.1 (subst (λ m. Row m k 0 logs) (sym is) own),
              λ is. row_same q l.0 k 0 logs (subst (λ m. Row q m 0 logs) (sym n.2 ∙ is) n.1) own,
            )) named),
        rows_of f logs order apart named (suc k) ls parts.1 (λ q j r. embed q j (inr r)),
      )

  numbers_of : (f : T → ℕ) (n : ℕ) (es : List (ℕ × T)) → EachItem (λ q x. f x < n) es → All (λ x. f x < n) (items_of es)
  numbers_of f n [] h k d lt = absurd (omega arith)
  numbers_of f n (e ∷ es) h zero d lt = h.0
  numbers_of f n (e ∷ es) h (suc k) d lt = numbers_of f n es h.1 k d (omega arith)

  pub shuffle : OrderIsAShuffle T
  shuffle logs order h f rows =
      let named : EachItem (Named f logs) order = each_item (Named f logs) logs order h.known
      (λ q has. let r = has_row q 0 logs has in let all = row_items f order q r.0 0 logs h.parts rows r.1 in
      λ k d lt. (r.0, r.1, all k d lt)) in (
        rows_of f logs order h.apart named 0 logs h.parts (λ q j r. r),
        numbers_of f (length logs) order
            (items_map (Named f logs) (λ q x. f x < length logs) order
            (λ q x n. let lt = row_below q n.0 0 logs n.1 in let e = n.2 in omega arith) named),
      )
