-- What a step of the two loops over columns does: an item leaves a column's end for the row, or comes there from it.
use Rattle.std.proofs.Common.{◌≡◌, ℕ, zero, suc, ◌<◌, List, [], ◌∷◌, ◌++◌, map, length, set, get_or, drop, sym, subst, refl, ap, ◌∙◌, arith}
use Rattle.std.proofs.lemmas.List.{map-set, length-map}
use Rattle.std.specs.List.{AllZip}
use Rattle.std.proofs.Math.ListN.{get_or-map}
use Rattle.m17_lists.proofs.Lengths.{same_cons}
use Rattle.m17_lane.specs.Columns.{each_with}

module _ {A : Type 0} where
  pub heads : (d x y : A) (xs ys : List A) → x ∷ xs ≡ y ∷ ys → x ≡ y
  heads d x y xs ys e = ap (λ (l : List A). get_or l 0 d) e

  pub tails : (x y : A) (xs ys : List A) → x ∷ xs ≡ y ∷ ys → xs ≡ ys
  tails x y xs ys e = ap (λ (l : List A). drop 1 l) e

  pub not_empty : (x : A) (xs : List A) → x ∷ xs ≡ [] → ⊥
  not_empty x xs e = let h : length (x ∷ xs) ≡ 0 = ap length e in omega arith

module _ {A : Type 0} where
  -- the first k columns have given their last items to the row, and the others are as they were
  abbrev pub Taken : ℕ → List (List A) → List A → List (List A) → Type 0
  Taken zero now row old = (row ≡ []) × (now ≡ old)
  Taken (suc k) [] row old = ⊥
  Taken (suc k) (c ∷ now) [] old = ⊥
  Taken (suc k) (c ∷ now) (x ∷ row) [] = ⊥
  Taken (suc k) (c ∷ now) (x ∷ row) (o ∷ old) = (o ≡ c ++ x ∷ []) × Taken k now row old

  pub taken_step : (k : ℕ) (now : List (List A)) (row : List A) (old : List (List A)) (c d : List A) (x : A) → Taken k now row old → k < length now → get_or now k d ≡ c ++ x ∷ [] → Taken (suc k) (set now k c) (row ++ x ∷ []) old
  taken_step zero [] row old c d x h lt e = absurd (omega arith)
  taken_step zero (b ∷ now) (y ∷ row) old c d x h lt e = absurd (not_empty y row h.0)
  taken_step zero (b ∷ now) [] [] c d x h lt e = absurd (not_empty b now h.1)
  taken_step zero (b ∷ now) [] (o ∷ old) c d x h lt e = (sym (heads d b o now old h.1) ∙ e, (refl, tails b o now old h.1))
  taken_step (suc k) [] row old c d x h lt e = absurd h
  taken_step (suc k) (b ∷ now) [] old c d x h lt e = absurd h
  taken_step (suc k) (b ∷ now) (y ∷ row) [] c d x h lt e = absurd h
  taken_step (suc k) (b ∷ now) (y ∷ row) (o ∷ old) c d x h lt e = (h.0, taken_step k now row old c d x h.1 (omega arith) e)

  pub taken_read : (k : ℕ) (now : List (List A)) (row : List A) (old : List (List A)) (d : List A) → Taken k now row old → get_or now k d ≡ get_or old k d
  taken_read zero now row old d h = ap (λ (l : List (List A)). get_or l 0 d) h.1
  taken_read (suc k) [] row old d h = absurd h
  taken_read (suc k) (b ∷ now) [] old d h = absurd h
  taken_read (suc k) (b ∷ now) (y ∷ row) [] d h = absurd h
  taken_read (suc k) (b ∷ now) (y ∷ row) (o ∷ old) d h = taken_read k now row old d h.1

  pub taken_all : (n : ℕ) (now : List (List A)) (row : List A) (old : List (List A)) → Taken n now row old → n ≡ length now → old ≡ each_with now row
  taken_all zero [] row old h is = sym h.1
  taken_all zero (b ∷ now) row old h is = absurd (omega arith)
  taken_all (suc k) [] row old h is = absurd h
  taken_all (suc k) (b ∷ now) [] old h is = absurd h
  taken_all (suc k) (b ∷ now) (y ∷ row) [] h is = absurd h
  taken_all (suc k) (b ∷ now) (y ∷ row) (o ∷ old) h is =
      same_cons h.0 (taken_all k now row old h.1 (omega arith))

  -- the first k columns are as they were, and the others have one item more, of those that left the row
  abbrev pub Dealt : ℕ → List (List A) → List (List A) → List A → Type 0
  Dealt zero now old gone = now ≡ each_with old gone
  Dealt (suc k) [] old gone = ⊥
  Dealt (suc k) (c ∷ now) [] gone = ⊥
  Dealt (suc k) (c ∷ now) (o ∷ old) gone = (c ≡ o) × Dealt k now old gone

  pub dealt_none : (old : List (List A)) → Dealt (length old) old old []
  dealt_none [] = refl
  dealt_none (o ∷ old) = (refl, dealt_none old)

  pub dealt_step : (k : ℕ) (now old : List (List A)) (gone : List A) (d : List A) (x : A) → Dealt (suc k) now old gone → Dealt k (set now k (get_or now k d ++ x ∷ [])) old (x ∷ gone)
  dealt_step k [] old gone d x h = absurd h
  dealt_step k (c ∷ now) [] gone d x h = absurd h
  dealt_step zero (c ∷ now) (o ∷ old) gone d x h =
      same_cons (ap (λ (l : List A). l ++ x ∷ []) h.0) h.1
  dealt_step (suc k) (c ∷ now) (o ∷ old) gone d x h = (h.0, dealt_step k now old gone d x h.1)

module _ {V : Type 0} (R : V → V → Type 0) where
  -- the first k are as they were, and of each of the others R holds, before and after
  abbrev pub Changed : ℕ → List V → List V → Type 0
  Changed zero now old = AllZip R old now
  Changed (suc k) [] old = ⊥
  Changed (suc k) (v ∷ now) [] = ⊥
  Changed (suc k) (v ∷ now) (o ∷ old) = (v ≡ o) × Changed k now old

  pub changed_none : (old : List V) → Changed (length old) old old
  changed_none [] = tt
  changed_none (o ∷ old) = (refl, changed_none old)

  pub changed_step : (k : ℕ) (now old : List V) (d v : V) → Changed (suc k) now old → R (get_or old k d) v → Changed k (set now k v) old
  changed_step k [] old d v h r = absurd h
  changed_step k (w ∷ now) [] d v h r = absurd h
  changed_step zero (w ∷ now) (o ∷ old) d v h r = (r, h.1)
  changed_step (suc k) (w ∷ now) (o ∷ old) d v h r = (h.0, changed_step k now old d v h.1 r)

  pub changed_read : (k : ℕ) (now old : List V) (d : V) → Changed (suc k) now old → get_or now k d ≡ get_or old k d
  changed_read k [] old d h = absurd h
  changed_read k (w ∷ now) [] d h = absurd h
  changed_read zero (w ∷ now) (o ∷ old) d h = h.0
  changed_read (suc k) (w ∷ now) (o ∷ old) d h = changed_read k now old d h.1

-- one step, where the columns are what `items` shows of the members of a list
module _ {V A : Type 0} (items : V → List A) where
  pub took : (cols old : List V) (k n : ℕ) (row more : List A) (was is : V) (x : A) → n ≡ suc k → Taken k (map items cols) row (map items old) → k < length cols → was ≡ get_or cols k was → items was ≡ items is ++ x ∷ [] → more ≡ row ++ x ∷ [] → Taken n (map items (set cols k is)) more (map items old)
  took cols old k n row more was is x next h lt at left came =
      let long : length (map items cols) ≡ length cols = length-map cols items in
      let step : Taken (suc k) (set (map items cols) k (items is)) (row ++ x ∷ []) (map items old) =
      taken_step k (map items cols) row (map items old) (items is) (items was) x h (omega arith) (get_or-map items cols k was ∙ ap items (sym at) ∙ left) in
      subst (λ (j : ℕ). Taken j (map items (set cols k is)) more (map items old)) (sym next)
      (subst (λ (l : List A). Taken (suc k) (map items (set cols k is)) l (map items old)) (sym came)
      (subst (λ (l : List (List A)). Taken (suc k) l (row ++ x ∷ []) (map items old)) (sym (map-set items cols k is)) step))

  pub same_items : (cols old : List V) (k : ℕ) (row : List A) (was : V) → Taken k (map items cols) row (map items old) → was ≡ get_or cols k was → items was ≡ items (get_or old k was)
  same_items cols old k row was h at =
      ap items at ∙ sym (get_or-map items cols k was) ∙ taken_read k (map items cols) row (map items old) (items was) h ∙ get_or-map items old k was

  pub dealt_at_first : (old : List V) (n : ℕ) → n ≡ length old → Dealt n (map items old) (map items old) []
  dealt_at_first old n e = subst (λ (j : ℕ). Dealt j (map items old) (map items old) []) (length-map old items ∙ sym e) (dealt_none (map items old))

  pub dealt_one : (cols : List V) (old : List (List A)) (j k m : ℕ) (gone : List A) (was is : V) (x : A) → j ≡ suc k → m ≡ k → Dealt j (map items cols) old gone → was ≡ get_or cols m was → items is ≡ items was ++ x ∷ [] → Dealt k (map items (set cols m is)) old (x ∷ gone)
  dealt_one cols old j k m gone was is x next same h at came =
      let here : was ≡ get_or cols k was = at ∙ ap (λ (i : ℕ). get_or cols i was) same in
      let step = dealt_step k (map items cols) old gone (items was) x (subst (λ (i : ℕ). Dealt i (map items cols) old gone) next h) in
      let put : get_or (map items cols) k (items was) ++ x ∷ [] ≡ items is = ap (λ (l : List A). l ++ x ∷ []) (get_or-map items cols k was ∙ ap items (sym here)) ∙ sym came in
      subst (λ (i : ℕ). Dealt k (map items (set cols i is)) old (x ∷ gone)) (sym same)
      (subst (λ (l : List (List A)). Dealt k l old (x ∷ gone)) (sym (map-set items cols k is))
      (subst (λ (l : List A). Dealt k (set (map items cols) k l) old (x ∷ gone)) put step))

module _ {V : Type 0} (R : V → V → Type 0) where
  pub changed_one : (cols old : List V) (j k m : ℕ) (was is : V) → j ≡ suc k → m ≡ k → Changed R j cols old → was ≡ get_or cols m was → R was is → Changed R k (set cols m is) old
  changed_one cols old j k m was is next same h at r =
      let before = subst (λ (i : ℕ). Changed R i cols old) next h in
      let here : was ≡ get_or old k was = at ∙ ap (λ (i : ℕ). get_or cols i was) same ∙ changed_read R k cols old was before in
      subst (λ (i : ℕ). Changed R k (set cols i is) old) (sym same)
      (changed_step R k cols old was is before (subst (λ (v : V). R v is) here r))

  pub still : (cols old : List V) (j m : ℕ) (was : V) → j ≡ suc m → Changed R j cols old → was ≡ get_or cols m was → was ≡ get_or old m was
  still cols old j m was next h at = at ∙ changed_read R m cols old was (subst (λ (i : ℕ). Changed R i cols old) next h)

  pub changed_at_first : (old : List V) (n : ℕ) → n ≡ length old → Changed R n old old
  changed_at_first old n e = subst (λ (j : ℕ). Changed R j old old) (sym e) (changed_none R old)
