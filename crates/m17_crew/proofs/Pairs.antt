-- What one relation says of two lists, place by place (`AllZip`), beyond std's lemmas; and the two laws.
use Rattle.std.specs.Prelude.{◌≡◌, List, [], ◌∷◌, ◌++◌, reverse, refl}
use Rattle.std.specs.List.{AllZip, AllByRecursion}
use Rattle.m17_crew.specs.Laws.{Ran, AreBack}
use Rattle.std.proofs.Common.{sym, subst, ◌∙◌, inl, inr}
use Rattle.std.proofs.lemmas.List.{reverse-append, append-nil}
use Rattle.m17_lists.proofs.Pairs.{pairs_behind_pairs, pairs_say_less, each_beside_itself}

module _ {A B : Type 0} (R : A → B → Type 0) where
  -- both lists from their ends
  pub zip_reverse : (xs : List A) (ys : List B) → AllZip R xs ys → AllZip R (reverse xs) (reverse ys)
  zip_reverse [] [] p = tt
  zip_reverse [] (y ∷ ys) p = absurd p
  zip_reverse (x ∷ xs) [] p = absurd p
  zip_reverse (x ∷ xs) (y ∷ ys) p =
      rw (reverse-append (x ∷ []) xs, reverse-append (y ∷ []) ys)
      (pairs_behind_pairs R (reverse xs) (reverse ys) (x ∷ []) (y ∷ []) (zip_reverse xs ys p.1) (p.0, tt))

  -- what holds of each job before holds of each job after in another form
  pub zip_all : (P : A → Type 0) (Q : B → Type 0) → ((x : A) (y : B) → P x → R x y → Q y)
      → (xs : List A) (ys : List B) → AllZip R xs ys → AllByRecursion P xs → AllByRecursion Q ys
  zip_all P Q carries [] [] p q = tt
  zip_all P Q carries [] (y ∷ ys) p q = absurd p
  zip_all P Q carries (x ∷ xs) [] p q = absurd p
  zip_all P Q carries (x ∷ xs) (y ∷ ys) p q = (carries x y q.0 p.0, zip_all P Q carries xs ys p.1 q.1)

module _ {A : Type 0} (R : A → A → Type 0) (jobs before left started back : List A)
    (are : AreBack R jobs before left started back) where
  -- nothing ran before, so the list of what ran before says nothing
  whole : jobs ≡ left ++ reverse started
  whole = sym (append-nil jobs)
      ∙ subst (λ (ran : List A). jobs ++ reverse ran ≡ left ++ reverse started) are.none_before are.started_in_order

  pub in_order : AllZip (Ran R) jobs back
  in_order = let (ended, joined, pairs) = are.joined in
      rw (whole, joined) (pairs_behind_pairs (Ran R) left left (reverse started) ended (each_beside_itself (Ran R) (λ x. inl refl) left)
      (pairs_say_less R (Ran R) (λ x y done. inr done) (reverse started) ended pairs))

  pub all_done : left ≡ [] → AllZip R jobs back
  all_done none_left = let (ended, joined, pairs) = are.joined in rw (whole, joined, none_left) pairs
