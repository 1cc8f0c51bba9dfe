-- Lists whose items are taken from the end and put at the end of another.
use Rattle.std.proofs.Common.{◌≡◌, List, [], ◌∷◌, ◌++◌, map, reverse, length, All, refl, sym, ap, subst, ◌∙◌, arith, append_assoc, append-nil}
use Rattle.std.specs.Prelude.{Some}
use Rattle.std.specs.List.{AllZip}
use Rattle.std.proofs.lemmas.List.{reverse-append}
use Rattle.std.proofs.lemmas.List.Elements.{All-pop, All-cons, All-nil}

pub none_left : {A : Type 0} (xs : List A) → length xs ≡ 0 → xs ≡ []
none_left [] h = refl
none_left (x ∷ xs) h = absurd (omega arith)

module _ {A B : Type 0} where
  pub map_push : (f : A → B) (xs : List A) (x : A) → map f (xs ++ x ∷ []) ≡ map f xs ++ f x ∷ []
  map_push f [] x = refl
  map_push f (y ∷ xs) x = ap (λ (l : List B). f y ∷ l) (map_push f xs x)

  -- what is taken from the end of a list and put at the end of another stands there in reverse
  pub none_moved : (f : A → B) (all : List A) (put : List B) → put ≡ [] → map f all ≡ map f all ++ reverse put
  none_moved f all put none = sym (append-nil (map f all)) ∙ sym (ap (λ (l : List B). map f all ++ reverse l) none)

  pub one_moved : (f : A → B) (all before left : List A) (x : A) (y : B) (put more : List B) → map f all ≡ map f before ++ reverse put
      → before ≡ left ++ x ∷ [] → y ≡ f x → more ≡ put ++ y ∷ [] → map f all ≡ map f left ++ reverse more
  one_moved f all before left x y put more was taken same came =
      was ∙ ap (λ (l : List A). map f l ++ reverse put) taken ∙ ap (λ (l : List B). l ++ reverse put) (map_push f left x)
      ∙ append_assoc (map f left) (f x ∷ []) (reverse put) ∙ ap (λ (z : B). map f left ++ z ∷ reverse put) (sym same)
      ∙ sym (ap (λ (l : List B). map f left ++ reverse l) came ∙ ap (λ (l : List B). map f left ++ l) (reverse-append put (y ∷ [])))

  -- the same of what a list comes to, item by item
  pub nothing_moved : (h : List A → List B) (all : List A) (put : List B) → put ≡ [] → h all ≡ h all ++ reverse put
  nothing_moved h all put none = sym (append-nil (h all)) ∙ sym (ap (λ (l : List B). h all ++ reverse l) none)

  pub moved_on : (h : List A → List B) (all before left : List A) (x : A) (y : B) (put more : List B) → h all ≡ h before ++ reverse put
      → before ≡ left ++ x ∷ [] → h (left ++ x ∷ []) ≡ h left ++ y ∷ [] → more ≡ put ++ y ∷ [] → h all ≡ h left ++ reverse more
  moved_on h all before left x y put more was taken same came =
      was ∙ ap (λ (l : List A). h l ++ reverse put) taken ∙ ap (λ (l : List B). l ++ reverse put) same
      ∙ append_assoc (h left) (y ∷ []) (reverse put)
      ∙ sym (ap (λ (l : List B). h left ++ reverse l) came ∙ ap (λ (l : List B). h left ++ l) (reverse-append put (y ∷ [])))

  -- the same where what is put comes to what was taken
  pub none_put : (h : List B → List A) (all : List A) (put : List B) → h [] ≡ [] → put ≡ [] → all ≡ all ++ h (reverse put)
  none_put h all put empty none = sym (append-nil all) ∙ sym (ap (λ (l : List B). all ++ h (reverse l)) none ∙ ap (λ (l : List A). all ++ l) empty)

  pub one_put : (h : List B → List A) (all before left : List A) (x : A) (y : B) (put more : List B) → all ≡ before ++ h (reverse put)
      → before ≡ left ++ x ∷ [] → h (y ∷ reverse put) ≡ x ∷ h (reverse put) → more ≡ put ++ y ∷ [] → all ≡ left ++ h (reverse more)
  one_put h all before left x y put more was taken same came =
      was ∙ ap (λ (l : List A). l ++ h (reverse put)) taken ∙ append_assoc left (x ∷ []) (h (reverse put))
      ∙ ap (λ (l : List A). left ++ l) (sym same)
      ∙ sym (ap (λ (l : List B). left ++ h (reverse l)) came ∙ ap (λ (l : List B). left ++ h l) (reverse-append put (y ∷ [])))

module _ {A : Type 0} (P : A → Type 0) where
  -- of a list whose last item is taken, what holds of all holds of the others and of it
  pub all_but_last : (xs ys : List A) (x : A) → xs ≡ ys ++ x ∷ [] → All P xs → All P ys × P x
  all_but_last xs ys x is all = All-pop P xs ys (Some x) is all

  pub none_yet : (put : List A) → put ≡ [] → All P (reverse put)
  none_yet put none = subst (λ (l : List A). All P (reverse l)) (sym none) (All-nil P)

  pub one_more : (put more : List A) (x : A) → more ≡ put ++ x ∷ [] → P x → All P (reverse put) → All P (reverse more)
  one_more put more x came p all =
      subst (All P) (sym (ap reverse came ∙ reverse-append put (x ∷ []))) (All-cons P x (reverse put) p all)

-- what holds of two lists, place by place, from their ends
module _ {A B : Type 0} (R : A → B → Type 0) where
  pub no_pairs : (xs : List A) (ys : List B) → xs ≡ [] → ys ≡ [] → AllZip R (reverse xs) (reverse ys)
  no_pairs xs ys x y = subst (λ (l : List A). AllZip R (reverse l) (reverse ys)) (sym x) (subst (λ (l : List B). AllZip R [] (reverse l)) (sym y) tt)

  pub one_pair : (xs more : List A) (ys more' : List B) (x : A) (y : B) → more ≡ xs ++ x ∷ [] → more' ≡ ys ++ y ∷ [] → R x y → AllZip R (reverse xs) (reverse ys)
      → AllZip R (reverse more) (reverse more')
  one_pair xs more ys more' x y is is' r rest =
      subst (λ (l : List A). AllZip R l (reverse more')) (sym (ap reverse is ∙ reverse-append xs (x ∷ [])))
      (subst (λ (l : List B). AllZip R (x ∷ reverse xs) l) (sym (ap reverse is' ∙ reverse-append ys (y ∷ []))) (r, rest))
