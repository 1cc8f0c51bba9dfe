-- Facts on lists: two maps, items at places, and numbers in a row.
use Rattle.std.proofs.Common.{◌≡◌, ℕ, zero, suc, ◌+◌, List, [], ◌∷◌, ◌++◌, map, reverse, length, All, Some, refl, sym, ap, ap₂, subst, ◌∙◌, arith, add-zero, zero-add, append_assoc, append-nil}
use Rattle.std.proofs.lemmas.List.{reverse-append}
use Rattle.std.specs.Prelude.{slice_get}
use Rattle.std.specs.List.{range_with_len}
use Rattle.std.proofs.lemmas.List.Elements.{All-nil, All-cons, All-head}
use Rattle.std.proofs.lemmas.Option.{same_Some, none-some}

module _ {A B C : Type 0} where
  pub map_twice : (g : B → C) (f : A → B) (xs : List A) → map g (map f xs) ≡ map (λ x. g (f x)) xs
  map_twice g f [] = refl
  map_twice g f (x ∷ xs) = ap (λ (l : List C). g (f x) ∷ l) (map_twice g f xs)

module _ {A B : Type 0} where
  pub map_push : (f : A → B) (xs : List A) (x : A) → map f (xs ++ x ∷ []) ≡ map f xs ++ f x ∷ []
  map_push f [] x = refl
  map_push f (y ∷ xs) x = ap (λ (l : List B). f y ∷ l) (map_push f xs x)

  -- what holds of all images holds of all items by their image
  pub all_images : (f : A → B) (P : B → Type 0) (xs : List A) → All P (map f xs) → All (λ x. P (f x)) xs
  all_images f P [] h = All-nil (λ x. P (f x))
  all_images f P (x ∷ xs) h = All-cons (λ x. P (f x)) x xs (All-head P (f x) (map f xs) h) (all_images f P xs (λ k d lt. h (suc k) d (omega arith)))

module _ {A : Type 0} where
  -- what holds at each place holds of all
  pub all_of : (P : A → Type 0) (xs : List A) → ((i : ℕ) (x : A) → slice_get xs i ≡ Some x → P x) → All P xs
  all_of P [] h = All-nil P
  all_of P (x ∷ xs) h = All-cons P x xs (h 0 x refl) (all_of P xs (λ i y e. h (suc i) y e))

  -- what holds of each by its place, and of one more at the end
  pub each_push : (P : ℕ → A → Type 0) (xs : List A) (x : A) → ((i : ℕ) (y : A) → slice_get xs i ≡ Some y → P i y) → P (length xs) x
      → (i : ℕ) (y : A) → slice_get (xs ++ x ∷ []) i ≡ Some y → P i y
  each_push P [] x h p zero y e = subst (P 0) (same_Some x y e) p
  each_push P [] x h p (suc i) y e = absurd (none-some y e)
  each_push P (z ∷ xs) x h p zero y e = h 0 y e
  each_push P (z ∷ xs) x h p (suc i) y e = each_push (λ j. P (suc j)) xs x (λ j w f. h (suc j) w f) p i y e

-- numbers in a row are the first of them, and the rest
pub range_split : (a k m : ℕ) → range_with_len a (k + m) ≡ range_with_len a k ++ range_with_len (a + k) m
range_split a zero m = ap₂ (λ (x y : ℕ). range_with_len x y) (sym (add-zero a)) (zero-add m)
range_split a (suc k) m =
    let more : suc k + m ≡ suc (k + m) = omega arith in
    let on : (a + 1) + k ≡ a + suc k = omega arith in
    ap (range_with_len a) more ∙ ap (λ (l : List ℕ). a ∷ l) (range_split (a + 1) k m)
    ∙ ap (λ (b : ℕ). a ∷ (range_with_len (a + 1) k ++ range_with_len b m)) on

-- what is taken from the end of a list and put at the end of another stands there in reverse
module _ {A B : Type 0} where
  pub none_moved : (f : A → B) (all : List A) (put : List B) → put ≡ [] → map f all ≡ map f all ++ reverse put
  none_moved f all put none = sym (append-nil (map f all)) ∙ sym (ap (λ (l : List B). map f all ++ reverse l) none)

  pub one_moved : (f : A → B) (all before left : List A) (x : A) (y : B) (put more : List B) → map f all ≡ map f before ++ reverse put
      → before ≡ left ++ x ∷ [] → y ≡ f x → more ≡ put ++ y ∷ [] → map f all ≡ map f left ++ reverse more
  one_moved f all before left x y put more was taken same came =
      was ∙ ap (λ (l : List A). map f l ++ reverse put) taken ∙ ap (λ (l : List B). l ++ reverse put) (map_push f left x)
      ∙ append_assoc (map f left) (f x ∷ []) (reverse put) ∙ ap (λ (z : B). map f left ++ z ∷ reverse put) (sym same)
      ∙ sym (ap (λ (l : List B). map f left ++ reverse l) came ∙ ap (λ (l : List B). map f left ++ l) (reverse-append put (y ∷ [])))
