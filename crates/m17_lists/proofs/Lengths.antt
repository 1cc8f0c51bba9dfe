-- How long lists are, and lists that are made longer.
use Rattle.std.proofs.Common.{◌≡◌, ℕ, suc, ◌≤◌, List, [], ◌∷◌, ◌++◌, length, reverse, Option, None, Some, refl, ap, ◌∙◌, arith}
use Rattle.std.specs.List.{cons_option, filter_map, last_or}
use Rattle.std.proofs.lemmas.List.{reverse-append}

module _ {A : Type 0} where
  pub one_more_is_one_longer : (xs : List A) (y : A) → length (xs ++ y ∷ []) ≡ suc (length xs)
  one_more_is_one_longer [] y = refl
  one_more_is_one_longer (x ∷ xs) y = ap suc (one_more_is_one_longer xs y)

  -- two lists that make an empty one
  pub none_stands_behind : (xs ys : List A) → xs ++ ys ≡ [] → ys ≡ []
  none_stands_behind [] ys e = e
  none_stands_behind (x ∷ xs) ys e = cc

  pub one_more_is_the_last : (o : Option A) (xs : List A) (x : A) → last_or o (xs ++ x ∷ []) ≡ Some x
  one_more_is_the_last o [] x = refl
  one_more_is_the_last o (y ∷ ys) x = one_more_is_the_last (Some y) ys x

  pub one_more_is_first_in_reverse : (xs : List A) (x : A) → reverse (xs ++ x ∷ []) ≡ x ∷ reverse xs
  one_more_is_first_in_reverse xs x = reverse-append xs (x ∷ [])

  pub same_cons : {x y : A} {xs ys : List A} → x ≡ y → xs ≡ ys → x ∷ xs ≡ y ∷ ys
  same_cons {x} {y} {xs} {ys} e f = ap (λ (z : A). z ∷ xs) e ∙ ap (λ (zs : List A). y ∷ zs) f

one_or_none_longer : {B : Type 0} (o : Option B) (ys : List B) (n : ℕ) → length ys ≤ n → length (cons_option o ys) ≤ suc n
one_or_none_longer None ys n h = omega arith
one_or_none_longer (Some y) ys n h = omega arith

pub filter_map_is_no_longer : {A B : Type 0} (f : A → Option B) (xs : List A) → length (filter_map f xs) ≤ length xs
filter_map_is_no_longer f [] = omega arith
filter_map_is_no_longer f (x ∷ xs) =
    one_or_none_longer (f x) (filter_map f xs) (length xs) (filter_map_is_no_longer f xs)
