-- Tests (`Bool`), options and bytes: what both of two say, and the same or another.
use Rattle.std.proofs.Common.{◌≡◌, ◌≢◌, ◌⊎◌, ◌||◌, ◌&&◌, inl, inr, ℕ, Bool, true, false, List, Option, None, Some, option_map, refl, sym, ◌∙◌}
use Rattle.std.specs.Str.{bytes_eq}
use Rattle.std.proofs.lemmas.Bool.{cases_Bool, false≢true}
use Rattle.std.proofs.lemmas.Option.{same_Some}
use Rattle.std.proofs.lemmas.Slice.Eq.{bytes_eq-Decides}

pub or_false_is_itself : (b : Bool) → (b || false) ≡ b
or_false_is_itself true = refl
or_false_is_itself false = refl

pub or_true_is_true : (b : Bool) → (b || true) ≡ true
or_true_is_true true = refl
or_true_is_true false = refl

pub both_are_true : (a b : Bool) → a && b ≡ true → (a ≡ true) × (b ≡ true)
both_are_true true b h = (refl, h)
both_are_true false b h = cc

pub true_where_both_are : (a b : Bool) → a ≡ true → b ≡ true → a && b ≡ true
true_where_both_are a b p q = rw (p, q) refl

pub true_for_each_other_is_same : (a b : Bool) → (a ≡ true → b ≡ true) → (b ≡ true → a ≡ true) → a ≡ b
true_for_each_other_is_same true b f g = sym (f refl)
true_for_each_other_is_same false true f g = g refl
true_for_each_other_is_same false false f g = refl

pub mapped_option_is_of_one : {A B : Type 0} (f : A → B) (o : Option A) (y : B) → option_map f o ≡ Some y
    → (x : A) × (o ≡ Some x) × (f x ≡ y)
mapped_option_is_of_one f None y e = cc
mapped_option_is_of_one f (Some x) y e = (x, refl, same_Some (f x) y e)

pub same_bytes_or_others : (a b : List ℕ) → (a ≡ b) ⊎ (a ≢ b)
same_bytes_or_others a b =
    let decides = bytes_eq-Decides a b in
    elim (cases_Bool (bytes_eq a b)) [ inl same ↦ inl (decides.0 same) | inr other ↦ inr (λ e. false≢true (sym other ∙ decides.1 e)) ]
