-- The last position below a bound that passes a test, and lists that go on.
use Rattle.std.proofs.Common.{◌≡◌, ℕ, zero, suc, ◌<◌, Bool, true, false, cond, List, [], ◌∷◌, ◌++◌, length, slice_get, Some, refl, ap, ◌∙◌, arith}
use Rattle.std.proofs.lemmas.Option.{same_Some}
use Rattle.m17_lookup.specs.Lookup.{last_below}

pub slice_get_before : {A : Type 0} (xs ys : List A) (m : ℕ) → m < length xs → slice_get (xs ++ ys) m ≡ slice_get xs m
slice_get_before [] ys m h = absurd (omega arith)
slice_get_before (x ∷ xs) ys zero h = refl
slice_get_before (x ∷ xs) ys (suc m) h = slice_get_before xs ys m (omega arith)

pub slice_get_end : {A : Type 0} (xs : List A) (y : A) → slice_get (xs ++ y ∷ []) (length xs) ≡ Some y
slice_get_end [] y = refl
slice_get_end (x ∷ xs) y = slice_get_end xs y

pub length_more : {A : Type 0} (xs : List A) (y : A) → length (xs ++ y ∷ []) ≡ suc (length xs)
length_more [] y = refl
length_more (x ∷ xs) y = ap suc (length_more xs y)

-- a stricter test that the found position passes finds the same one
stricter_cond : (p q : ℕ → Bool) (n a : ℕ) (b c : Bool) → b ≡ p n → c ≡ q n → q a ≡ true → (c ≡ true → b ≡ true)
    → (last_below p n ≡ Some a → last_below q n ≡ Some a)
    → cond b (Some n) (last_below p n) ≡ Some a → cond c (Some n) (last_below q n) ≡ Some a
stricter_cond p q n a true true hb hc qa imp ih e = e
stricter_cond p q n a true false hb hc qa imp ih e =
    let same : n ≡ a = same_Some n a e in
    let now : q n ≡ true = ap q same ∙ qa in
    cc
stricter_cond p q n a false true hb hc qa imp ih e = let no : false ≡ true = imp refl in cc
stricter_cond p q n a false false hb hc qa imp ih e = ih e

pub last_below_stricter : (p q : ℕ → Bool) (n a : ℕ) → ((m : ℕ) → q m ≡ true → p m ≡ true) → last_below p n ≡ Some a → q a ≡ true → last_below q n ≡ Some a
unfolding last_below
last_below_stricter p q zero a h e qa = e
last_below_stricter p q (suc n) a h e qa =
    stricter_cond p q n a (p n) (q n) refl refl qa (h n) (λ ih. last_below_stricter p q n a h ih qa) e
