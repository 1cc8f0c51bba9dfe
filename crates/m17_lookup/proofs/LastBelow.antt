-- What `last_below` finds.
use Rattle.std.proofs.Common.{◌≡◌, ℕ, zero, suc, ◌-◌, ◌<◌, ◌≤◌, Bool, true, false, cond, Option, None, Some, inl, inr, refl, ap, sym, subst, ◌∙◌, arith}
use Rattle.std.proofs.lemmas.Bool.{cond-true, cond-false, cases_eq, false≢true}
use Rattle.std.proofs.lemmas.Option.{same_Some, cond_some}
use Rattle.std.specs.Option.{option_and_then}
use Rattle.m17_lookup.specs.Lookup.{last_below}

pub last_below_zero : (test : ℕ → Bool) → last_below test zero ≡ None
unfolding last_below
last_below_zero test = refl

pub last_below_suc : (test : ℕ → Bool) (n : ℕ) → last_below test (suc n) ≡ cond (test n) (Some n) (last_below test n)
unfolding last_below
last_below_suc test n = refl

-- tests that agree below n
pub last_below_same : (p q : ℕ → Bool) (n : ℕ) → ((m : ℕ) → m < n → p m ≡ q m) → last_below p n ≡ last_below q n
unfolding last_below
last_below_same p q zero h = refl
last_below_same p q (suc n) h =
    let e : p n ≡ q n = h n (omega arith) in
    let r : last_below p n ≡ last_below q n = last_below_same p q n (λ m l. h m (omega arith)) in
    rw (e, r) refl

-- a test that no position passes
pub last_below_none : (test : ℕ → Bool) (n : ℕ) → ((m : ℕ) → m < n → test m ≡ false) → last_below test n ≡ None
unfolding last_below
last_below_none test zero h = refl
last_below_none test (suc n) h =
    let e : test n ≡ false = h n (omega arith) in
    rw e (last_below_none test n (λ m l. h m (omega arith)))

lt_from_cond : (b : Bool) (n a : ℕ) (o : Option ℕ) → (o ≡ Some a → a < n) → cond b (Some n) o ≡ Some a → a < suc n
lt_from_cond true n a o h e = omega (arith, same_Some n a e)
lt_from_cond false n a o h e = omega (arith, h e)

pub last_below_lt : (test : ℕ → Bool) (n a : ℕ) → last_below test n ≡ Some a → a < n
unfolding last_below
last_below_lt test zero a e = cc
last_below_lt test (suc n) a e = lt_from_cond (test n) n a (last_below test n) (last_below_lt test n a) e

true_from_cond : (test : ℕ → Bool) (b : Bool) (n a : ℕ) (o : Option ℕ) → b ≡ test n → (o ≡ Some a → test a ≡ true) → cond b (Some n) o ≡ Some a → test a ≡ true
true_from_cond test true n a o h r e = rw (← same_Some n a e) cc
true_from_cond test false n a o h r e = r e

pub last_below_true : (test : ℕ → Bool) (n a : ℕ) → last_below test n ≡ Some a → test a ≡ true
unfolding last_below
last_below_true test zero a e = cc
last_below_true test (suc n) a e = true_from_cond test (test n) n a (last_below test n) refl (last_below_true test n a) e

-- what two continuations make of the same position
pub and_then_same : {A B : Type 0} (o : Option A) (f g : A → Option B) → ((a : A) → o ≡ Some a → f a ≡ g a) → option_and_then f o ≡ option_and_then g o
and_then_same None f g h = refl
and_then_same (Some a) f g h = h a refl

-- a position that is kept where it passes a further test
pub kept_is : (test : ℕ → Bool) (o : Option ℕ) (b : ℕ) → option_and_then (λ a. cond (test a) (Some a) None) o ≡ Some b → o ≡ Some b
kept_is test None b e = cc
kept_is test (Some a) b e = ap Some ((cond_some (test a) a b e).1)

pub some_from_cond : (b : Bool) (o : Option ℕ) (a : ℕ) → cond b o None ≡ Some a → o ≡ Some a
some_from_cond true o a e = e
some_from_cond false o a e = cc

-- the steps of a loop that looks back
pub found_back : (test : ℕ → Bool) (m : ℕ) → 0 < m → test (m - 1) ≡ true → last_below test m ≡ Some (m - 1)
found_back test zero h t = absurd (omega arith)
found_back test (suc k) h t =
    let e : suc k - 1 ≡ k = omega arith in
    let here : test k ≡ true = subst (λ (x : ℕ). test x ≡ true) e t in
    last_below_suc test k ∙ cond-true (test k) (Some k) (last_below test k) here ∙ ap Some (sym e)

pub passed_back : (test : ℕ → Bool) (m : ℕ) → 0 < m → test (m - 1) ≡ false → last_below test (m - 1) ≡ last_below test m
passed_back test zero h t = absurd (omega arith)
passed_back test (suc k) h t =
    let e : suc k - 1 ≡ k = omega arith in
    let here : test k ≡ false = subst (λ (x : ℕ). test x ≡ false) e t in
    ap (last_below test) e ∙ sym (last_below_suc test k ∙ cond-false (test k) (Some k) (last_below test k) here)

pub none_back : (test : ℕ → Bool) (m : ℕ) → m ≤ 0 → None ≡ last_below test m
none_back test zero h = sym (last_below_zero test)
none_back test (suc k) h = absurd (omega arith)

ge_from_cond : (test : ℕ → Bool) (b : Bool) (n a k : ℕ) (o : Option ℕ) → b ≡ test n → (o ≡ Some a → k < n → k ≤ a) → cond b (Some n) o ≡ Some a → test k ≡ true → k < suc n → k ≤ a
ge_from_cond test true n a k o h r e t l = omega (arith, same_Some n a e)
ge_from_cond test false n a k o h r e t l =
    elim (cases_eq k n) [
      | inl here ↦ absurd (false≢true (h ∙ ap test (sym here) ∙ t))
      | inr other ↦ r e (omega arith)
    ]

-- no position above the one that is found passes
pub last_below_ge : (test : ℕ → Bool) (n a k : ℕ) → last_below test n ≡ Some a → test k ≡ true → k < n → k ≤ a
unfolding last_below
last_below_ge test zero a k e t l = absurd (omega arith)
last_below_ge test (suc n) a k e t l = ge_from_cond test (test n) n a k (last_below test n) refl (λ f m. last_below_ge test n a k f t m) e t l

-- the position that passes, where none between it and n does
pub last_below_is : (test : ℕ → Bool) (n a : ℕ) → a < n → test a ≡ true → ((m : ℕ) → a < m → m < n → test m ≡ false) → last_below test n ≡ Some a
unfolding last_below
last_below_is test zero a l t h = absurd (omega arith)
last_below_is test (suc n) a l t h =
    elim (cases_eq a n) [
      | inl here ↦ let e : test n ≡ true = ap test (sym here) ∙ t in cond-true (test n) (Some n) (last_below test n) e ∙ ap Some (sym here)
      | inr other ↦
          let below : a < n = omega arith in
          let e : test n ≡ false = h n below (omega arith) in
          cond-false (test n) (Some n) (last_below test n) e ∙ last_below_is test n a below t (λ m p q. h m p (omega arith))
    ]
