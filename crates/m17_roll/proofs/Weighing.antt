-- Sums over the seats, and over the generations that the words stand for, when one seat or one word changes.
use Rattle.std.proofs.Common.{◌≡◌, ◌≢◌, ℕ, zero, suc, ◌+◌, ◌<◌, ◌≤◌, List, [], ◌∷◌, ◌++◌, length, get_or, set, sym, refl, ap, ◌∙◌, arith}
use mathlib.Core.Option.{some, some-injective, some-ne-none}
use lib.ListN.{get_elem?}
use Rattle.m17_roll.specs.declared.rule.Notes.{Notes}
use Rattle.m17_roll.specs.Rule.{total, upto, sums}

-- one element changes
pub total_set : (f : Notes → ℕ) (l : List Notes) (i : ℕ) (v w : Notes) → get_elem? l i ≡ some v
    → total f (set l i w) + f v ≡ total f l + f w
total_set f [] i v w e = absurd (some-ne-none v (sym e))
total_set f (x ∷ xs) zero v w e = let is : f x ≡ f v = ap f (some-injective x v e) in omega arith
total_set f (x ∷ xs) (suc i) v w e = let r = total_set f xs i v w e in omega arith

pub total_snoc : (f : Notes → ℕ) (l : List Notes) (v : Notes) → total f (l ++ v ∷ []) ≡ total f l + f v
total_snoc f [] v = omega arith
total_snoc f (x ∷ xs) v = let r = total_snoc f xs v in omega arith

pub total_has : (f : Notes → ℕ) (l : List Notes) (i : ℕ) (v : Notes) → get_elem? l i ≡ some v → f v ≤ total f l
total_has f [] i v e = absurd (some-ne-none v (sym e))
total_has f (x ∷ xs) zero v e = let is : f x ≡ f v = ap f (some-injective x v e) in omega arith
total_has f (x ∷ xs) (suc i) v e = let r = total_has f xs i v e in omega arith

pub total_none : (f : Notes → ℕ) (l : List Notes) → ((j : ℕ) (w : Notes) → get_elem? l j ≡ some w → f w ≡ 0) → total f l ≡ 0
total_none f [] h = refl
total_none f (x ∷ xs) h = let a = h zero x refl in let r = total_none f xs (λ j w e. h (suc j) w e) in omega arith

-- one element has all of p, and f is 0 where p is
pub total_alone : (p f : Notes → ℕ) (l : List Notes) (i : ℕ) (v : Notes) → get_elem? l i ≡ some v
    → ((j : ℕ) (w : Notes) → get_elem? l j ≡ some w → p w ≡ 0 → f w ≡ 0) → total p l ≡ p v → total f l ≡ f v
total_alone p f [] i v e h all = absurd (some-ne-none v (sym e))
total_alone p f (x ∷ xs) zero v e h all =
    let is : p x ≡ p v = ap p (some-injective x v e) in
    let same : f x ≡ f v = ap f (some-injective x v e) in
    let none_left : total p xs ≡ 0 = omega arith in
    let r = total_none f xs (λ j w at. h (suc j) w at (let b = total_has p xs j w at in omega arith)) in
    omega arith
total_alone p f (x ∷ xs) (suc i) v e h all =
    let b = total_has p xs i v e in
    let out : f x ≡ 0 = h zero x refl (omega arith) in
    let r = total_alone p f xs i v e (λ j w at. h (suc j) w at) (omega arith) in
    omega arith

pub upto_at : (h : ℕ → ℕ) (a b : ℕ) → a ≡ b → upto h a ≡ upto h b
upto_at h a b e = ap (λ n. upto h n) e

-- one word changes
pub sums_set : (h : ℕ → ℕ → ℕ) (f : ℕ → ℕ) (ws : List ℕ) (i n : ℕ) → i < length ws
    → sums h f (set ws i n) + upto (h i) (f (get_or ws i 0)) ≡ sums h f ws + upto (h i) (f n)
sums_set h f [] i n lt = absurd (omega arith)
sums_set h f (w ∷ ws) zero n lt = omega arith
sums_set h f (w ∷ ws) (suc i) n lt = let r = sums_set (λ q. h (suc q)) f ws i n (omega arith) in omega arith

pub upto_zero : (h : ℕ → ℕ) (n : ℕ) → n ≡ 0 → upto h n ≡ 0
upto_zero h n e = upto_at h n 0 e

-- all words are 0
pub sums_zero : (h : ℕ → ℕ → ℕ) (f : ℕ → ℕ) (ws : List ℕ) → f 0 ≡ 0 → ((q : ℕ) → ◌≡◌ {A = ℕ} (get_or ws q 0) 0)
    → sums h f ws ≡ 0
sums_zero h f [] z e = refl
sums_zero h f (w ∷ ws) z e =
    let here : f w ≡ 0 = ap f (e zero) ∙ z in
    let a = upto_zero (h zero) (f w) here in
    let r = sums_zero (λ q. h (suc q)) f ws z (λ q. e (suc q)) in
    omega arith

-- no weight at all
pub upto_none : (h : ℕ → ℕ) (n : ℕ) → ((b : ℕ) → h b ≡ 0) → upto h n ≡ 0
upto_none h zero z = refl
upto_none h (suc n) z = let r = upto_none h n z in let a = z n in omega arith

pub sums_none : (h : ℕ → ℕ → ℕ) (f : ℕ → ℕ) (ws : List ℕ) → ((a b : ℕ) → a < length ws → h a b ≡ 0) → sums h f ws ≡ 0
sums_none h f [] z = refl
sums_none h f (w ∷ ws) z =
    let a = upto_none (h zero) (f w) (λ b. z zero b (omega arith)) in
    let r = sums_none (λ q. h (suc q)) f ws (λ p b lt. z (suc p) b (omega arith)) in
    omega arith

-- weight at one place alone
pub sums_only : (h : ℕ → ℕ → ℕ) (f : ℕ → ℕ) (ws : List ℕ) (q : ℕ) → q < length ws → ((a b : ℕ) → a ≢ q → h a b ≡ 0)
    → sums h f ws ≡ upto (h q) (f (get_or ws q 0))
sums_only h f [] q lt z = absurd (omega arith)
sums_only h f (w ∷ ws) zero lt z =
    let r = sums_none (λ q. h (suc q)) f ws (λ p b _. z (suc p) b (λ e. omega arith)) in omega arith
sums_only h f (w ∷ ws) (suc q) lt z =
    let a = upto_none (h zero) (f w) (λ b. z zero b (λ e. omega arith)) in
    let r = sums_only (λ p. h (suc p)) f ws q (omega arith) (λ p b n. z (suc p) b (λ e. n (omega arith))) in
    omega arith

-- weight 1 at each generation
pub upto_ones : (h : ℕ → ℕ) (n : ℕ) → ((b : ℕ) → h b ≡ 1) → upto h n ≡ n
upto_ones h zero one = refl
upto_ones h (suc n) one = let r = upto_ones h n one in let a = one n in omega arith

-- weight 1 at one generation alone
pub upto_short : (h : ℕ → ℕ) (g n : ℕ) → ((b : ℕ) → b ≢ g → h b ≡ 0) → n ≤ g → upto h n ≡ 0
upto_short h g zero z le = refl
upto_short h g (suc n) z le =
    let r = upto_short h g n z (omega arith) in let a = z n (λ e. omega arith) in omega arith

pub upto_past : (h : ℕ → ℕ) (g d : ℕ) → ((b : ℕ) → b ≢ g → h b ≡ 0) → h g ≡ 1 → upto h (d + suc g) ≡ 1
upto_past h g zero z one = let r = upto_short h g g z (omega arith) in let e = upto_at h (0 + suc g) (suc g) (omega arith) in omega arith
upto_past h g (suc d) z one =
    let r = upto_past h g d z one in
    let e = upto_at h (suc d + suc g) (suc (d + suc g)) (omega arith) in
    let a = z (d + suc g) (λ e. omega arith) in
    omega arith
