-- Weights that count one member, or the members of one place.
use Rattle.std.proofs.Common.{◌≡◌, ◌≢◌, ℕ, zero, suc, ◌+◌, ◌-◌, ◌<◌, ◌≤◌, Bool, true, false, cond, ◌&&◌, eqb, eq-eqb, ne_eqb, List, [], ◌∷◌, ◌++◌, length, get_or, refl, ap, ◌∙◌, arith}
use Rattle.m17_values.specs.declared.member.Member.{Member}
use Rattle.m17_roll.specs.Rule.{weigh, sums}
use Rattle.m17_roll.proofs.Weighing.{sums_only, sums_none, upto_ones, upto_short, upto_past, upto_at}

-- 1 for the member of place q and generation g, and else 0
abbrev pub mark : ℕ → ℕ → ℕ → ℕ → ℕ
mark q g a b = cond (eqb a q && eqb b g) 1 0

-- 1 for the members of place q, and else 0
abbrev pub mark_at : ℕ → ℕ → ℕ → ℕ
mark_at q a b = cond (eqb a q) 1 0

both_true : (x y : Bool) → x ≡ true → y ≡ true → ◌≡◌ {A = ℕ} (cond (x && y) 1 0) 1
both_true x y p q = ap (λ (u : Bool × Bool). let r : ℕ = cond (u.0 && u.1) 1 0 in r) (λ i. (p i, q i))

first_false : (x y : Bool) → x ≡ false → ◌≡◌ {A = ℕ} (cond (x && y) 1 0) 0
first_false x y p = ap (λ (u : Bool). let r : ℕ = cond (u && y) 1 0 in r) p

last_false : (x y : Bool) → y ≡ false → ◌≡◌ {A = ℕ} (cond (x && y) 1 0) 0
last_false true y q = ap (λ (u : Bool). let r : ℕ = cond (true && u) 1 0 in r) q
last_false false y q = refl

pub mark_here : (q g a b : ℕ) → a ≡ q → b ≡ g → mark q g a b ≡ 1
mark_here q g a b p e = both_true (eqb a q) (eqb b g) (eq-eqb a q p) (eq-eqb b g e)

pub mark_place : (q g a b : ℕ) → a ≢ q → mark q g a b ≡ 0
mark_place q g a b n = first_false (eqb a q) (eqb b g) (ne_eqb a q n)

pub mark_generation : (q g a b : ℕ) → b ≢ g → mark q g a b ≡ 0
mark_generation q g a b n = last_false (eqb a q) (eqb b g) (ne_eqb b g n)

pub mark_at_here : (q a b : ℕ) → a ≡ q → mark_at q a b ≡ 1
mark_at_here q a b e = ap (λ (u : Bool). let r : ℕ = cond u 1 0 in r) (eq-eqb a q e)

pub mark_at_else : (q a b : ℕ) → a ≢ q → mark_at q a b ≡ 0
mark_at_else q a b n = ap (λ (u : Bool). let r : ℕ = cond u 1 0 in r) (ne_eqb a q n)

pub weigh_append : (h : ℕ → ℕ → ℕ) (xs ys : List Member) → weigh h (xs ++ ys) ≡ weigh h xs + weigh h ys
weigh_append h [] ys = omega arith
weigh_append h (x ∷ xs) ys = let r = weigh_append h xs ys in omega arith

pub weigh_has : (h : ℕ → ℕ → ℕ) (ms : List Member) (k : ℕ) (d : Member) → k < length ms
    → h (get_or ms k d).place (get_or ms k d).generation ≤ weigh h ms
weigh_has h [] k d lt = absurd (omega arith)
weigh_has h (m ∷ ms) zero d lt = omega arith
weigh_has h (m ∷ ms) (suc k) d lt = let r = weigh_has h ms k d (omega arith) in omega arith

-- what the words say of one place, and of one member
pub place_sum : (f : ℕ → ℕ) (ws : List ℕ) (q : ℕ) → q < length ws → sums (mark_at q) f ws ≡ f (get_or ws q 0)
place_sum f ws q lt =
    sums_only (mark_at q) f ws q lt (λ a b n. mark_at_else q a b n)
    ∙ upto_ones (mark_at q q) (f (get_or ws q 0)) (λ b. mark_at_here q q b refl)

pub one_sum : (f : ℕ → ℕ) (ws : List ℕ) (q g : ℕ) → q < length ws → g < f (get_or ws q 0) → sums (mark q g) f ws ≡ 1
one_sum f ws q g lt more =
    let n : ℕ = f (get_or ws q 0) in
    let e = upto_at (mark q g q) n (n - suc g + suc g) (omega arith) in
    let a = sums_only (mark q g) f ws q lt (λ a b n. mark_place q g a b n) in
    let b = upto_past (mark q g q) g (n - suc g) (λ b n. mark_generation q g q b n) (mark_here q g q g refl refl) in
    a ∙ e ∙ b

pub none_sum : (f : ℕ → ℕ) (ws : List ℕ) (q g : ℕ) → q < length ws → f (get_or ws q 0) ≤ g → sums (mark q g) f ws ≡ 0
none_sum f ws q g lt le =
    sums_only (mark q g) f ws q lt (λ a b n. mark_place q g a b n)
    ∙ upto_short (mark q g q) g (f (get_or ws q 0)) (λ b n. mark_generation q g q b n) le

pub past_sum : (f : ℕ → ℕ) (ws : List ℕ) (q g : ℕ) → length ws ≤ q → sums (mark q g) f ws ≡ 0
past_sum f ws q g le = sums_none (mark q g) f ws (λ a b lt. mark_place q g a b (λ e. omega arith))
