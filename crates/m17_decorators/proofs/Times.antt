-- The moments that a pace remembers.
use Rattle.std.proofs.Common.{◌≡◌, ◌⊎◌, ◌<◌, ◌≤◌, ◌+◌, ◌-◌, ℕ, Bool, true, false, List, [], ◌∷◌, ◌++◌, length, drop, length-append, refl, sym, ap, subst, ◌∙◌, inl, inr, arith}
use Rattle.std.specs.Prelude.{nat_lt, if◌then◌else◌, Some}
use Rattle.std.proofs.lemmas.Bool.{cond-true, cond-false, lt-ltb, le-ltb, ltb-true, ltb-false}
use Rattle.circular_buffer.specs.Buffer.{Buffer, buffer, keep_last}
use Rattle.m17_decorators.specs.declared.moments.Moments.{Moments}
use Rattle.m17_decorators.specs.Pace.{Event, told, last_moment, once_read}
use Rattle.m17_decorators.specs.PaceMemory.{AreOf, AreWhole, RunsUp, last_below, starts_before}

pub bool-or : (b : Bool) → (b ≡ true) ⊎ (b ≡ false)
bool-or true = inl refl
bool-or false = inr refl

pub lt-or : (a b : ℕ) → ((nat_lt a b ≡ true) × (a < b)) ⊎ ((nat_lt a b ≡ false) × (b ≤ a))
lt-or a b = elim (bool-or (nat_lt a b)) [
  | inl y ↦ inl (y, ltb-true a b y)
  | inr n ↦ inr (n, ltb-false a b n)
]

pub if-lt : {A : Type 0} (a b : ℕ) (x y : A) → a < b → (if nat_lt a b then x else y) ≡ x
if-lt a b x y h = cond-true (nat_lt a b) x y (lt-ltb a b h)

pub if-ge : {A : Type 0} (a b : ℕ) (x y : A) → b ≤ a → (if nat_lt a b then x else y) ≡ y
if-ge a b x y h = cond-false (nat_lt a b) x y (le-ltb a b h)

pub keep-all : {A : Type 0} (n : ℕ) (xs : List A) → length xs ≤ n → keep_last n xs ≡ xs
keep-all n xs h = let none : length xs - n ≡ 0 = omega arith in
    ap (λ (k : ℕ). drop k xs) none

pub runs-length : (low : ℕ) (xs : List ℕ) (high : ℕ) → RunsUp low xs high
    → length xs + low ≤ high
runs-length low [] high up = omega (arith, up)
runs-length low (x ∷ xs) high up = omega (arith, up.0, runs-length x xs high up.1)

pub runs-push : (low : ℕ) (xs : List ℕ) (high at : ℕ) → RunsUp low xs high → high < at
    → RunsUp low (xs ++ at ∷ []) at
runs-push low [] high at up lt = (omega (arith, up), omega arith)
runs-push low (x ∷ xs) high at up lt = (up.0, runs-push x xs high at up.1 lt)

pub below-push : (from low : ℕ) (xs : List ℕ) (high at : ℕ) → RunsUp low xs high → high < at
    → last_below from low (xs ++ at ∷ []) ≡ (if nat_lt at from then at else last_below from low xs)
below-push from low [] high at up lt = refl
below-push from low (x ∷ xs) high at up lt = elim (lt-or x from) [
  | inl w ↦ if-lt x from (last_below from x (xs ++ at ∷ [])) low w.1
      ∙ below-push from x xs high at up.1 lt
      ∙ ap (λ (n : ℕ). if nat_lt at from then at else n)
      (sym (if-lt x from (last_below from x xs) low w.1))
  | inr w ↦ if-ge x from (last_below from x (xs ++ at ∷ [])) low w.1
      ∙ sym (if-ge x from (last_below from x xs) low w.1)
      ∙ sym (if-ge at from at (last_below from low (x ∷ xs))
      (let short = runs-length x xs high up.1 in let ge = w.1 in omega arith))
]

pub below-first : (from low x : ℕ) (xs : List ℕ) → x < from
    → last_below from low (x ∷ xs) ≡ last_below from x xs
below-first from low x xs lt = if-lt x from (last_below from x xs) low lt

pub below-none : (from low : ℕ) (xs : List ℕ) → starts_before from xs ≡ false
    → last_below from low xs ≡ low
below-none from low [] late = refl
below-none from low (x ∷ xs) late = cond-false (nat_lt x from) (last_below from x xs) low late

pub late-push : (from : ℕ) (xs : List ℕ) (at : ℕ) → starts_before from xs ≡ false → from ≤ at
    → starts_before from (xs ++ at ∷ []) ≡ false
late-push from [] at late le = le-ltb at from le
late-push from (x ∷ xs) at late le = late

pub late-short : (low from : ℕ) (xs : List ℕ) (high at : ℕ) → RunsUp low xs high
    → starts_before from xs ≡ false → high < at → from ≡ at - 1000 → length xs ≤ 1000
late-short low from [] high at up late lt is = omega arith
late-short low from (x ∷ xs) high at up late lt is =
    let short = runs-length x xs high up.1 in let ge = ltb-false x from late in omega arith

pub starts-some : (from : ℕ) (xs : List ℕ) → starts_before from xs ≡ true → 0 < length xs
starts-some from [] h = cc
starts-some from (x ∷ xs) h = omega arith

-- the first of them is forgotten, but as the latest of those that are old
pub record Forgets (from cut : ℕ) (items : List ℕ) (last cut' : ℕ) (items' : List ℕ)
    : Type 0 where
  pub up : RunsUp cut' items' last
  pub on : cut ≤ cut'
  pub below : (f : ℕ) → from ≤ f → last_below f cut' items' ≡ last_below f cut items

pub forgets-first : (from cut : ℕ) (items : List ℕ) (last low : ℕ) (now : List ℕ) (x : ℕ)
    (xs : List ℕ) → Forgets from cut items last low now → now ≡ x ∷ xs
    → starts_before from now ≡ true → Forgets from cut items last x xs
forgets-first from cut items last low now x xs so is early =
    let lt = ltb-true x from (ap (starts_before from) (sym is) ∙ early) in
    let up = subst (λ (l : List ℕ). RunsUp low l last) is so.up in
    record {
      up = up.1;
      on = let a = so.on in let b = up.0 in omega arith;
      below = λ f le. sym (below-first f low x xs (omega arith))
          ∙ ap (last_below f low) (sym is) ∙ so.below f le;
    }

-- the clock told a moment that is not later, or a later one
pub learns-none : (at : ℕ) (past : List Event) (m : Moments) → AreOf past m → at ≤ m.last
    → AreOf (once_read (Some (Some at)) past) m
learns-none at past m of le = subst (λ (p : List Event). AreOf p m)
    (sym (if-ge (last_moment past) at (told at ∷ past) past (let is = of.last in omega arith))) of

pub learns-whole : (at : ℕ) (old new : Moments) (cut : ℕ) (items : List ℕ) → old.last < at
    → RunsUp cut items old.last → starts_before (at - 1000) items ≡ false
    → new.last ≡ at → new.cut ≡ cut → new.later.items ≡ items ++ at ∷ []
    → new.later.capacity ≡ 1001 → AreWhole new
learns-whole at old new cut items lt up late last is all room = record {
  up = subst (λ (n : ℕ). RunsUp new.cut new.later.items n) (sym last)
      (subst (λ (l : List ℕ). RunsUp new.cut l at) (sym all)
      (subst (λ (n : ℕ). RunsUp n (items ++ at ∷ []) at) (sym is)
      (runs-push cut items old.last at up lt)));
  late = ap (λ (n : ℕ). starts_before (n - 1000) new.later.items) last
      ∙ ap (starts_before (at - 1000)) all ∙ late-push (at - 1000) items at late (omega arith);
  room = room;
}

pub learns : (at : ℕ) (past : List Event) (old new : Moments) (cut : ℕ) (items : List ℕ)
    → AreOf past old → old.last < at → RunsUp cut items old.last
    → ((f : ℕ) → at - 1000 ≤ f → last_below f cut items ≡ last_below f old.cut old.later.items)
    → new.last ≡ at → new.cut ≡ cut → new.later.items ≡ items ++ at ∷ []
    → AreOf (once_read (Some (Some at)) past) new
learns at past old new cut items of lt up below last is all =
    let before : last_moment past < at = let l = of.last in omega arith in
    subst (λ (p : List Event). AreOf p new)
    (sym (if-lt (last_moment past) at (told at ∷ past) past before))
    (record {
      rising = (before, of.rising);
      last = last;
      before = λ f le.
          let far : at - 1000 ≤ f = omega arith in
          ap (λ (n : ℕ). if nat_lt at f then at else n)
          (of.before f (omega arith) ∙ sym (below f far))
          ∙ sym (below-push f cut items old.last at up lt)
          ∙ ap (last_below f cut) (sym all)
          ∙ ap (λ (n : ℕ). last_below f n new.later.items) (sym is);
    })

pub pushed : (items : List ℕ) (at room : ℕ) (new : Buffer ℕ) → length items ≤ 1000 → room ≡ 1001
    → new ≡ buffer (keep_last room (items ++ at ∷ [])) room → new.items ≡ items ++ at ∷ []
pushed items at room new short is made = ap (λ (b : Buffer ℕ). b.items) made
    ∙ keep-all room (items ++ at ∷ []) (omega (arith, length-append items (at ∷ [])))
