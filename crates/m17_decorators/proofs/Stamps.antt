-- The stamps of one peer.
use Rattle.std.proofs.Common.{◌≡◌, ◌⊎◌, ◌<◌, ◌≤◌, ◌+◌, ◌-◌, ℕ, zero, suc, Bool, true, false, List, [], ◌∷◌, ◌++◌, length, take, drop, append_assoc, refl, sym, ap, subst, ◌∙◌, inl, inr, arith}
use Rattle.std.specs.Prelude.{nat_lt, Some, None, slice_get, ◌==◌, ◌&&◌, not}
use Rattle.std.proofs.lemmas.Bool.{eqb-true, eqb-false, eq-eqb}
use Rattle.std.proofs.lemmas.List.{take-append-drop, length-take}
use Rattle.circular_buffer.specs.Buffer.{last_item}
use Rattle.m17_decorators.specs.PaceMemory.{Falls, HasStamps, is_late, newer}
use Rattle.m17_decorators.proofs.Times.{bool-or, lt-or, if-lt, if-ge}

pub and-left : (a b : Bool) → (a && b) ≡ true → a ≡ true
and-left true b h = refl
and-left false b h = h

pub and-right : (a b : Bool) → (a && b) ≡ true → b ≡ true
and-right true b h = h
and-right false b h = cc

some-is : {A : Type 0} (x y : A) → Some x ≡ Some y → x ≡ y
some-is x y e = cc

none-some : {A : Type 0} (x : A) → None ≡ Some x → ⊥
none-some x e = cc

pub newer-lt : (cut s : ℕ) (older : List ℕ) → s < cut → newer cut (s ∷ older) ≡ 0
newer-lt cut s older h = if-lt s cut 0 (newer cut older + 1) h

pub newer-ge : (cut s : ℕ) (older : List ℕ) → cut ≤ s
    → newer cut (s ∷ older) ≡ newer cut older + 1
newer-ge cut s older h = if-ge s cut 0 (newer cut older + 1) h

above-zero : (n : ℕ) → 0 < n → (n == 0) ≡ false
above-zero n some = elim (bool-or (n == 0)) [
  | inl y ↦ absurd (let is = eqb-true n 0 y in omega arith)
  | inr f ↦ f
]

pub quiet-some : (cut : ℕ) (items : List ℕ) (s : ℕ) → slice_get items 0 ≡ Some s
    → (newer cut items == 0) ≡ nat_lt s cut
quiet-some cut [] s is = absurd (none-some s is)
quiet-some cut (x ∷ xs) s is = let e = some-is x s is in elim (lt-or x cut) [
  | inl w ↦ eq-eqb (newer cut (x ∷ xs)) 0 (newer-lt cut x xs w.1) ∙ sym w.0
      ∙ ap (λ (n : ℕ). nat_lt n cut) e
  | inr w ↦ above-zero (newer cut (x ∷ xs)) (omega (arith, newer-ge cut x xs w.1)) ∙ sym w.0
      ∙ ap (λ (n : ℕ). nat_lt n cut) e
]

pub quiet-none : (cut : ℕ) (items : List ℕ) → slice_get items 0 ≡ None
    → (newer cut items == 0) ≡ true
quiet-none cut [] is = refl
quiet-none cut (x ∷ xs) is = absurd (none-some x (sym is))

-- of those that are too old none counts, and of all no more than there are before them
pub newer-out : (cut : ℕ) (xs rest : List ℕ) → newer cut rest ≡ 0
    → newer cut (xs ++ rest) ≤ length xs
newer-out cut [] rest out = omega (arith, out)
newer-out cut (x ∷ xs) rest out = elim (lt-or x cut) [
  | inl w ↦ omega (arith, newer-lt cut x (xs ++ rest) w.1)
  | inr w ↦ omega (arith, newer-ge cut x (xs ++ rest) w.1, newer-out cut xs rest out)
]

last-more : (x y : ℕ) (ys : List ℕ) → last_item (x ∷ y ∷ ys) ≡ last_item (y ∷ ys)
last-more x y ys =
    let long : length (x ∷ y ∷ ys) - 1 ≡ suc (length ys) = omega arith in
    let short : length (y ∷ ys) - 1 ≡ length ys = omega arith in
    ap (λ (n : ℕ). slice_get (x ∷ y ∷ ys) n) long
    ∙ sym (ap (λ (n : ℕ). slice_get (y ∷ ys) n) short)

pub newer-old : (cut : ℕ) (xs rest : List ℕ) (s : ℕ) → newer cut rest ≡ 0
    → last_item xs ≡ Some s → s < cut → newer cut (xs ++ rest) < length xs
newer-old cut [] rest s out is lt = absurd (none-some s is)
newer-old cut (x ∷ []) rest s out is lt =
    let e = some-is x s is in omega (arith, newer-lt cut x rest (omega arith))
newer-old cut (x ∷ y ∷ ys) rest s out is lt =
    let less = newer-old cut (y ∷ ys) rest s out (sym (last-more x y ys) ∙ is) lt in
    elim (lt-or x cut) [
      | inl w ↦ omega (arith, newer-lt cut x ((y ∷ ys) ++ rest) w.1)
      | inr w ↦ omega (arith, newer-ge cut x ((y ∷ ys) ++ rest) w.1, less)
    ]

falls-last : (top : ℕ) (xs rest : List ℕ) (s : ℕ) → Falls top (xs ++ rest)
    → last_item xs ≡ Some s → s ≤ top
falls-last top [] rest s falls is = absurd (none-some s is)
falls-last top (x ∷ []) rest s falls is = let e = some-is x s is in omega (arith, falls.0)
falls-last top (x ∷ y ∷ ys) rest s falls is =
    let less = falls-last x (y ∷ ys) rest s falls.1 (sym (last-more x y ys) ∙ is) in
    omega (arith, less, falls.0)

pub newer-full : (cut top : ℕ) (xs rest : List ℕ) (s : ℕ) → Falls top (xs ++ rest)
    → last_item xs ≡ Some s → cut ≤ s → length xs ≤ newer cut (xs ++ rest)
newer-full cut top [] rest s falls is le = absurd (none-some s is)
newer-full cut top (x ∷ []) rest s falls is le =
    let e = some-is x s is in omega (arith, newer-ge cut x rest (omega arith))
newer-full cut top (x ∷ y ∷ ys) rest s falls is le =
    let is' = sym (last-more x y ys) ∙ is in
    let above = falls-last x (y ∷ ys) rest s falls.1 is' in
    omega (
      arith,
      newer-ge cut x ((y ∷ ys) ++ rest) (omega arith),
      newer-full cut x (y ∷ ys) rest s falls.1 is' le,
    )

pub newer-none : (cut : ℕ) (xs rest : List ℕ) → newer cut xs ≡ 0 → newer cut rest ≡ 0
    → newer cut (xs ++ rest) ≡ 0
newer-none cut [] rest none out = out
newer-none cut (x ∷ xs) rest none out = elim (lt-or x cut) [
  | inl w ↦ newer-lt cut x (xs ++ rest) w.1
  | inr w ↦ absurd (omega (arith, none, newer-ge cut x xs w.1))
]

pub newer-some : (cut : ℕ) (xs rest : List ℕ) → 0 < newer cut xs → 0 < newer cut (xs ++ rest)
newer-some cut [] rest some = absurd (omega (arith, some))
newer-some cut (x ∷ xs) rest some = elim (lt-or x cut) [
  | inl w ↦ absurd (omega (arith, some, newer-lt cut x xs w.1))
  | inr w ↦ omega (arith, newer-ge cut x (xs ++ rest) w.1)
]

-- what was too old stays so
pub newer-later : (cut cut' : ℕ) (xs : List ℕ) → cut ≤ cut' → newer cut xs ≡ 0
    → newer cut' xs ≡ 0
newer-later cut cut' [] le none = refl
newer-later cut cut' (x ∷ xs) le none = elim (lt-or x cut) [
  | inl w ↦ newer-lt cut' x xs (let lt = w.1 in omega arith)
  | inr w ↦ absurd (omega (arith, none, newer-ge cut x xs w.1))
]

pub falls-later : (top top' : ℕ) (xs : List ℕ) → top ≤ top' → Falls top xs → Falls top' xs
falls-later top top' [] le falls = tt
falls-later top top' (x ∷ xs) le falls = (omega (arith, le, falls.0), falls.1)

drop-last : (n : ℕ) (xs : List ℕ) (s : ℕ) → last_item xs ≡ Some s
    → drop (length xs) (n ∷ xs) ≡ s ∷ []
drop-last n [] s is = absurd (none-some s is)
drop-last n (x ∷ []) s is = ap (λ (m : ℕ). m ∷ []) (some-is x s is)
drop-last n (x ∷ y ∷ ys) s is = drop-last x (y ∷ ys) s (sym (last-more x y ys) ∙ is)

drop-none : (m : ℕ) (xs : List ℕ) → length xs ≤ m → drop m xs ≡ []
drop-none zero [] le = refl
drop-none zero (x ∷ xs) le = absurd (omega (arith, le))
drop-none (suc m) [] le = refl
drop-none (suc m) (x ∷ xs) le = drop-none m xs (omega (arith, le))

-- one more stamp, where there is room, or where the last one is too old
more : (most cut now : ℕ) (all items : List ℕ) → (h : HasStamps cut all items)
    → newer cut (drop most (now ∷ items) ++ h.rest) ≡ 0
    → HasStamps cut (now ∷ all) (take most (now ∷ items))
more most cut now all items h out = record {
  rest = drop most (now ∷ items) ++ h.rest;
  whole = ap (λ (l : List ℕ). now ∷ l) h.whole
      ∙ ap (λ (l : List ℕ). l ++ h.rest) (sym (take-append-drop most (now ∷ items)))
      ∙ append_assoc (take most (now ∷ items)) (drop most (now ∷ items)) h.rest;
  out = out;
}

-- whether as many frames as there is room for are of the last second
abbrev pub is_spent_by : ℕ → ℕ → List ℕ → Bool
is_spent_by cut most items = length items == most && is_late cut (last_item items)

last-some : (items : List ℕ) → 0 < length items → (s : ℕ) × (last_item items ≡ Some s)
last-some [] some = absurd (omega (arith, some))
last-some (x ∷ []) some = (x, refl)
last-some (x ∷ y ∷ ys) some = let rest = last-some (y ∷ ys) (omega arith) in
    (rest.0, last-more x y ys ∙ rest.1)

old-last : (cut : ℕ) (items : List ℕ) (s : ℕ) → last_item items ≡ Some s
    → is_late cut (last_item items) ≡ false → s < cut
old-last cut items s is late = elim (lt-or s cut) [
  | inl w ↦ w.1
  | inr w ↦ absurd (let a : not (nat_lt s cut) ≡ false = ap (is_late cut) (sym is) ∙ late in
      let b : not (nat_lt s cut) ≡ true = ap not w.0 in let e : true ≡ false = sym b ∙ a in cc)
]

-- either it is not full, or its last stamp is too old
pub has-room : (cut most : ℕ) (items : List ℕ) → 0 < most → length items ≤ most
    → is_spent_by cut most items ≡ false
    → (length items < most) ⊎ ((s : ℕ) × ((length items ≡ most) × (last_item items ≡ Some s)
    × (s < cut)))
has-room cut most items some fits spent = elim (bool-or (length items == most)) [
  | inl y ↦ let full = eqb-true (length items) most y in
      let last = last-some items (omega (arith, full, some)) in
      let late : is_late cut (last_item items) ≡ false =
      ap (λ (b : Bool). b && is_late cut (last_item items)) (sym y) ∙ spent in
      inr (last.0, (full, last.1, old-last cut items last.0 last.1 late))
  | inr n ↦ inl (let other = eqb-false (length items) most n in omega (arith, fits, other))
]

pub few : (cut most : ℕ) (all items : List ℕ) → 0 < most → length items ≤ most
    → HasStamps cut all items → is_spent_by cut most items ≡ false → newer cut all < most
few cut most all items some fits h spent =
    subst (λ (l : List ℕ). newer cut l < most) (sym h.whole)
    (elim (has-room cut most items some fits spent) [
      | inl lt ↦ omega (arith, lt, newer-out cut items h.rest h.out)
      | inr w ↦ omega (arith, w.1.0, newer-old cut items h.rest w.0 h.out w.1.1 w.1.2)
    ])

pub many : (cut most now : ℕ) (all items : List ℕ) → 0 < most → Falls now all
    → HasStamps cut all items → is_spent_by cut most items ≡ true → most ≤ newer cut all
many cut most now all items some falls h spent =
    let full = eqb-true (length items) most (and-left (length items == most) _ spent) in
    let last = last-some items (omega (arith, full, some)) in
    let late : not (nat_lt last.0 cut) ≡ true = ap (is_late cut) (sym last.1)
    ∙ and-right (length items == most) _ spent in
    let ge : cut ≤ last.0 = elim (lt-or last.0 cut) [
      | inl w ↦ absurd (let b : not (nat_lt last.0 cut) ≡ false = ap not w.0 in
          let e : true ≡ false = sym late ∙ b in cc)
      | inr w ↦ w.1
    ] in
    subst (λ (l : List ℕ). most ≤ newer cut l) (sym h.whole)
    (omega (
      arith,
      full,
      newer-full cut now items h.rest last.0
          (subst (λ (l : List ℕ). Falls now l) h.whole falls) last.1 ge,
    ))

pub once-more : (cut most now : ℕ) (all items : List ℕ) → 0 < most → length items ≤ most
    → HasStamps cut all items → is_spent_by cut most items ≡ false
    → HasStamps cut (now ∷ all) (take most (now ∷ items))
once-more cut most now all items some fits h spent =
    more most cut now all items h (elim (has-room cut most items some fits spent) [
      | inl lt ↦ ap (λ (l : List ℕ). newer cut (l ++ h.rest))
          (drop-none most (now ∷ items) (omega (arith, lt))) ∙ h.out
      | inr w ↦ ap (λ (n : ℕ). newer cut (drop n (now ∷ items) ++ h.rest)) (sym w.1.0)
          ∙ ap (λ (l : List ℕ). newer cut (l ++ h.rest)) (drop-last now items w.0 w.1.1)
          ∙ newer-lt cut w.0 h.rest w.1.2
    ])

-- the first stamp, where none of the others counts
pub first-one : (cut most now : ℕ) (all : List ℕ) → 0 < most → newer cut all ≡ 0
    → HasStamps cut (now ∷ all) (take most (now ∷ []))
first-one cut (suc zero) now all some none = record { rest = all; whole = refl; out = none }
first-one cut (suc (suc n)) now all some none =
    record { rest = all; whole = refl; out = none }
first-one cut zero now all some none = absurd (omega (arith, some))

pub fits-taken : (most : ℕ) (xs : List ℕ) → length (take most xs) ≤ most
fits-taken most xs = omega (arith, length-take most xs)
