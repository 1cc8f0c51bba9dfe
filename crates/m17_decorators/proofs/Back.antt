-- Looking back through what was heard: packets by their order, and what stands up to an entry.
use Rattle.std.proofs.Common.{◌≡◌, ◌≢◌, ◌==◌, ◌⊎◌, ℕ, ◌+◌, ◌<◌, ◌≤◌, Bool, true, false, cond, List, [], ◌∷◌, inl, inr, refl, sym, ap, subst, ◌∙◌, arith}
use Rattle.std.proofs.lemmas.Bool.{eq-eqb}
use Rattle.std.proofs.lemmas.Bool.Decides.{eqb_tells, leb_tells}
use Rattle.m17_values.specs.declared.heard.Heard.{Heard}
use Rattle.m17_decorators.specs.Echo.{is_packet, up_to, older_than, packets}
use Rattle.m17_decorators.specs.GuardMemory.{at_order}

pub either : (b : Bool) → (b ≡ true) ⊎ (b ≡ false)
either true = inl refl
either false = inr refl

abbrev pub IsSub : (Heard → Bool) → (Heard → Bool) → Type 0
IsSub narrow wide = (entry : Heard) → narrow entry ≡ true → wide entry ≡ true

pub not-sub : (n w : Heard → Bool) (e : Heard) → IsSub n w → w e ≡ false → n e ≡ false
not-sub n w e sub h = elim (either (n e)) [
  | inl y ↦ let both : true ≡ false = sym (sub e y) ∙ h in cc
  | inr y ↦ y
]

-- one entry more
pub more-packet : (e : Heard) (t : List Heard) → is_packet e ≡ true
    → packets (e ∷ t) ≡ packets t + 1
more-packet e t h = ap (λ (b : Bool). cond b 1 0 + packets t) h ∙ omega arith

pub no-packet : (e : Heard) (t : List Heard) → is_packet e ≡ false → packets (e ∷ t) ≡ packets t
no-packet e t h = ap (λ (b : Bool). cond b 1 0 + packets t) h ∙ omega arith

pub some-packets : (e : Heard) (t : List Heard) → packets t ≤ packets (e ∷ t)
some-packets e t = omega arith

pub up-here : (T : Heard → Bool) (e : Heard) (t : List Heard) → T e ≡ true
    → up_to T (e ∷ t) ≡ e ∷ t
up-here T e t h = ap (λ (b : Bool). cond b (e ∷ t) (up_to T t)) h

pub up-past : (T : Heard → Bool) (e : Heard) (t : List Heard) → T e ≡ false
    → up_to T (e ∷ t) ≡ up_to T t
up-past T e t h = ap (λ (b : Bool). cond b (e ∷ t) (up_to T t)) h

pub old-here : (T : Heard → Bool) (e : Heard) (t : List Heard) → T e ≡ true
    → older_than T (e ∷ t) ≡ t
old-here T e t h = ap (λ (b : Bool). cond b t (older_than T t)) h

pub old-past : (T : Heard → Bool) (e : Heard) (t : List Heard) → T e ≡ false
    → older_than T (e ∷ t) ≡ older_than T t
old-past T e t h = ap (λ (b : Bool). cond b t (older_than T t)) h

at-cond : (o : ℕ) (e : Heard) (t : List Heard) (p n : Bool) → is_packet e ≡ p
    → (packets t + 1 == o) ≡ n
    → at_order o (e ∷ t) ≡ cond p (cond n (e ∷ t) (at_order o t)) (at_order o t)
at-cond o e t p n hp hn =
    ap (λ (b : Bool). cond b (cond (packets t + 1 == o) (e ∷ t) (at_order o t)) (at_order o t)) hp
    ∙ ap (λ (b : Bool). cond p (cond b (e ∷ t) (at_order o t)) (at_order o t)) hn

pub at-here : (o : ℕ) (e : Heard) (t : List Heard) → is_packet e ≡ true → packets t + 1 ≡ o
    → at_order o (e ∷ t) ≡ e ∷ t
at-here o e t p n = at-cond o e t true true p (eq-eqb (packets t + 1) o n)

pub at-out : (o : ℕ) (e : Heard) (t : List Heard) → is_packet e ≡ false
    → at_order o (e ∷ t) ≡ at_order o t
at-out o e t p = at-cond o e t false (packets t + 1 == o) p refl

pub at-past : (o : ℕ) (e : Heard) (t : List Heard) → packets t + 1 ≢ o
    → at_order o (e ∷ t) ≡ at_order o t
at-past o e t n = elim (eqb_tells (packets t + 1) o) [
  | inl w ↦ absurd (n w.1)
  | inr w ↦ elim (either (is_packet e)) [
    | inl p ↦ at-cond o e t true false p w.0
    | inr p ↦ at-out o e t p
  ]
]

-- a packet is the latest entry, or one of the older
pub at-split : (o : ℕ) (x : Heard) (t : List Heard) (e : Heard) (older : List Heard)
    → at_order o (x ∷ t) ≡ e ∷ older
    → (at_order o t ≡ e ∷ older) ⊎ ((x ≡ e) × (t ≡ older) × (is_packet x ≡ true)
    × (packets t + 1 ≡ o))
at-split o x t e older h = elim (either (is_packet x)) [
  | inl p ↦ elim (eqb_tells (packets t + 1) o) [
    | inl w ↦ let same : x ∷ t ≡ e ∷ older = sym (at-here o x t p w.1) ∙ h in
        let head : x ≡ e = cc in
        let tail : t ≡ older = cc in
        inr (head, tail, p, w.1)
    | inr w ↦ inl (sym (at-past o x t w.1) ∙ h)
  ]
  | inr p ↦ inl (sym (at-out o x t p) ∙ h)
]

pub at-low : (o : ℕ) (xs : List Heard) (e : Heard) (older : List Heard)
    → at_order o xs ≡ e ∷ older → o ≤ packets xs
at-low o [] e older h = cc
at-low o (x ∷ t) e older h = elim (at-split o x t e older h) [
  | inl r ↦ omega (arith, at-low o t e older r, some-packets x t)
  | inr r ↦ omega (arith, more-packet x t r.2)
]

pub at-number : (o : ℕ) (xs : List Heard) (e : Heard) (older : List Heard)
    → at_order o xs ≡ e ∷ older → packets older + 1 ≡ o
at-number o [] e older h = cc
at-number o (x ∷ t) e older h = elim (at-split o x t e older h) [
  | inl r ↦ at-number o t e older r
  | inr r ↦ subst (λ (l : List Heard). packets l + 1 ≡ o) r.1 r.3
]

pub packet-at : (o : ℕ) (xs : List Heard) (e : Heard) (older : List Heard)
    → at_order o xs ≡ e ∷ older → is_packet e ≡ true
packet-at o [] e older h = cc
packet-at o (x ∷ t) e older h = elim (at-split o x t e older h) [
  | inl r ↦ packet-at o t e older r
  | inr r ↦ ap is_packet (sym r.0) ∙ r.2
]

pub at-more : (o : ℕ) (x : Heard) (t : List Heard) (e : Heard) (older : List Heard)
    → at_order o t ≡ e ∷ older → at_order o (x ∷ t) ≡ e ∷ older
at-more o x t e older h =
    let low = at-low o t e older h in
    let ne : packets t + 1 ≢ o = λ same. absurd (omega arith) in
    at-past o x t ne ∙ h

-- what stands up to an entry
pub order-le : (T : Heard → Bool) (xs : List Heard) → packets (up_to T xs) ≤ packets xs
order-le T [] = omega arith
order-le T (x ∷ t) = elim (either (T x)) [
  | inl h ↦ omega (arith, ap packets (up-here T x t h))
  | inr h ↦ omega (arith, ap packets (up-past T x t h), order-le T t, some-packets x t)
]

pub order-more : (T : Heard → Bool) (x : Heard) (t : List Heard)
    → packets (up_to T t) ≤ packets (up_to T (x ∷ t))
order-more T x t = elim (either (T x)) [
  | inl h ↦ omega (arith, ap packets (up-here T x t h), order-le T t, some-packets x t)
  | inr h ↦ omega (arith, ap packets (up-past T x t h))
]

pub order-none : (T : Heard → Bool) (n : ℕ) (xs : List Heard) → IsSub T is_packet
    → ((o : ℕ) (e : Heard) (older : List Heard) → n < o → at_order o xs ≡ e ∷ older → T e ≡ false)
    → packets (up_to T xs) ≤ n
order-none T n [] sub none = omega arith
order-none T n (x ∷ t) sub none = elim (either (T x)) [
  | inl h ↦ let p = sub x h in elim (leb_tells (packets t + 1) n) [
    | inl w ↦ omega (arith, ap packets (up-here T x t h), more-packet x t p, w.1)
    | inr w ↦ let no : true ≡ false = sym h ∙ none (packets t + 1) x t w.1
        (at-here (packets t + 1) x t p refl) in cc
  ]
  | inr h ↦ omega (
    arith,
    ap packets (up-past T x t h),
    order-none T n t sub (λ o e older lt at. none o e older lt (at-more o x t e older at)),
  )
]

pub order-at : (T : Heard → Bool) (o : ℕ) (xs : List Heard) (e : Heard) (older : List Heard)
    → at_order o xs ≡ e ∷ older → T e ≡ true → o ≤ packets (up_to T xs)
order-at T o [] e older at is = cc
order-at T o (x ∷ t) e older at is = elim (either (T x)) [
  | inl h ↦ omega (arith, ap packets (up-here T x t h), at-low o (x ∷ t) e older at)
  | inr h ↦ elim (at-split o x t e older at) [
    | inl r ↦ omega (arith, ap packets (up-past T x t h), order-at T o t e older r is)
    | inr r ↦ let no : true ≡ false = sym is ∙ sym (ap T r.0) ∙ h in cc
  ]
]

pub up-is : (T : Heard → Bool) (o : ℕ) (xs : List Heard) → IsSub T is_packet
    → packets (up_to T xs) ≡ o → 0 < o → at_order o xs ≡ up_to T xs
up-is T o [] sub n pos = absurd (omega arith)
up-is T o (x ∷ t) sub n pos = elim (either (T x)) [
  | inl h ↦ let m : packets t + 1 ≡ o = omega (
    arith,
    ap packets (up-here T x t h),
    more-packet x t (sub x h),
  ) in
      at-here o x t (sub x h) m ∙ sym (up-here T x t h)
  | inr h ↦ let m : packets (up_to T t) ≡ o = ap packets (sym (up-past T x t h)) ∙ n in
      let low = order-le T t in
      let ne : packets t + 1 ≢ o = λ same. absurd (omega arith) in
      at-past o x t ne ∙ up-is T o t sub m pos ∙ sym (up-past T x t h)
]

pub up-head : (T : Heard → Bool) (xs : List Heard) (e : Heard) (older : List Heard)
    → up_to T xs ≡ e ∷ older → T e ≡ true
up-head T [] e older is = cc
up-head T (x ∷ t) e older is = elim (either (T x)) [
  | inl h ↦ let same : x ∷ t ≡ e ∷ older = sym (up-here T x t h) ∙ is in
      let head : x ≡ e = cc in ap T (sym head) ∙ h
  | inr h ↦ up-head T t e older (sym (up-past T x t h) ∙ is)
]

pub old-is : (T : Heard → Bool) (xs : List Heard) (e : Heard) (older : List Heard)
    → up_to T xs ≡ e ∷ older → older_than T xs ≡ older
old-is T [] e older is = cc
old-is T (x ∷ t) e older is = elim (either (T x)) [
  | inl h ↦ let same : x ∷ t ≡ e ∷ older = sym (up-here T x t h) ∙ is in
      let tail : t ≡ older = cc in old-here T x t h ∙ tail
  | inr h ↦ old-past T x t h ∙ old-is T t e older (sym (up-past T x t h) ∙ is)
]

pub at-older : (U : Heard → Bool) (o : ℕ) (xs : List Heard) (e : Heard) (older : List Heard)
    → at_order o (older_than U xs) ≡ e ∷ older → at_order o xs ≡ e ∷ older
at-older U o [] e older at = at
at-older U o (x ∷ t) e older at = elim (either (U x)) [
  | inl h ↦ at-more o x t e older (ap (at_order o) (sym (old-here U x t h)) ∙ at)
  | inr h ↦ at-more o x t e older
      (at-older U o t e older (ap (at_order o) (sym (old-past U x t h)) ∙ at))
]

-- a narrower test finds nothing before a wider one
pub up-skip : (N W : Heard → Bool) (xs : List Heard) → IsSub N W
    → up_to N xs ≡ up_to N (up_to W xs)
up-skip N W [] sub = refl
up-skip N W (x ∷ t) sub = elim (either (W x)) [
  | inl h ↦ ap (up_to N) (sym (up-here W x t h))
  | inr h ↦ up-past N x t (not-sub N W x sub h) ∙ up-skip N W t sub
      ∙ ap (up_to N) (sym (up-past W x t h))
]

pub old-skip : (N W : Heard → Bool) (xs : List Heard) → IsSub N W
    → older_than N xs ≡ older_than N (up_to W xs)
old-skip N W [] sub = refl
old-skip N W (x ∷ t) sub = elim (either (W x)) [
  | inl h ↦ ap (older_than N) (sym (up-here W x t h))
  | inr h ↦ old-past N x t (not-sub N W x sub h) ∙ old-skip N W t sub
      ∙ ap (older_than N) (sym (up-past W x t h))
]

pub order-sub : (N W : Heard → Bool) (xs : List Heard) → IsSub N W
    → packets (up_to N xs) ≤ packets (up_to W xs)
order-sub N W xs sub = omega (arith, ap packets (up-skip N W xs sub), order-le N (up_to W xs))

-- what passes the test stands before a packet, and so it does in what is older than that one
pub up-through : (T : Heard → Bool) (o : ℕ) (xs : List Heard) (e : Heard) (older : List Heard)
    → at_order o xs ≡ e ∷ older → packets (up_to T xs) < o → up_to T xs ≡ up_to T older
up-through T o [] e older at lt = cc
up-through T o (x ∷ t) e older at lt = elim (either (T x)) [
  | inl h ↦ absurd (omega (arith, ap packets (up-here T x t h), at-low o (x ∷ t) e older at))
  | inr h ↦ up-past T x t h ∙ elim (at-split o x t e older at) [
    | inl r ↦ up-through T o t e older r (omega (arith, ap packets (up-past T x t h)))
    | inr r ↦ ap (up_to T) r.1
  ]
]

pub old-through : (T : Heard → Bool) (o : ℕ) (xs : List Heard) (e : Heard) (older : List Heard)
    → at_order o xs ≡ e ∷ older → packets (up_to T xs) < o
    → older_than T xs ≡ older_than T older
old-through T o [] e older at lt = cc
old-through T o (x ∷ t) e older at lt = elim (either (T x)) [
  | inl h ↦ absurd (omega (arith, ap packets (up-here T x t h), at-low o (x ∷ t) e older at))
  | inr h ↦ old-past T x t h ∙ elim (at-split o x t e older at) [
    | inl r ↦ old-through T o t e older r (omega (arith, ap packets (up-past T x t h)))
    | inr r ↦ ap (older_than T) r.1
  ]
]

pub order-older : (T U : Heard → Bool) (xs : List Heard)
    → packets (up_to T (older_than U xs)) ≤ packets (up_to T xs)
order-older T U [] = omega arith
order-older T U (x ∷ t) = elim (either (U x)) [
  | inl h ↦ omega (
    arith,
    ap (λ (l : List Heard). packets (up_to T l)) (old-here U x t h),
    order-more T x t,
  )
  | inr h ↦ omega (
    arith,
    ap (λ (l : List Heard). packets (up_to T l)) (old-past U x t h),
    order-older T U t,
    order-more T x t,
  )
]
