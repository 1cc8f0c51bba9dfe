-- The rule of a pace, and what its memory says of it.
use Rattle.std.proofs.Common.{◌≡◌, ◌<◌, ◌≤◌, ◌+◌, ◌-◌, ℕ, Bool, true, false, List, [], ◌∷◌, refl, sym, ap, subst, ◌∙◌, inl, inr, arith}
use Rattle.std.specs.Prelude.{nat_lt, Option, Some, None, IsSome}
use Rattle.std.proofs.lemmas.Bool.{cond-true, cond-false}
use Rattle.m17_values.specs.declared.peer.Peer.{Peer}
use Rattle.m17_decorators.specs.declared.moments.Moments.{Moments}
use Rattle.m17_decorators.specs.declared.place.Place.{Place}
use Rattle.m17_decorators.specs.Pace.{Event, IsDecided, KeepsPace, told, passed, last_moment, since, in_last_second, once_decided, once_read}
use Rattle.m17_decorators.specs.PaceMemory.{Admits, AreOf, AreWhole, Falls, Hold, IsRising, last_below, latest_before, newer, stamps}
use Rattle.m17_decorators.proofs.Times.{bool-or, lt-or, if-lt, if-ge, below-none}
use Rattle.m17_decorators.proofs.Stamps.{falls-later, newer-lt, newer-ge}
use Rattle.m17_decorators.proofs.PaceStanding.{peer-is}
use Rattle.m17_decorators.specs.Frame.{same_peer}

-- the rule alone: since an earlier moment no fewer passed
since-from : (peer : Peer) (from from' : ℕ) (past : List Event) → from ≤ from'
    → since peer from' past ≤ since peer from past
since-from peer from from' [] le = omega arith
since-from peer from from' (told at ∷ older) le = elim (lt-or at from') [
  | inl w ↦ omega (arith, if-lt at from' 0 (since peer from' older) w.1)
  | inr w ↦ omega (
    arith,
    if-ge at from' 0 (since peer from' older) w.1,
    if-ge at from 0 (since peer from older) (let ge = w.1 in omega arith),
    since-from peer from from' older le,
  )
]
since-from peer from from' (passed to ∷ older) le = elim (bool-or (same_peer peer to)) [
  | inl y ↦ omega (
    arith,
    cond-true (same_peer peer to) (since peer from' older + 1) (since peer from' older) y,
    cond-true (same_peer peer to) (since peer from older + 1) (since peer from older) y,
    since-from peer from from' older le,
  )
  | inr n ↦ omega (
    arith,
    cond-false (same_peer peer to) (since peer from' older + 1) (since peer from' older) n,
    cond-false (same_peer peer to) (since peer from older + 1) (since peer from older) n,
    since-from peer from from' older le,
  )
]

-- what passed before a moment passed by what was known then
stamp-top : (peer : Peer) (past : List Event) → IsRising past
    → Falls (last_moment past) (stamps peer past)
stamp-top peer [] rising = tt
stamp-top peer (told at ∷ older) rising =
    falls-later (last_moment older) at (stamps peer older) (omega (arith, rising.0))
    (stamp-top peer older rising.1)
stamp-top peer (passed to ∷ older) rising = elim (bool-or (same_peer peer to)) [
  | inl y ↦ subst (Falls (last_moment older))
      (sym (cond-true (same_peer peer to) (last_moment older ∷ stamps peer older) (stamps peer older) y))
      (omega arith, stamp-top peer older rising)
  | inr n ↦ subst (Falls (last_moment older))
      (sym (cond-false (same_peer peer to) (last_moment older ∷ stamps peer older) (stamps peer older) n))
      (stamp-top peer older rising)
]

none-newer : (cut top : ℕ) (xs : List ℕ) → Falls top xs → top < cut → newer cut xs ≡ 0
none-newer cut top [] falls lt = refl
none-newer cut top (x ∷ xs) falls lt = newer-lt cut x xs (omega (arith, falls.0, lt))

before-last : (from : ℕ) (past : List Event) → IsRising past
    → latest_before from past ≤ last_moment past
before-last from [] rising = omega arith
before-last from (told at ∷ older) rising = elim (lt-or at from) [
  | inl w ↦ omega (arith, if-lt at from at (latest_before from older) w.1)
  | inr w ↦ omega (
    arith,
    if-ge at from at (latest_before from older) w.1,
    before-last from older rising.1,
    rising.0,
  )
]
before-last from (passed to ∷ older) rising = before-last from older rising

-- so the stamps that are not older than the latest moment before tell how many passed since
since-newer : (peer : Peer) (from : ℕ) (past : List Event) → IsRising past
    → since peer from past ≡ newer (latest_before from past) (stamps peer past)
since-newer peer from [] rising = refl
since-newer peer from (told at ∷ older) rising = elim (lt-or at from) [
  | inl w ↦ if-lt at from 0 (since peer from older) w.1
      ∙ sym (ap (λ (n : ℕ). newer n (stamps peer older)) (if-lt at from at (latest_before from older) w.1)
      ∙ none-newer at (last_moment older) (stamps peer older) (stamp-top peer older rising.1) rising.0)
  | inr w ↦ if-ge at from 0 (since peer from older) w.1 ∙ since-newer peer from older rising.1
      ∙ sym (ap (λ (n : ℕ). newer n (stamps peer older)) (if-ge at from at (latest_before from older) w.1))
]
since-newer peer from (passed to ∷ older) rising = elim (bool-or (same_peer peer to)) [
  | inl y ↦ cond-true (same_peer peer to) (since peer from older + 1) (since peer from older) y
      ∙ ap (λ (n : ℕ). n + 1) (since-newer peer from older rising)
      ∙ sym (newer-ge (latest_before from older) (last_moment older) (stamps peer older)
      (before-last from older rising))
      ∙ ap (newer (latest_before from older))
      (sym (cond-true (same_peer peer to) (last_moment older ∷ stamps peer older) (stamps peer older) y))
  | inr n ↦ cond-false (same_peer peer to) (since peer from older + 1) (since peer from older) n
      ∙ since-newer peer from older rising
      ∙ ap (newer (latest_before from older))
      (sym (cond-false (same_peer peer to) (last_moment older ∷ stamps peer older) (stamps peer older) n))
]

-- the moment before which nothing counts
cut-is : (past : List Event) (m : Moments) → AreOf past m → AreWhole m
    → latest_before (last_moment past - 1000) past ≡ m.cut
cut-is past m of whole =
    of.before (last_moment past - 1000) (let is = of.last in omega arith)
    ∙ ap (λ (n : ℕ). last_below (n - 1000) m.cut m.later.items) (sym of.last)
    ∙ below-none (m.last - 1000) m.cut m.later.items whole.late

pub counts : (peer : Peer) (past : List Event) (m : Moments) → AreOf past m → AreWhole m
    → in_last_second peer past ≡ newer m.cut (stamps peer past)
counts peer past m of whole = since-newer peer (last_moment past - 1000) past of.rising
    ∙ ap (λ (n : ℕ). newer n (stamps peer past)) (cut-is past m of whole)

-- what the places say of a frame, by the rule
pub decides : (most : ℕ) (count : ℕ) (to : Peer) (past : List Event) (m : Moments) (now : ℕ)
    (passes : Bool) (read : Option (Option ℕ)) → AreOf past m → AreWhole m
    → Admits most m.cut now (λ peer. stamps peer past) to count passes
    → (passes ≡ false → IsSome read) → IsDecided most count to read past passes
decides most count to past m now passes read of whole admits was = record {
  few = λ y. subst (λ (n : ℕ). n < most) (sym (counts to past m of whole)) (admits.few y);
  many = λ n. elim (admits.many n) [
    | inl le ↦ inl (subst (λ (k : ℕ). most ≤ k) (sym (counts to past m of whole)) le)
    | inr w ↦ inr (
      counts to past m of whole ∙ w.0,
      record {
        peer = w.1.peer;
        busy = λ i lt. subst (λ (k : ℕ). 0 < k) (sym (counts (w.1.peer i) past m of whole))
            (w.1.busy i lt);
        other = w.1.other;
        different = w.1.different;
      },
    )
  ];
  now = λ n. inl (was n);
}

-- the clock told something
pub read-holds : (most cut now at : ℕ) (past : List Event) (places : List Place)
    → Hold most cut now (λ peer. stamps peer past) places
    → Hold most cut now (λ peer. stamps peer (once_read (Some (Some at)) past)) places
read-holds most cut now at past places hold =
    elim (bool-or (nat_lt (last_moment past) at)) [
      | inl y ↦ subst (λ (p : List Event). Hold most cut now (λ peer. stamps peer p) places)
          (sym (cond-true (nat_lt (last_moment past) at) (told at ∷ past) past y)) hold
      | inr n ↦ subst (λ (p : List Event). Hold most cut now (λ peer. stamps peer p) places)
          (sym (cond-false (nat_lt (last_moment past) at) (told at ∷ past) past n)) hold
    ]

-- the law
pub no_more : (most : ℕ) (past : List Event) (peer : Peer) → KeepsPace most past
    → in_last_second peer past ≤ most
no_more most [] peer keeps = omega arith
no_more most (told at ∷ older) peer keeps = omega (
  arith,
  if-ge at (at - 1000) 0 (since peer (at - 1000) older) (omega arith),
  since-from peer (last_moment older - 1000) (at - 1000) older (let lt = keeps.0 in omega arith),
  no_more most older peer keeps.1,
)
no_more most (passed to ∷ older) peer keeps =
    let from = last_moment older - 1000 in
    elim (bool-or (same_peer peer to)) [
      | inl y ↦ omega (
        arith,
        cond-true (same_peer peer to) (since peer from older + 1) (since peer from older) y,
        subst (λ (p : Peer). in_last_second p older < most) (sym (peer-is peer to y)) keeps.0,
      )
      | inr n ↦ omega (
        arith,
        cond-false (same_peer peer to) (since peer from older + 1) (since peer from older) n,
        no_more most older peer keeps.1,
      )
    ]

read-keeps : (most : ℕ) (read : Option (Option ℕ)) (past : List Event) → KeepsPace most past
    → KeepsPace most (once_read read past)
read-keeps most None past keeps = keeps
read-keeps most (Some None) past keeps = keeps
read-keeps most (Some (Some at)) past keeps = elim (lt-or (last_moment past) at) [
  | inl w ↦ subst (KeepsPace most)
      (sym (if-lt (last_moment past) at (told at ∷ past) past w.1)) (w.1, keeps)
  | inr w ↦ subst (KeepsPace most)
      (sym (if-ge (last_moment past) at (told at ∷ past) past w.1)) keeps
]

pub decided-keeps : (most places : ℕ) (to : Peer) (read : Option (Option ℕ)) (past : List Event)
    (passes : Bool) → KeepsPace most past
    → IsDecided most places to read (once_read read past) passes
    → KeepsPace most (once_decided to passes (once_read read past))
decided-keeps most places to read past true keeps d =
    (d.few refl, read-keeps most read past keeps)
decided-keeps most places to read past false keeps d = read-keeps most read past keeps
