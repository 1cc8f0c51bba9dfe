-- What the places hold.
use Rattle.std.proofs.Common.{◌≡◌, ◌≢◌, ◌⊎◌, ◌<◌, ◌≤◌, ℕ, Bool, true, false, List, [], ◌∷◌, length, take, set, refl, sym, ap, subst, ◌∙◌, inl, inr, arith}
use Rattle.std.specs.Prelude.{Option, Some, None, ◌==◌, ◌&&◌}
use Rattle.std.specs.Bool.{beq}
use Rattle.std.specs.Str.{bytes_eq}
use Rattle.std.proofs.lemmas.Bool.{cond-true, cond-false, eqb-true, eqb-false, eq-eqb}
use Rattle.std.proofs.lemmas.List.{get_or-set_same, get_or-set_other, length-set}
use Rattle.std.proofs.lemmas.Slice.Eq.{bytes_eq-Decides}
use Rattle.m17_values.specs.declared.peer.Peer.{Peer}
use Rattle.m17_decorators.specs.declared.place.Place.{Place}
use Rattle.m17_decorators.specs.PaceMemory.{Admits, AreFresh, Falls, HasStamps, Hold, blank, holds, is_idle, is_idle_by, is_spent, newer, once_stamped, place_at, renewed, stamped}
use Rattle.m17_decorators.proofs.Times.{bool-or}
use Rattle.m17_decorators.proofs.Stamps.{and-left, and-right, falls-later, few, first-one, fits-taken, is_spent_by, many, newer-later, newer-none, newer-some, once-more}
use Rattle.m17_decorators.specs.Frame.{same_peer}

and-both : (a b : Bool) → a ≡ true → b ≡ true → (a && b) ≡ true
and-both true b x y = y
and-both false b x y = x

pub clash : (b : Bool) → b ≡ true → b ≡ false → ⊥
clash b y n = let both : true ≡ false = sym y ∙ n in cc

beq-is : (a b : Bool) → beq a b ≡ true → a ≡ b
beq-is true true h = refl
beq-is true false h = cc
beq-is false true h = cc
beq-is false false h = refl

beq-same : (a : Bool) → beq a a ≡ true
beq-same true = refl
beq-same false = refl

peer-from : (a b : Peer) → a.six ≡ b.six → a.ip ≡ b.ip → a.port ≡ b.port → a ≡ b
peer-from a b s i p =
    let f : Bool → Peer = λ x. record { six = x; ip = a.ip; port = a.port } in
    let g : List ℕ → Peer = λ x. record { six = b.six; ip = x; port = a.port } in
    let h : ℕ → Peer = λ x. record { six = b.six; ip = b.ip; port = x } in
    ap f s ∙ ap g i ∙ ap h p

pub peer-is : (a b : Peer) → same_peer a b ≡ true → a ≡ b
peer-is a b h =
    let rest = and-right (beq a.six b.six) (bytes_eq a.ip b.ip && a.port == b.port) h in
    peer-from a b
    (beq-is a.six b.six (and-left (beq a.six b.six) (bytes_eq a.ip b.ip && a.port == b.port) h))
    ((bytes_eq-Decides a.ip b.ip).0 (and-left (bytes_eq a.ip b.ip) (a.port == b.port) rest))
    (eqb-true a.port b.port (and-right (bytes_eq a.ip b.ip) (a.port == b.port) rest))

pub peer-itself : (a : Peer) → same_peer a a ≡ true
peer-itself a = and-both (beq a.six a.six) (bytes_eq a.ip a.ip && a.port == a.port)
    (beq-same a.six)
    (and-both (bytes_eq a.ip a.ip) (a.port == a.port) ((bytes_eq-Decides a.ip a.ip).1 refl)
    (eq-eqb a.port a.port refl))

nobody : (peer : Peer) (p : Option Peer) → p ≡ None → holds peer p ≡ true → ⊥
nobody peer p is h = let e : false ≡ true = sym (ap (holds peer) is) ∙ h in cc

held-by : (peer : Peer) (p : Option Peer) → holds peer p ≡ true → p ≡ Some peer
held-by peer None h = cc
held-by peer (Some q) h = ap (λ (x : Peer). Some x) (sym (peer-is peer q h))

same-or : (a b : ℕ) → (a ≡ b) ⊎ (a ≢ b)
same-or a b = elim (bool-or (a == b)) [
  | inl y ↦ inl (eqb-true a b y)
  | inr n ↦ inr (eqb-false a b n)
]

abbrev peer_or : Peer → Option Peer → Peer
peer_or to None = to
peer_or to (Some p) = p

busy-peer : (cut : ℕ) (items : List ℕ) (to : Peer) (p : Option Peer)
    → is_idle_by cut items p ≡ false → p ≡ Some (peer_or to p)
busy-peer cut items to None h = cc
busy-peer cut items to (Some p) h = refl

busy-some : (cut : ℕ) (items : List ℕ) (p : Option Peer) → is_idle_by cut items p ≡ false
    → 0 < newer cut items
busy-some cut items None h = cc
busy-some cut items (Some p) h =
    let other = eqb-false (newer cut items) 0 h in omega (arith, other)

-- one place is another's, or as it was, with one more stamp
pub put-holds : (most cut now : ℕ) (all : Peer → List ℕ) (to : Peer) (places : List Place) (i : ℕ)
    (x : Place) → Hold most cut now all places → i < length places → x.peer ≡ Some to
    → x.stamps.capacity ≡ most → length x.stamps.items ≤ most
    → HasStamps cut (now ∷ all to) x.stamps.items
    → ((j : ℕ) → j < length places → j ≢ i → holds to (place_at places j).peer ≡ false)
    → ((p : Peer) → same_peer p to ≡ false → holds p (place_at places i).peer ≡ true
    → newer cut (all p) ≡ 0)
    → Hold most cut now (once_stamped all to now) (set places i x)
put-holds most cut now all to places i x hold lt its wide fits stamps alone leaves =
    let many : length (set places i x) ≡ length places = length-set places i x in
    let here : place_at (set places i x) i ≡ x = get_or-set_same places i x blank lt in
    let there : (j : ℕ) → j ≢ i → place_at (set places i x) j ≡ place_at places j =
    λ j other. get_or-set_other places i j x blank other in
    let own : (p : Peer) → same_peer p to ≡ true → once_stamped all to now p ≡ now ∷ all p =
    λ p y. cond-true (same_peer p to) (now ∷ all p) (all p) y in
    let same : (p : Peer) → same_peer p to ≡ false → once_stamped all to now p ≡ all p =
    λ p n. cond-false (same_peer p to) (now ∷ all p) (all p) n in
    let mine : (p : Peer) → holds p (place_at (set places i x) i).peer ≡ same_peer p to =
    λ p. ap (λ (q : Place). holds p q.peer) here ∙ ap (holds p) its in
    let not-to : (p : Peer) (j : ℕ) → j < length places → j ≢ i
    → holds p (place_at places j).peer ≡ true → same_peer p to ≡ false =
    λ p j jl other h. elim (bool-or (same_peer p to)) [
      | inl y ↦ absurd (clash (holds to (place_at places j).peer)
          (subst (λ (q : Peer). holds q (place_at places j).peer ≡ true) (peer-is p to y) h)
          (alone j jl other))
      | inr n ↦ n
    ] in
    record {
      room = λ j jl. elim (same-or j i) [
        | inl e ↦ ap (λ (n : ℕ). (place_at (set places i x) n).stamps.capacity) e
            ∙ ap (λ (q : Place). q.stamps.capacity) here ∙ wide
        | inr o ↦ ap (λ (q : Place). q.stamps.capacity) (there j o)
            ∙ hold.room j (omega (arith, jl, many))
      ];
      fits = λ j jl. elim (same-or j i) [
        | inl e ↦ subst (λ (q : Place). length q.stamps.items ≤ most)
            (sym (ap (place_at (set places i x)) e ∙ here)) fits
        | inr o ↦ subst (λ (q : Place). length q.stamps.items ≤ most) (sym (there j o))
            (hold.fits j (omega (arith, jl, many)))
      ];
      falls = λ p. elim (bool-or (same_peer p to)) [
        | inl y ↦ subst (Falls now) (sym (own p y)) (omega arith, hold.falls p)
        | inr n ↦ subst (Falls now) (sym (same p n)) (hold.falls p)
      ];
      each = λ j p jl h. elim (same-or j i) [
        | inl e ↦
            let y = sym (mine p)
            ∙ subst (λ (n : ℕ). holds p (place_at (set places i x) n).peer ≡ true) e h in
            subst (λ (q : Place). HasStamps cut (once_stamped all to now p) q.stamps.items)
            (sym (ap (place_at (set places i x)) e ∙ here))
            (subst (λ (l : List ℕ). HasStamps cut l x.stamps.items) (sym (own p y))
            (subst (λ (q : Peer). HasStamps cut (now ∷ all q) x.stamps.items)
            (sym (peer-is p to y)) stamps))
        | inr o ↦
            let jl' : j < length places = omega (arith, jl, many) in
            let h' = sym (ap (λ (q : Place). holds p q.peer) (there j o)) ∙ h in
            subst (λ (q : Place). HasStamps cut (once_stamped all to now p) q.stamps.items)
            (sym (there j o))
            (subst (λ (l : List ℕ). HasStamps cut l (place_at places j).stamps.items)
            (sym (same p (not-to p j jl' o h'))) (hold.each j p jl' h'))
      ];
      one = λ j k p jl kl h g. elim (same-or j i) [
        | inl e ↦ elim (same-or k i) [
          | inl f ↦ e ∙ sym f
          | inr o ↦
              let y = sym (mine p)
              ∙ subst (λ (n : ℕ). holds p (place_at (set places i x) n).peer ≡ true) e h in
              let g' = sym (ap (λ (q : Place). holds p q.peer) (there k o)) ∙ g in
              absurd (clash (same_peer p to) y (not-to p k (omega (arith, kl, many)) o g'))
        ]
        | inr o ↦
            let h' = sym (ap (λ (q : Place). holds p q.peer) (there j o)) ∙ h in
            elim (same-or k i) [
              | inl f ↦
                  let y = sym (mine p)
                  ∙ subst (λ (n : ℕ). holds p (place_at (set places i x) n).peer ≡ true) f g in
                  absurd (clash (same_peer p to) y (not-to p j (omega (arith, jl, many)) o h'))
              | inr u ↦
                  let g' = sym (ap (λ (q : Place). holds p q.peer) (there k u)) ∙ g in
                  hold.one j k p (omega (arith, jl, many)) (omega (arith, kl, many)) h' g'
            ]
      ];
      others = λ p none.
          let n = sym (mine p) ∙ none i (omega (arith, lt, many)) in
          ap (newer cut) (same p n) ∙ elim (bool-or (holds p (place_at places i).peer)) [
            | inl y ↦ leaves p n y
            | inr f ↦ hold.others p (λ j jl. elim (same-or j i) [
              | inl e ↦ subst (λ (m : ℕ). holds p (place_at places m).peer ≡ false) (sym e) f
              | inr o ↦ sym (ap (λ (q : Place). holds p q.peer) (there j o))
                  ∙ none j (omega (arith, jl, many))
            ])
          ];
    }

-- a frame passed to the peer of this place
pub found-holds : (most cut now : ℕ) (all : Peer → List ℕ) (to : Peer) (places : List Place)
    (i : ℕ) → Hold most cut now all places → 0 < most → i < length places
    → holds to (place_at places i).peer ≡ true → is_spent cut (place_at places i) ≡ false
    → Hold most cut now (once_stamped all to now) (set places i (stamped (place_at places i) now))
found-holds most cut now all to places i hold some lt its spent =
    let place = place_at places i in
    let spent' = ap (λ (n : ℕ). is_spent_by cut n place.stamps.items) (sym (hold.room i lt)) ∙ spent in
    put-holds most cut now all to places i (stamped place now) hold lt (held-by to place.peer its)
    (hold.room i lt)
    (subst (λ (n : ℕ). length (take n (now ∷ place.stamps.items)) ≤ most) (sym (hold.room i lt))
    (fits-taken most (now ∷ place.stamps.items)))
    (subst (λ (n : ℕ). HasStamps cut (now ∷ all to) (take n (now ∷ place.stamps.items)))
    (sym (hold.room i lt))
    (once-more cut most now (all to) place.stamps.items some (hold.fits i lt)
    (hold.each i to lt its) spent'))
    (λ j jl other. elim (bool-or (holds to (place_at places j).peer)) [
      | inl y ↦ absurd (other (hold.one j i to jl lt y its))
      | inr n ↦ n
    ])
    (λ p n h. absurd (clash (same_peer p to)
    (sym (ap (holds p) (held-by to place.peer its)) ∙ h) n))

-- a place at which nobody counts is given to this peer
pub given-holds : (most cut now : ℕ) (all : Peer → List ℕ) (to : Peer) (places : List Place)
    (i : ℕ) → Hold most cut now all places → 0 < most → i < length places
    → ((j : ℕ) → j < length places → holds to (place_at places j).peer ≡ false)
    → is_idle cut (place_at places i) ≡ true
    → Hold most cut now (once_stamped all to now)
    (set places i (renewed (place_at places i) to now))
given-holds most cut now all to places i hold some lt none idle =
    let place = place_at places i in
    put-holds most cut now all to places i (renewed place to now) hold lt refl (hold.room i lt)
    (subst (λ (n : ℕ). length (take n (now ∷ [])) ≤ most) (sym (hold.room i lt))
    (fits-taken most (now ∷ [])))
    (subst (λ (n : ℕ). HasStamps cut (now ∷ all to) (take n (now ∷ []))) (sym (hold.room i lt))
    (first-one cut most now (all to) some (hold.others to none)))
    (λ j jl other. none j jl)
    (λ p n h.
    let stamps = hold.each i p lt h in
    let quiet : newer cut place.stamps.items ≡ 0 = eqb-true (newer cut place.stamps.items) 0
    (sym (ap (is_idle_by cut place.stamps.items) (held-by p place.peer h)) ∙ idle) in
    ap (newer cut) stamps.whole
    ∙ newer-none cut place.stamps.items stamps.rest quiet stamps.out)

-- what the answer to a frame says
pub found-admits : (most cut now : ℕ) (all : Peer → List ℕ) (to : Peer) (places : List Place)
    (i : ℕ) → Hold most cut now all places → 0 < most → i < length places
    → holds to (place_at places i).peer ≡ true → is_spent cut (place_at places i) ≡ false
    → Admits most cut now all to (length places) true
found-admits most cut now all to places i hold some lt its spent =
    let place = place_at places i in
    let spent' = ap (λ (n : ℕ). is_spent_by cut n place.stamps.items) (sym (hold.room i lt)) ∙ spent in
    record {
      few = λ _. few cut most (all to) place.stamps.items some (hold.fits i lt)
          (hold.each i to lt its) spent';
      many = λ e. absurd (clash true refl e);
    }

pub spent-admits : (most cut now : ℕ) (all : Peer → List ℕ) (to : Peer) (places : List Place)
    (i : ℕ) → Hold most cut now all places → 0 < most → i < length places
    → holds to (place_at places i).peer ≡ true → is_spent cut (place_at places i) ≡ true
    → Admits most cut now all to (length places) false
spent-admits most cut now all to places i hold some lt its spent =
    let place = place_at places i in
    let spent' = ap (λ (n : ℕ). is_spent_by cut n place.stamps.items) (sym (hold.room i lt)) ∙ spent in
    record {
      few = λ e. absurd (clash true refl (sym e));
      many = λ _. inl (many cut most now (all to) place.stamps.items some (hold.falls to)
          (hold.each i to lt its) spent');
    }

pub given-admits : (most cut now : ℕ) (all : Peer → List ℕ) (to : Peer) (places : List Place)
    → Hold most cut now all places → 0 < most
    → ((j : ℕ) → j < length places → holds to (place_at places j).peer ≡ false)
    → Admits most cut now all to (length places) true
given-admits most cut now all to places hold some none = record {
  few = λ _. let zero = hold.others to none in omega arith;
  many = λ e. absurd (clash true refl e);
}

pub crowd-admits : (most cut now : ℕ) (all : Peer → List ℕ) (to : Peer) (places : List Place)
    → Hold most cut now all places
    → ((j : ℕ) → j < length places → holds to (place_at places j).peer ≡ false)
    → ((j : ℕ) → j < length places → is_idle cut (place_at places j) ≡ false)
    → Admits most cut now all to (length places) false
crowd-admits most cut now all to places hold none busy =
    let who : (j : ℕ) → j < length places
    → (place_at places j).peer ≡ Some (peer_or to (place_at places j).peer) =
    λ j jl. busy-peer cut (place_at places j).stamps.items to (place_at places j).peer
    (busy j jl) in
    let held : (j : ℕ) → j < length places
    → holds (peer_or to (place_at places j).peer) (place_at places j).peer ≡ true =
    λ j jl. ap (holds (peer_or to (place_at places j).peer)) (who j jl)
    ∙ peer-itself (peer_or to (place_at places j).peer) in
    record {
      few = λ e. absurd (clash true refl (sym e));
      many = λ _. inr (
        hold.others to none,
        record {
          peer = λ j. peer_or to (place_at places j).peer;
          busy = λ j jl.
              let stamps = hold.each j (peer_or to (place_at places j).peer) jl (held j jl) in
              subst (λ (l : List ℕ). 0 < newer cut l) (sym stamps.whole)
              (newer-some cut (place_at places j).stamps.items stamps.rest
              (busy-some cut (place_at places j).stamps.items (place_at places j).peer
              (busy j jl)));
          other = λ j jl. sym (ap (holds to) (who j jl)) ∙ none j jl;
          different = λ j k jl kl e. hold.one j k (peer_or to (place_at places j).peer) jl kl
              (held j jl)
              (subst (λ (p : Peer). holds p (place_at places k).peer ≡ true) (sym e) (held k kl));
        },
      );
    }

-- places of nobody hold what nobody was sent
pub fresh-holds : (most cut now : ℕ) (places : List Place) → AreFresh most places
    → Hold most cut now (λ _. []) places
fresh-holds most cut now places fresh = record {
  room = λ i lt. ap (λ (p : Place). p.stamps.capacity) (fresh i lt);
  fits = λ i lt. omega (arith, ap (λ (p : Place). length p.stamps.items) (fresh i lt));
  falls = λ p. tt;
  each = λ i p lt h. absurd (nobody p _ (ap (λ (q : Place). q.peer) (fresh i lt)) h);
  one = λ i j p lt jl h g. absurd (nobody p _ (ap (λ (q : Place). q.peer) (fresh i lt)) h);
  others = λ p none. refl;
}

-- as time goes on
pub later-holds : (most cut now cut' now' : ℕ) (all : Peer → List ℕ) (places : List Place)
    → cut ≤ cut' → now ≤ now' → Hold most cut now all places → Hold most cut' now' all places
later-holds most cut now cut' now' all places le on hold = record {
  room = hold.room;
  fits = hold.fits;
  falls = λ p. falls-later now now' (all p) on (hold.falls p);
  each = λ i p lt h. let stamps = hold.each i p lt h in record {
    rest = stamps.rest;
    whole = stamps.whole;
    out = newer-later cut cut' stamps.rest le stamps.out;
  };
  one = hold.one;
  others = λ p none. newer-later cut cut' (all p) le (hold.others p none);
}
