-- What a mouth behind a pace has said keeps the pace, at each call.
use Rattle.std.proofs.Common.{◌≡◌, ◌<◌, ◌&&◌, ℕ, Bool, true, false, List, [], ◌∷◌, ◌++◌, Result, Ok, Err, OnOk, OnErr, refl, sym, ap, subst, ◌∙◌, inl, inr}
use Rattle.std.specs.Prelude.{nat_lt, Option, Some, None, IfSome}
use Rattle.std.proofs.lemmas.Bool.{cond-true, cond-false, lt-ltb}
use Rattle.m17_values.specs.declared.peer.Peer.{Peer}
use Rattle.m17_values.specs.declared.failures.Failed.{Failed}
use Rattle.m17_ports.specs.Mouth.{Datagram, MouthTold}
use Rattle.m17_ports.specs.Told.{StartsEmpty, told_then}
use Rattle.m17_decorators.specs.Frame.{is_frame}
use Rattle.m17_decorators.specs.Pace.{Event, KeepsPace, told, passed, last_moment, once_decided, once_read}
use Rattle.m17_decorators.specs.Paced.{AreLet, HasCome, HasPaced, IsAtPace, PaceSeen, has_come, is_counted, at_first, at_moment, went, went_lost, uncounted, places_of}
use Rattle.m17_decorators.specs.PaceMemory.{IsNew}
use Rattle.m17_decorators.specs.declared.pace.Pace.{Pace}
use Rattle.m17_decorators.proofs.PaceStanding.{clash}
use Rattle.m17_decorators.proofs.Rule.{decided-keeps}
use Rattle.m17_decorators.proofs.Times.{bool-or}

both-hold : (a b : Bool) → (a && b) ≡ true → b ≡ true
both-hold true b e = e
both-hold false b e = absurd (clash false e refl)

second-fails : (a b : Bool) → a ≡ true → (a && b) ≡ false → b ≡ false
second-fails true b y e = e
second-fails false b y e = absurd (clash false y refl)

-- a reading lets nothing through
read-let : (read : Option (Option ℕ)) (past : List Event) (all : List Datagram) → AreLet past all
    → AreLet (once_read read past) all
read-let None past all l = l
read-let (Some None) past all l = l
read-let (Some (Some at)) past all l = elim (bool-or (nat_lt (last_moment past) at)) [
  | inl y ↦ subst (λ (p : List Event). AreLet p all)
      (sym (cond-true (nat_lt (last_moment past) at) (told at ∷ past) past y)) (at_moment l)
  | inr n ↦ subst (λ (p : List Event). AreLet p all)
      (sym (cond-false (nat_lt (last_moment past) at) (told at ∷ past) past n)) l
]

-- what is told once more was told comes of what was told before
told-more : {A : Type 0} (was : Option (List A)) (more all : List A)
    → told_then was more ≡ Some all → (old : List A) × ((was ≡ Some old) × (old ++ more ≡ all))
told-more None more all e = cc
told-more (Some old) more all e = (old, (refl, cc))

-- the list of what was said is longer by the datagram, or the same
said-more : (was is : Option (List Datagram)) (to : Peer) (bytes : List ℕ) (past next : List Event)
    (result : Result (Unit {0}) Failed)
    → OnOk result (is ≡ told_then was ((to, bytes) ∷ [])) → OnErr result (is ≡ was)
    → ((all : List Datagram) → AreLet past all → AreLet next (all ++ (to, bytes) ∷ []))
    → ((all : List Datagram) → AreLet past all → AreLet next all)
    → ((all : List Datagram) → was ≡ Some all → AreLet past all)
    → (all : List Datagram) → is ≡ Some all → AreLet next all
said-more was is to bytes past next (Ok x) ok err more same old all at =
    let a = told-more was ((to, bytes) ∷ []) all (sym ok ∙ at) in
    subst (AreLet next) a.1.1 (more a.0 (old a.0 a.1.0))
said-more was is to bytes past next (Err x) ok err more same old all at =
    same all (old all (sym err ∙ at))

-- a frame that was decided
frame-said : (passes : Bool) (was is : Option (List Datagram)) (to : Peer) (bytes : List ℕ)
    (read : Option (Option ℕ)) (past : List Event) (result : Result (Unit {0}) Failed)
    → is_frame bytes ≡ true
    → OnOk result (is ≡ told_then was ((to, bytes) ∷ [])) → OnErr result (is ≡ was)
    → (passes ≡ false → is ≡ was)
    → ((all : List Datagram) → was ≡ Some all → AreLet past all)
    → (all : List Datagram) → is ≡ Some all → AreLet (once_decided to passes (once_read read past)) all
frame-said true was is to bytes read past result counts ok err lost old all at =
    said-more was is to bytes (once_read read past) (passed to ∷ once_read read past) result ok err
    (λ xs l. went to bytes counts l) (λ xs l. went_lost l) (λ xs e. read-let read past xs (old xs e))
    all at
frame-said false was is to bytes read past result counts ok err lost old all at =
    read-let read past all (old all (sym (lost refl) ∙ at))

-- nothing has come to a new pace, nor to none
pub come-new : (most : ℕ) (memory : Option Pace) → IfSome memory (IsNew most)
    → has_come memory []
come-new most None new = refl
come-new most (Some pace) new = new.nothing

module _ {M C L : Type 0} (tells : M → MouthTold L) (answers : C → Option (List (Option ℕ))) where
  pub new-at : (paced : PaceSeen M C) → StartsEmpty (tells paced.inner).said → HasCome paced []
      → IsAtPace tells paced
  new-at paced none come = record {
    past = [];
    come = come;
    keeps = tt;
    said = λ some all at. subst (AreLet []) (sym (none all at)) at_first;
  }

  pub more-at : (old new : PaceSeen M C) (to : Peer) (bytes : List ℕ)
      (result : Result (Unit {0}) Failed) → HasPaced tells answers old new to bytes result
      → OnOk result ((tells new.inner).said ≡ told_then (tells old.inner).said ((to, bytes) ∷ []))
      → OnErr result ((tells new.inner).said ≡ (tells old.inner).said)
      → IsAtPace tells old → IsAtPace tells new
  more-at old new to bytes result paced ok err was =
      elim (bool-or (is_counted old.most bytes)) [
        | inl y ↦ let came = paced.frame y was.past was.come in record {
          past = once_decided to paced.passes (once_read paced.read was.past);
          come = came.1;
          keeps = subst (λ (n : ℕ).
              KeepsPace n (once_decided to paced.passes (once_read paced.read was.past)))
              (sym paced.most)
              (decided-keeps old.most (places_of old.memory) to paced.read was.past paced.passes
              was.keeps came.0);
          said = λ some. frame-said paced.passes (tells old.inner).said (tells new.inner).said to
              bytes paced.read was.past result (both-hold (nat_lt 0 old.most) (is_frame bytes) y)
              ok err (λ n. ap (λ (m : M). (tells m).said) (paced.lost n).1)
              (was.said (subst (λ (n : ℕ). 0 < n) paced.most some));
        }
        | inr n ↦ let passes = paced.other n in record {
          past = was.past;
          come = subst (λ (memory : Option Pace). has_come memory was.past) (sym passes.2) was.come;
          keeps = subst (λ (n : ℕ). KeepsPace n was.past) (sym paced.most) was.keeps;
          said = λ some.
              let bound : 0 < old.most = subst (λ (n : ℕ). 0 < n) paced.most some in
              let not : is_frame bytes ≡ false = second-fails (nat_lt 0 old.most) (is_frame bytes)
              (lt-ltb 0 old.most bound) n in
              said-more (tells old.inner).said (tells new.inner).said to bytes was.past was.past
              result ok err (λ all l. uncounted to bytes not l) (λ all l. l) (was.said bound);
        }
      ]
