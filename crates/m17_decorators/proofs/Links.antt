-- The buckets of a memory: a walk from a head by links meets each packet of the bucket.
use Rattle.std.proofs.Common.{◌≡◌, ◌≢◌, ◌⊎◌, ℕ, ◌+◌, ◌-◌, ◌%◌, ◌<◌, ◌≤◌, Bool, true, false, List, length, get_or, set, inl, inr, refl, sym, ap, subst, ◌∙◌, arith, get_or-set_other, get_or-set_same}
use Rattle.std.proofs.lemmas.Bool.Decides.{eqb_tells, leb_tells}
use Rattle.m17_decorators.specs.declared.memory.Slot.{Slot}
use Rattle.m17_decorators.specs.GuardMemory.{IsKept, IsLink, AreLinked, slot_of, blank}
use Rattle.m17_decorators.proofs.Back.{either}

-- A walk has come to this packet: those behind it do not pass the test.
pub record IsAt (slots : List Slot) (bucket : Slot → ℕ) (test : Slot → Bool)
    (count number order : ℕ) : Type 0 where
  pub small : order ≤ count
  pub there : IsKept count order → bucket (slot_of slots order) ≡ number
  pub passed : (o : ℕ) → order < o → IsKept count o → test (slot_of slots o) ≡ false

-- what passes the test is in the bucket
abbrev pub IsIn : (Slot → ℕ) → (Slot → Bool) → ℕ → Type 0
IsIn bucket test number = (slot : Slot) → test slot ≡ true → bucket slot ≡ number

not-in : (bucket : Slot → ℕ) (test : Slot → Bool) (number : ℕ) (slot : Slot)
    → IsIn bucket test number → bucket slot ≢ number → test slot ≡ false
not-in bucket test number slot is nope = elim (either (test slot)) [
  | inl y ↦ absurd (nope (is slot y))
  | inr y ↦ y
]

pub walk-begins : (slots : List Slot) (bucket link : Slot → ℕ) (test : Slot → Bool)
    (count number : ℕ) (heads : List ℕ)
    → AreLinked slots count heads bucket link → IsIn bucket test number → number < 16384
    → IsAt slots bucket test count number (get_or heads number 0)
walk-begins slots bucket link test count number heads are is lt =
    let first = are.of_head number lt in record {
      small = first.small;
      there = first.there;
      passed = λ o behind kept. not-in bucket test number (slot_of slots o) is
          (first.others o behind kept.heard kept);
    }

pub walk-goes-on : (slots : List Slot) (bucket link : Slot → ℕ) (test : Slot → Bool)
    (count number order : ℕ) (heads : List ℕ)
    → AreLinked slots count heads bucket link → IsIn bucket test number
    → IsAt slots bucket test count number order → IsKept count order
    → test (slot_of slots order) ≡ false
    → IsAt slots bucket test count number (link (slot_of slots order))
walk-goes-on slots bucket link test count number order heads are is at kept nope =
    let next = are.of_link order kept in
    let here : bucket (slot_of slots order) ≡ number = at.there kept in record {
      small = omega (arith, next.small, kept.heard);
      there = λ k. next.there k ∙ here;
      passed = λ o behind k. elim (leb_tells o order) [
        | inl w ↦ elim (eqb_tells o order) [
          | inl e ↦ subst (λ (n : ℕ). test (slot_of slots n) ≡ false) (sym e.1) nope
          | inr e ↦ not-in bucket test number (slot_of slots o) is
              (λ same. next.others o behind (let low = w.1 in let ne = e.1 in omega arith) k
              (same ∙ sym here))
        ]
        | inr w ↦ at.passed o w.1 k
      ];
    }

-- a link leads to an older packet
pub link-falls : (slots : List Slot) (bucket link : Slot → ℕ) (count order : ℕ) (heads : List ℕ)
    → AreLinked slots count heads bucket link → IsKept count order
    → link (slot_of slots order) < order
link-falls slots bucket link count order heads are kept =
    let next = are.of_link order kept in omega (arith, next.small, kept.some)

-- the walk has come past all that is kept
pub walk-ends : (slots : List Slot) (bucket : Slot → ℕ) (test : Slot → Bool)
    (count number order : ℕ) → IsAt slots bucket test count number order
    → (IsKept count order → ⊥) → (o : ℕ) → IsKept count o → test (slot_of slots o) ≡ false
walk-ends slots bucket test count number order at nope o kept = elim (leb_tells o order) [
  | inl w ↦ absurd (nope (record {
    some = let low = w.1 in let some = kept.some in omega arith;
    heard = at.small;
    late = let low = w.1 in let late = kept.late in omega arith;
  }))
  | inr w ↦ at.passed o w.1 kept
]

-- one packet more
pub slot-other : (slots : List Slot) (slot : Slot) (count o : ℕ) → o ≤ count
    → IsKept (count + 1) o
    → slot_of (set slots ((count + 1) % 16384) slot) o ≡ slot_of slots o
slot-other slots slot count o le kept =
    let late = kept.late in
    let ne : o % 16384 ≢ (count + 1) % 16384 = λ same. absurd (omega arith) in
    get_or-set_other slots ((count + 1) % 16384) (o % 16384) slot blank ne

pub slot-same : (slots : List Slot) (slot : Slot) (count : ℕ) → length slots ≡ 16384
    → slot_of (set slots ((count + 1) % 16384) slot) (count + 1) ≡ slot
slot-same slots slot count len =
    get_or-set_same slots ((count + 1) % 16384) slot blank (omega arith)

pub kept-before : (count o : ℕ) → o ≤ count → IsKept (count + 1) o → IsKept count o
kept-before count o le kept = let late = kept.late in record {
  some = kept.some;
  heard = le;
  late = omega arith;
}

-- a link of older packets stays one
link-stays : (slots : List Slot) (bucket : Slot → ℕ) (slot : Slot) (count last number link : ℕ)
    → last ≤ count → IsLink slots bucket count last number link
    → IsLink (set slots ((count + 1) % 16384) slot) bucket (count + 1) last number link
link-stays slots bucket slot count last number link le is = record {
  small = is.small;
  there = λ kept. let small = is.small in let low : link ≤ count = omega arith in
      ap bucket (slot-other slots slot count link low kept)
      ∙ is.there (kept-before count link low kept);
  others = λ o behind upto kept same.
      let low : o ≤ count = omega arith in
      is.others o behind upto (kept-before count o low kept)
      (sym (ap bucket (slot-other slots slot count o low kept)) ∙ same);
}

-- the new packet is in another bucket
link-passes : (slots : List Slot) (bucket : Slot → ℕ) (slot : Slot) (count number link : ℕ)
    → length slots ≡ 16384 → bucket slot ≢ number → IsLink slots bucket count count number link
    → IsLink (set slots ((count + 1) % 16384) slot) bucket (count + 1) (count + 1) number link
link-passes slots bucket slot count number link len nope is =
    let stays = link-stays slots bucket slot count count number link (omega arith) is in record {
      small = let small = is.small in omega arith;
      there = stays.there;
      others = λ o behind upto kept. elim (leb_tells o count) [
        | inl w ↦ stays.others o behind w.1 kept
        | inr w ↦ λ same.
            let is-new : o ≡ count + 1 = let low = w.1 in omega arith in
            nope (ap bucket (sym (slot-same slots slot count len)
            ∙ ap (slot_of (set slots ((count + 1) % 16384) slot)) (sym is-new)) ∙ same)
      ];
    }

-- the new packet is the latest of its bucket
link-new : (slots : List Slot) (bucket : Slot → ℕ) (slot : Slot) (count : ℕ)
    → length slots ≡ 16384
    → IsLink (set slots ((count + 1) % 16384) slot) bucket (count + 1) (count + 1) (bucket slot)
    (count + 1)
link-new slots bucket slot count len = record {
  small = omega arith;
  there = λ _. ap bucket (slot-same slots slot count len);
  others = λ o behind upto kept. absurd (omega arith);
}

pub linked-more : (slots : List Slot) (bucket link : Slot → ℕ) (slot : Slot) (count : ℕ)
    (heads : List ℕ)
    → length slots ≡ 16384 → length heads ≡ 16384 → bucket slot < 16384
    → link slot ≡ get_or heads (bucket slot) 0
    → AreLinked slots count heads bucket link
    → AreLinked (set slots ((count + 1) % 16384) slot) (count + 1)
    (set heads (bucket slot) (count + 1)) bucket link
linked-more slots bucket link slot count heads len many lt first are =
    let all = set slots ((count + 1) % 16384) slot in record {
      of_head = λ number small. elim (eqb_tells number (bucket slot)) [
        | inl e ↦ let at : get_or (set heads (bucket slot) (count + 1)) number 0 ≡ count + 1 =
            ap (λ (n : ℕ). get_or (set heads (bucket slot) (count + 1)) n 0) e.1
            ∙ get_or-set_same heads (bucket slot) (count + 1) 0 (omega arith) in
            subst (λ (l : ℕ). IsLink all bucket (count + 1) (count + 1) number l) (sym at)
            (subst (λ (n : ℕ). IsLink all bucket (count + 1) (count + 1) n (count + 1)) (sym e.1)
            (link-new slots bucket slot count len))
        | inr e ↦ subst (λ (l : ℕ). IsLink all bucket (count + 1) (count + 1) number l)
            (sym (get_or-set_other heads (bucket slot) number (count + 1) 0 e.1))
            (link-passes slots bucket slot count number (get_or heads number 0) len
            (λ same. e.1 (sym same)) (are.of_head number small))
      ];
      of_link = λ o kept. elim (leb_tells o count) [
        | inl w ↦ let low : o ≤ count = w.1 in
            let old = slot-other slots slot count o low kept in
            subst (λ (s : Slot). IsLink all bucket (count + 1) (o - 1) (bucket s) (link s)) (sym old)
            (link-stays slots bucket slot count (o - 1) (bucket (slot_of slots o))
            (link (slot_of slots o)) (omega arith) (are.of_link o (kept-before count o low kept)))
        | inr w ↦ let is-new : count + 1 ≡ o = let low = w.1 in let top = kept.heard in omega arith in
            subst (λ (n : ℕ). IsLink all bucket (count + 1) (n - 1) (bucket (slot_of all n))
            (link (slot_of all n))) is-new
            (subst (λ (s : Slot). IsLink all bucket (count + 1) (count + 1 - 1) (bucket s) (link s))
            (sym (slot-same slots slot count len))
            (subst (λ (l : ℕ). IsLink all bucket (count + 1) (count + 1 - 1) (bucket slot) l) (sym first)
            (let last : count ≡ count + 1 - 1 = omega arith in
            subst (λ (n : ℕ). IsLink all bucket (count + 1) n (bucket slot)
            (get_or heads (bucket slot) 0)) last
            (link-stays slots bucket slot count count (bucket slot) (get_or heads (bucket slot) 0)
            (omega arith) (are.of_head (bucket slot) lt)))))
      ];
    }
