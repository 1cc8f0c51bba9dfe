-- What one more call of an ear that fails where it is told to does to what it tells, and to its count of faults.
use Rattle.std.proofs.Common.{zero, suc, ◌≡◌, ◌≢◌, inl, inr, ℕ, Bool, ◌+◌, ◌-◌, ◌^◌, ◌<◌, ◌≤◌, min, true, false, cond, List, [], ◌∷◌, ◌++◌, length, replicate, get_or, Option, Some, None, refl, sym, ◌∙◌, ap, arith, add-one, append_assoc, append-nil}
use Rattle.std.specs.Option.{unwrap_or}
use Rattle.std.proofs.lemmas.List.{length-append, length-replicate, replicate-append-replicate, get_or_append_left}
use Rattle.std.proofs.Math.Seq.{get_or-append_seam}
use Rattle.std.proofs.lemmas.Bool.{cases_lt}
use Rattle.m17_values.specs.declared.heard.Heard.{Heard}
use Rattle.m17_values.specs.declared.heard.Heard.TheVariants.{Fault, End}
use Rattle.m17_io.specs.Faults.{HasRisen}
use Rattle.m17_ports.specs.Told.{told_then, StartsEmpty}
use Rattle.m17_ports.specs.Ear.{EarTold, EndsPastCount}
use Rattle.m17_ports.specs.Ports.{next_number}
use Rattle.m17_ports.specs.Untold.{nothing_told}
use Rattle.m17_port_memory.specs.Answers.{FaultyKept, is_listed, listed_below, answer_at, answers_of, answers_told, faulty_told, IsInStep, IsAnswered}

-- one list that is told is the other
same_told : (one other : List Heard) → Some one ≡ Some other → one ≡ other
same_told one other e = ap (λ (told : Option (List Heard)). unwrap_or told []) e

-- an ear of which nothing was heard tells nothing yet
pub starts_empty : (fails : List ℕ) (inner : Option (List Heard)) → StartsEmpty (answers_told fails 0 0 inner)
starts_empty fails None = λ all is. absurd (nothing_told all is)
starts_empty fails (Some said) = λ all is. sym (same_told [] all is)

-- one entry more
one_longer : (said : List Heard) (entry : Heard) → length (said ++ entry ∷ []) ≡ length said + 1
one_longer said entry = length-append said (entry ∷ [])

-- the ear stays in step over a call that is to fail
pub in_step-listed : (fails : List ℕ) (calls : ℕ) (inner : Option (List Heard))
    → is_listed fails calls ≡ true → IsInStep fails calls inner → IsInStep fails (calls + 1) inner
in_step-listed fails calls inner listed was = λ said is.
    let before = was said is in
    rw (add-one calls, listed) (omega (arith, before))

-- and over one that the inner ear answers
pub in_step-passed : (fails : List ℕ) (calls : ℕ) (before after : Option (List Heard)) (entry : Heard)
    → is_listed fails calls ≡ false → IsInStep fails calls before
    → after ≡ told_then before (entry ∷ []) → IsInStep fails (calls + 1) after
in_step-passed fails calls None after entry unlisted was told = λ said is.
    absurd (nothing_told said (sym told ∙ is))
in_step-passed fails calls (Some old) after entry unlisted was told = λ said is.
    let same : old ++ entry ∷ [] ≡ said = same_told (old ++ entry ∷ []) said (sym told ∙ is) in
    let longer = one_longer old entry in
    let before = was old refl in
    let e : length said ≡ length old + 1 = ap length (sym same) ∙ longer in
    rw (add-one calls, unlisted) (omega (arith, before, e))

-- an inner ear in step has not said too many Ends to be told
pub never_past : (fails : List ℕ) (calls : ℕ) (inner : Option (List Heard))
    → IsInStep fails calls inner → calls < 2 ^ 64 - 1 → EndsPastCount inner → ⊥
never_past fails calls inner was few past =
    let counted = was (past.0 ++ replicate past.1 End) past.3 in
    let both = length-append past.0 (replicate past.1 End) in
    let ends = length-replicate past.1 End in
    omega (arith, counted, both, ends, past.2, few)

-- an answer of the inner ear, by whether the call is to fail, stays when that one says more
answer-more : (said : List Heard) (entry : Heard) (i : ℕ) (b : Bool) → (b ≡ false → i < length said)
    → cond b Fault (get_or (said ++ entry ∷ []) i End) ≡ cond b Fault (get_or said i End)
answer-more said entry i true within = refl
answer-more said entry i false within = get_or_append_left said (entry ∷ []) End i (within refl)

-- one more call is one more that is to fail, or one that is the inner ear's
within-less : (n length_said below : ℕ) (b : Bool) → suc n ≤ length_said + (below + cond b 1 0)
    → n ≤ length_said + below
within-less n l below true h = omega (arith, h)
within-less n l below false h = omega (arith, h)

within-there : (n length_said below : ℕ) (b : Bool) → suc n ≤ length_said + (below + cond b 1 0)
    → b ≡ false → n < length_said + below
within-there n l below true h is = absurd (cc)
within-there n l below false h is = omega (arith, h)

-- no more calls fail than there are
one_le : (n below : ℕ) (b : Bool) → below ≤ n → below + cond b 1 0 ≤ suc n
one_le n below true h = omega (arith, h)
one_le n below false h = omega (arith, h)

pub listed_below-le : (fails : List ℕ) (n : ℕ) → listed_below fails n ≤ n
listed_below-le fails zero = omega arith
listed_below-le fails (suc n) =
    one_le n (listed_below fails n) (is_listed fails n) (listed_below-le fails n)

-- the answers so far stay when the inner ear says more
pub answers_of-more : (fails : List ℕ) (said : List Heard) (entry : Heard) (n : ℕ)
    → n ≤ length said + listed_below fails n
    → answers_of fails (said ++ entry ∷ []) n ≡ answers_of fails said n
answers_of-more fails said entry zero within = refl
answers_of-more fails said entry (suc n) within =
    let below = listed_below fails n in
    let b = is_listed fails n in
    let le : below ≤ n = listed_below-le fails n in
    let front = answers_of-more fails said entry n (within-less n (length said) below b within) in
    let last : answer_at fails (said ++ entry ∷ []) n ≡ answer_at fails said n =
    answer-more said entry (n - below) b
    (λ is. let there = within-there n (length said) below b within is in omega (arith, there, le)) in
    rw (front, last) refl

-- what is told after a call that is to fail
pub told-listed : (fails : List ℕ) (calls ends : ℕ) (inner : Option (List Heard))
    → is_listed fails calls ≡ true → ends ≡ 0
    → answers_told fails (calls + 1) ends inner ≡ told_then (answers_told fails calls ends inner) (Fault ∷ [])
told-listed fails calls ends None listed none = refl
told-listed fails calls ends (Some said) listed none =
    let before = answers_of fails said calls in
    let one : answers_of fails said (calls + 1) ≡ before ++ Fault ∷ [] = rw (add-one calls, listed) refl in
    let right : before ++ [] ≡ before = append-nil before in
    let left : (before ++ Fault ∷ []) ++ [] ≡ before ++ Fault ∷ [] = append-nil (before ++ Fault ∷ []) in
    rw none (ap (λ (all : List Heard). Some all)
    (ap (λ (all : List Heard). all ++ []) one ∙ left ∙ ap (λ (all : List Heard). all ++ Fault ∷ []) (sym right)))

-- what is told after one that the inner ear answers
pub told-passed : (fails : List ℕ) (calls ends : ℕ) (before after : Option (List Heard)) (entry : Heard)
    → is_listed fails calls ≡ false → IsInStep fails calls before
    → after ≡ told_then before (entry ∷ []) → ends ≡ 0
    → answers_told fails (calls + 1) ends after ≡ told_then (answers_told fails calls ends before) (entry ∷ [])
told-passed fails calls ends None after entry unlisted was told none = rw told refl
told-passed fails calls ends (Some said) after entry unlisted was told none =
    let counted = was said refl in
    let below = listed_below fails calls in
    let kept = answers_of fails said calls in
    let front : answers_of fails (said ++ entry ∷ []) calls ≡ kept =
    answers_of-more fails said entry calls (omega (arith, counted)) in
    let place : calls - below ≡ length said = omega (arith, counted) in
    let seam : get_or (said ++ entry ∷ []) (length said) End ≡ entry = get_or-append_seam said entry [] End in
    let last : answer_at fails (said ++ entry ∷ []) calls ≡ entry = rw (unlisted, place) seam in
    let one : answers_of fails (said ++ entry ∷ []) (calls + 1) ≡ kept ++ entry ∷ [] =
    rw (add-one calls, front, last) refl in
    let right : kept ++ [] ≡ kept = append-nil kept in
    let left : (kept ++ entry ∷ []) ++ [] ≡ kept ++ entry ∷ [] = append-nil (kept ++ entry ∷ []) in
    rw (told, none) (ap (λ (all : List Heard). Some all)
    (ap (λ (all : List Heard). all ++ []) one ∙ left ∙ ap (λ (all : List Heard). all ++ entry ∷ []) (sym right)))

-- what is told after a call behind the last that has a number
pub told-over : (fails : List ℕ) (calls ends : ℕ) (inner : Option (List Heard))
    → (EndsPastCount (answers_told fails calls ends inner) → ⊥)
    → answers_told fails calls (next_number ends) inner
    ≡ told_then (answers_told fails calls ends inner) (End ∷ [])
told-over fails calls ends None counts = refl
told-over fails calls ends (Some said) counts = elim (cases_lt ends (2 ^ 64 - 1)) [
  | inl below ↦
      let front = answers_of fails said calls in
      let e : min (ends + 1) (2 ^ 64 - 1) ≡ ends + 1 = omega (arith, below) in
      let more : replicate (ends + 1) End ≡ replicate ends End ++ End ∷ [] =
      sym (replicate-append-replicate ends 1 End) in
      rw (e, more) (ap (λ (all : List Heard). Some all) (sym (append_assoc front (replicate ends End) (End ∷ []))))
  | inr full ↦ absurd (counts (answers_of fails said calls, ends, full, refl))
]

-- the count of faults after a call, by what the call adds to the two counts that it is the sum of
pub risen-own : (own inner : ℕ)
    → HasRisen (min (own + inner) (2 ^ 64 - 1)) (min (min (own + 1) (2 ^ 64 - 1) + inner) (2 ^ 64 - 1))
risen-own own inner = omega arith

pub counted-own : (own inner : ℕ)
    → min (own + inner) (2 ^ 64 - 1) ≤ min (min (own + 1) (2 ^ 64 - 1) + inner) (2 ^ 64 - 1)
counted-own own inner = omega arith

pub risen-inner : (own before after : ℕ) → HasRisen before after
    → HasRisen (min (own + before) (2 ^ 64 - 1)) (min (own + after) (2 ^ 64 - 1))
risen-inner own before after h = omega (arith, h)

pub counted-inner : (own before after : ℕ) → before ≤ after
    → min (own + before) (2 ^ 64 - 1) ≤ min (own + after) (2 ^ 64 - 1)
counted-inner own before after h = omega (arith, h)

-- an End is no Fault
end_is_no_fault : (answer : Heard) → answer ≡ End → answer ≡ Fault → ⊥
end_is_no_fault answer ends fails = cc

module _ {E L : Type 0} (told : E → EarTold L) (old : FaultyKept E) where
  -- a call behind the last that has a number
  pub answered-over : 2 ^ 64 - 1 ≤ old.calls
      → IsAnswered told old End (record old { ends = next_number old.ends })
  answered-over full = record {
    numbered = λ few. absurd (omega (arith, few, full));
    past = λ _. record { answer_is = refl; after = refl };
  }

  -- a call that is listed
  pub answered-listed : old.calls < 2 ^ 64 - 1 → is_listed old.fails old.calls ≡ true
      → IsAnswered told old Fault
      (record old { calls = old.calls + 1; faults = next_number old.faults })
  answered-listed few listed = record {
    numbered = λ _. inl (record { listed = listed; answer_is = refl; after = refl });
    past = λ full. absurd (omega (arith, few, full));
  }

  -- and one that is not, which the inner ear answers
  pub answered-passed : (inner : E) (answer : Heard)
      → old.calls < 2 ^ 64 - 1 → is_listed old.fails old.calls ≡ false
      → (told inner).heard ≡ told_then (told old.inner).heard (answer ∷ [])
      → (told old.inner).faults ≤ (told inner).faults
      → (answer ≡ Fault → HasRisen (told old.inner).faults (told inner).faults)
      → (answer ≢ Fault → (told inner).faults ≡ (told old.inner).faults)
      → (told inner).device ≡ (told old.inner).device
      → IsAnswered told old answer (record old { inner = inner; calls = old.calls + 1 })
  answered-passed inner answer few unlisted said counted fault no_fault same_device = record {
    numbered = λ _. inr (record {
      unlisted = unlisted;
      after = refl;
      said = said;
      counted = counted;
      fault = fault;
      no_fault = no_fault;
      same_device = same_device;
    });
    past = λ full. absurd (omega (arith, few, full));
  }

  -- what a call adds to what is told
  pub heard-answered : (answer : Heard) (new : FaultyKept E) → IsAnswered told old answer new
      → IsInStep old.fails old.calls (told old.inner).heard → (old.calls < 2 ^ 64 - 1 → old.ends ≡ 0)
      → (EndsPastCount (faulty_told told old).heard → ⊥)
      → (faulty_told told new).heard ≡ told_then (faulty_told told old).heard (answer ∷ [])
  heard-answered answer new h in_step last counts = elim (cases_lt old.calls (2 ^ 64 - 1)) [
    | inl few ↦ elim (h.numbered few) [
      | inl failed ↦ ap (λ (ear : FaultyKept E). (faulty_told told ear).heard) failed.after
          ∙ (told-listed old.fails old.calls old.ends (told old.inner).heard failed.listed (last few)
          ∙ ap (λ (a : Heard). told_then (faulty_told told old).heard (a ∷ [])) (sym failed.answer_is))
      | inr passed ↦ ap (λ (ear : FaultyKept E). (faulty_told told ear).heard) passed.after
          ∙ told-passed old.fails old.calls old.ends (told old.inner).heard (told new.inner).heard answer
          passed.unlisted in_step passed.said (last few)
    ]
    | inr full ↦
        let over = h.past full in
        ap (λ (ear : FaultyKept E). (faulty_told told ear).heard) over.after
        ∙ (told-over old.fails old.calls old.ends (told old.inner).heard counts
        ∙ ap (λ (a : Heard). told_then (faulty_told told old).heard (a ∷ [])) (sym over.answer_is))
  ]

  -- and to the count of faults
  pub counted-answered : (answer : Heard) (new : FaultyKept E) → IsAnswered told old answer new
      → (faulty_told told old).faults ≤ (faulty_told told new).faults
  counted-answered answer new h = elim (cases_lt old.calls (2 ^ 64 - 1)) [
    | inl few ↦ elim (h.numbered few) [
      | inl failed ↦
          let e = ap (λ (ear : FaultyKept E). (faulty_told told ear).faults) failed.after in
          rw e (counted-own old.faults (told old.inner).faults)
      | inr passed ↦
          let e = ap (λ (ear : FaultyKept E). (faulty_told told ear).faults) passed.after in
          rw e (counted-inner old.faults (told old.inner).faults (told new.inner).faults passed.counted)
    ]
    | inr full ↦ let e = ap (λ (ear : FaultyKept E). (faulty_told told ear).faults) (h.past full).after in rw e (omega arith)
  ]

  pub fault-answered : (answer : Heard) (new : FaultyKept E) → IsAnswered told old answer new
      → answer ≡ Fault → HasRisen (faulty_told told old).faults (faulty_told told new).faults
  fault-answered answer new h fault = elim (cases_lt old.calls (2 ^ 64 - 1)) [
    | inl few ↦ elim (h.numbered few) [
      | inl failed ↦
          let e = ap (λ (ear : FaultyKept E). (faulty_told told ear).faults) failed.after in
          rw e (risen-own old.faults (told old.inner).faults)
      | inr passed ↦
          let e = ap (λ (ear : FaultyKept E). (faulty_told told ear).faults) passed.after in
          rw e (risen-inner old.faults (told old.inner).faults (told new.inner).faults (passed.fault fault))
    ]
    | inr full ↦ absurd (end_is_no_fault answer (h.past full).answer_is fault)
  ]

  pub no_fault-answered : (answer : Heard) (new : FaultyKept E) → IsAnswered told old answer new
      → answer ≢ Fault → (faulty_told told new).faults ≡ (faulty_told told old).faults
  no_fault-answered answer new h differs = elim (cases_lt old.calls (2 ^ 64 - 1)) [
    | inl few ↦ elim (h.numbered few) [
      | inl failed ↦ absurd (differs failed.answer_is)
      | inr passed ↦ ap (λ (ear : FaultyKept E). (faulty_told told ear).faults) passed.after
          ∙ ap (λ (count : ℕ). min (old.faults + count) (2 ^ 64 - 1)) (passed.no_fault differs)
    ]
    | inr full ↦ ap (λ (ear : FaultyKept E). (faulty_told told ear).faults) (h.past full).after
  ]
