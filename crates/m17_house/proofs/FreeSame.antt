-- The entries of two replays of what was heard say the same, and are as many.
use Rattle.std.proofs.Common.{◌≡◌, ℕ, zero, suc, ◌+◌, ◌-◌, ◌<◌, ◌≤◌, ◌&&◌, ◌||◌, Bool, List, [], ◌∷◌, length, map, slice_get, nat_le, Some, inl, inr, refl, ap, sym, subst, ◌∙◌, arith}
use Rattle.std.specs.List.{AllByRecursion, list_all, range_with_len}
use Rattle.std.proofs.lemmas.Bool.{cases_lt, cases_Bool, leb-true, false≢true}
use Rattle.std.proofs.lemmas.Option.{same_Some}
use Rattle.m17_values.specs.declared.heard.Heard.{Heard}
use Rattle.m17_directory.specs.Entries.{Entry, Says, notice_at, is_fault, is_end, most_faults, ends_at}
use Rattle.m17_directory.specs.Given.{SayTheSame}
use Rattle.m17_directory.specs.Laws.{EachEntrySaysOneThing, HasBytes}
use Rattle.m17_plan.specs.declared.plan.Plan.{Plan}
use Rattle.m17_house.specs.Free.{IsFreeReplayOf}
use Rattle.m17_house.proofs.OneReplay.{says_one, says_there, bytes_there}

all_same : (p q : ℕ → Bool) (from n : ℕ) → ((i : ℕ) → i < from + n → p i ≡ q i) → list_all p (range_with_len from n) ≡ list_all q (range_with_len from n)
all_same p q from zero h = refl
all_same p q from (suc n) h =
    ap (λ b. b && list_all p (range_with_len (from + 1) n)) (h from (omega arith))
    ∙ ap (λ b. q from && b) (all_same p q (from + 1) n (λ i l. h i (omega arith)))

-- the link ends alike where the same was said up to there
ends_alike : (a b : List Entry) (n : ℕ) → ((i : ℕ) → i < suc n → notice_at a i ≡ notice_at b i) → ends_at a n ≡ ends_at b n
unfolding ends_at
ends_alike a b n same =
    ap (λ y. is_end y || (nat_le most_faults (suc n) && list_all (λ i. is_fault (notice_at a i)) (range_with_len (suc n - most_faults) most_faults))) (same n (omega arith))
    ∙ ap (λ u. is_end (notice_at b n) || u) (elim (cases_Bool (nat_le most_faults (suc n))) [
      | inl e ↦
          let le : most_faults ≤ suc n = leb-true most_faults (suc n) e in
          ap (λ u. nat_le most_faults (suc n) && u) (all_same (λ i. is_fault (notice_at a i)) (λ i. is_fault (notice_at b i)) (suc n - most_faults) most_faults (λ i l. ap is_fault (same i (omega arith))))
      | inr e ↦
          ap (λ u. u && list_all (λ i. is_fault (notice_at a i)) (range_with_len (suc n - most_faults) most_faults)) e
          ∙ ap (λ u. u && list_all (λ i. is_fault (notice_at b i)) (range_with_len (suc n - most_faults) most_faults)) (sym e)
    ])

notices_same : (a b : List Entry) → length a ≡ length b → ((i : ℕ) → i < length a → notice_at a i ≡ notice_at b i) → SayTheSame a b
notices_same [] [] len same = refl
notices_same (x ∷ a) (y ∷ b) len same =
    ap (λ n. n ∷ map (λ (entry : Entry). entry.notice) a) (same 0 (omega arith))
    ∙ ap (λ ns. y.notice ∷ ns) (notices_same a b (omega arith) (λ i l. same (suc i) (omega arith)))
notices_same [] (y ∷ b) len same = absurd (omega arith)
notices_same (x ∷ a) [] len same = absurd (omega arith)

module _ (reading : EachEntrySaysOneThing) (plan : Plan) (heard : List Heard) (are : AllByRecursion HasBytes heard) (one other : List Entry) (r : IsFreeReplayOf plan heard one) (s : IsFreeReplayOf plan heard other) where
  notice_one : (n : ℕ) → n < length one → n < length other → notice_at one n ≡ notice_at other n
  notice_one n below within =
      let x = says_there r.front r.rest one n r.says below in
      let y = says_there s.front s.rest other n s.says within in
      let hx : slice_get heard n ≡ Some x.0 = ap (λ hs. slice_get hs n) r.heard_is ∙ x.1 in
      let hy : slice_get heard n ≡ Some y.0 = ap (λ hs. slice_get hs n) s.heard_is ∙ y.1 in
      let same : y.0 ≡ x.0 = same_Some y.0 x.0 (sym hy ∙ hx) in
      says_one reading x.0 (notice_at one n) (notice_at other n) (bytes_there heard n x.0 are hx) x.2 (subst (λ (h : Heard). Says h (notice_at other n)) same y.2)

  ends_one : (n : ℕ) → n < length one → n < length other → ends_at one n ≡ ends_at other n
  ends_one n below within = ends_alike one other n (λ i l. notice_one i (omega arith) (omega arith))

  same_last : r.ends.last ≡ s.ends.last
  same_last =
      elim (cases_lt r.ends.last s.ends.last) [
        | inl below ↦ absurd (false≢true (sym (s.ends.not_before r.ends.last below) ∙ sym (ends_one r.ends.last (omega (arith, r.ends.is_last)) (omega (arith, s.ends.is_last))) ∙ r.ends.ends))
        | inr not_below ↦
            elim (cases_lt s.ends.last r.ends.last) [
              | inl below ↦ absurd (false≢true (sym (r.ends.not_before s.ends.last below) ∙ ends_one s.ends.last (omega (arith, r.ends.is_last)) (omega (arith, s.ends.is_last)) ∙ s.ends.ends))
              | inr neither ↦ omega arith
            ]
      ]

  pub same_entries : SayTheSame one other
  same_entries =
      let len : length one ≡ length other = sym r.ends.is_last ∙ ap suc same_last ∙ s.ends.is_last in
      notices_same one other len (λ i l. notice_one i l (omega (arith, len)))
