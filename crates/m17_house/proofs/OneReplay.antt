-- A plan and what was heard have one replay at most.
use Rattle.std.proofs.Common.{◌≡◌, ◌&&◌, ℕ, zero, suc, ◌<◌, ◌≤◌, Bool, true, false, List, [], ◌∷◌, ◌++◌, length, take, slice_get, nat_lt, Option, None, Some, MatchBool, inl, inr, refl, ap, sym, subst, ◌∙◌, arith}
use Rattle.std.specs.List.{AllByRecursion}
use Rattle.std.specs.Option.{option_and_then}
use Rattle.std.proofs.lemmas.List.{take_all}
use Rattle.std.proofs.lemmas.Bool.{cases_lt, false≢true}
use Rattle.std.proofs.lemmas.Option.{same_Some}
use Rattle.m17_lists.proofs.Places.{same_fronts_same_places}
use Rattle.m17_values.specs.declared.heard.Heard.{Heard}
use Rattle.m17_directory.specs.declared.known.Known.{Known}
use Rattle.m17_directory.specs.Entries.{Claim, Entry, Notice, Says, SaysEach, notice_of, notice_at, claim_at, ends_at}
use Rattle.m17_directory.specs.Known.{Past, is_of_place}
use Rattle.m17_directory.specs.Routed.{past_at, unclaimed_at, others_at, asks_at, is_asks}
use Rattle.m17_directory.specs.Laws.{EntriesBeforeDecide, EndedWhereItEnds, EachEntrySaysOneThing, HasBytes, is_ended}
use Rattle.m17_plan.specs.declared.plan.Plan.{Plan}
use Rattle.m17_house.specs.Replay.{IsLeastFree, IsFreeClaim, IsReplayOf, given_before}
use Rattle.m17_plan.specs.Planned.{setup_of}
use Rattle.m17_house.specs.Laws.{OneReplay}
use Rattle.m17_house.proofs.Chosen.{count_range}

-- What was heard says one thing.
pub says_one : EachEntrySaysOneThing → (h : Heard) (a b : Notice) → HasBytes h → Says h a → Says h b → a ≡ b
says_one law h a b is sa sb =
    let one = law h is in
    one.2 a sa ∙ sym (one.2 b sb)

-- what one entry of a replay says, of what was heard
pub says_there : (front rest : List Heard) (entries : List Entry) (n : ℕ) → SaysEach front entries → n < length entries → (h : Heard) × (slice_get (front ++ rest) n ≡ Some h) × Says h (notice_at entries n)
says_there [] rest [] n each below = absurd (omega arith)
says_there [] rest (e ∷ entries) n each below = absurd each
says_there (h ∷ front) rest [] n each below = absurd each
says_there (h ∷ front) rest (e ∷ entries) zero each below = (h, refl, each.0)
says_there (h ∷ front) rest (e ∷ entries) (suc n) each below = says_there front rest entries n each.1 (omega arith)

pub bytes_there : (all : List Heard) (n : ℕ) (h : Heard) → AllByRecursion HasBytes all → slice_get all n ≡ Some h → HasBytes h
bytes_there [] n h are is = cc
bytes_there (g ∷ all) zero h are is = subst HasBytes (same_Some g h is) are.0
bytes_there (g ∷ all) (suc n) h are is = bytes_there all n h are.1 is

-- one element more of both fronts
take_next : {A : Type 0} (xs : List A) (n : ℕ) (x : A) → slice_get xs n ≡ Some x → take (suc n) xs ≡ take n xs ++ x ∷ []
take_next [] n x is = cc
take_next (y ∷ xs) zero x is = ap (λ z. z ∷ []) (same_Some y x is)
take_next (y ∷ xs) (suc n) x is = ap (λ zs. y ∷ zs) (take_next xs n x is)

entry_there : (entries : List Entry) (n : ℕ) → n < length entries → (e : Entry) × (slice_get entries n ≡ Some e)
entry_there [] n below = absurd (omega arith)
entry_there (e ∷ entries) zero below = (e, refl)
entry_there (e ∷ entries) (suc n) below = entry_there entries n (omega arith)

-- a least free place is one
least_one : (rows : List Known) (p q : ℕ) → IsLeastFree rows p → IsLeastFree rows q → p ≡ q
least_one rows p q a b =
    elim (cases_lt p q) [
      | inl below ↦ absurd (false≢true (sym a.free ∙ b.least p below))
      | inr not_below ↦
          elim (cases_lt q p) [
            | inl below ↦ absurd (false≢true (sym b.free ∙ a.least q below))
            | inr other ↦ omega arith
          ]
    ]

made : ℕ → ℕ → ℕ → Claim
made place generation after = record { member = record { place = place; generation = generation }; after = after }

claim_one : (a b : Claim) → a.member.place ≡ b.member.place → a.member.generation ≡ b.member.generation → a.after ≡ b.after → a ≡ b
unfolding made
claim_one a b place generation after =
    ap (λ p. made p a.member.generation a.after) place ∙ ap (λ g. made b.member.place g a.after) generation ∙ ap (made b.member.place b.member.generation) after

same_entry : (a b : Entry) → a.notice ≡ b.notice → a.claim ≡ b.claim → a ≡ b
same_entry a b notice claim =
    let make : Notice → Option Claim → Entry = λ n c. record { notice = n; claim = c } in
    ap (λ n. make n a.claim) notice ∙ ap (make b.notice) claim

given_one : (one other : List Entry) (place n : ℕ) → take n one ≡ take n other → given_before one place n ≡ given_before other place n
given_one one other place n same =
    count_range (λ i. is_of_place place (claim_at one i)) (λ i. is_of_place place (claim_at other i)) 0 n
    (λ i below. ap (λ o. is_of_place place (option_and_then (λ (entry : Entry). entry.claim) o)) (same_fronts_same_places one other n same i (omega arith)))

free_one : (rows : List Known) (one other : List Entry) (n : ℕ) (a b : Option Claim) → take n one ≡ take n other → IsFreeClaim rows one n a → IsFreeClaim rows other n b → a ≡ b
free_one rows one other n a b same fa fb =
    let place : fa.it.member.place ≡ fb.it.member.place = least_one rows fa.it.member.place fb.it.member.place fa.place fb.place in
    fa.is_it ∙ ap Some (claim_one fa.it fb.it place (fa.generation ∙ ap (λ p. given_before one p n) place ∙ given_one one other fb.it.member.place n same ∙ sym fb.generation) (fa.after ∙ sym fb.after)) ∙ sym fb.is_it

choice_one : (rows : List Known) (one other : List Entry) (n : ℕ) (a b : Option Claim) (t : Bool) → take n one ≡ take n other → MatchBool t (IsFreeClaim rows one n a) (a ≡ None) → MatchBool t (IsFreeClaim rows other n b) (b ≡ None) → a ≡ b
choice_one rows one other n a b true same fa fb = free_one rows one other n a b same fa fb
choice_one rows one other n a b false same na nb = na ∙ sym nb

module _ (reading : EachEntrySaysOneThing) (law : EntriesBeforeDecide) (ends : EndedWhereItEnds) (plan : Plan) (heard : List Heard) (are : AllByRecursion HasBytes heard) (one other : List Entry) (r : IsReplayOf plan heard one) (s : IsReplayOf plan heard other) where
  notice_one : (n : ℕ) → n < length one → n < length other → notice_at one n ≡ notice_at other n
  notice_one n below within =
      let x = says_there r.front r.rest one n r.says below in
      let y = says_there s.front s.rest other n s.says within in
      let hx : slice_get heard n ≡ Some x.0 = ap (λ hs. slice_get hs n) r.heard_is ∙ x.1 in
      let hy : slice_get heard n ≡ Some y.0 = ap (λ hs. slice_get hs n) s.heard_is ∙ y.1 in
      let same : y.0 ≡ x.0 = same_Some y.0 x.0 (sym hy ∙ hx) in
      says_one reading x.0 (notice_at one n) (notice_at other n) (bytes_there heard n x.0 are hx) x.2 (subst (λ (h : Heard). Says h (notice_at other n)) same y.2)

  chosen_one : (n : ℕ) → take n one ≡ take n other → notice_at one n ≡ notice_at other n → n < length one → n < length other → claim_at one n ≡ claim_at other n
  chosen_one n same notices below within =
      let heards : unclaimed_at (past_at (setup_of plan) other n) ≡ unclaimed_at (past_at (setup_of plan) one n) = sym (law.heard (setup_of plan) one other n same notices) in
      let rows : others_at (past_at (setup_of plan) other n) ≡ others_at (past_at (setup_of plan) one n) = sym (law.others (setup_of plan) one other n same notices) in
      let past : Past = past_at (setup_of plan) one n in
      let there : MatchBool (asks_at past && nat_lt (length (others_at past)) plan.places) (IsFreeClaim (others_at past) other n (claim_at other n)) (claim_at other n ≡ None) =
      subst (λ (xs : List Known). MatchBool (asks_at past && nat_lt (length xs) plan.places) (IsFreeClaim xs other n (claim_at other n)) (claim_at other n ≡ None)) rows
      (subst (λ (b : Bool). MatchBool (b && nat_lt (length (others_at (past_at (setup_of plan) other n))) plan.places) (IsFreeClaim (others_at (past_at (setup_of plan) other n)) other n (claim_at other n)) (claim_at other n ≡ None)) (ap (λ o. is_asks o.verdict) heards) (s.chosen n within)) in
      choice_one (others_at past) one other n (claim_at one n) (claim_at other n) (asks_at past && nat_lt (length (others_at past)) plan.places) same (r.chosen n below) there

  entry_one : (n : ℕ) → take n one ≡ take n other → n < length one → n < length other → take (suc n) one ≡ take (suc n) other
  entry_one n same below within =
      let x = entry_there one n below in
      let y = entry_there other n within in
      let notices : notice_at one n ≡ notice_at other n = notice_one n below within in
      let claims : claim_at one n ≡ claim_at other n = chosen_one n same notices below within in
      let notice : x.0.notice ≡ y.0.notice = sym (ap notice_of x.1) ∙ notices ∙ ap notice_of y.1 in
      let claim : x.0.claim ≡ y.0.claim = sym (ap (option_and_then (λ (entry : Entry). entry.claim)) x.1) ∙ claims ∙ ap (option_and_then (λ (entry : Entry). entry.claim)) y.1 in
      let entry : x.0 ≡ y.0 = same_entry x.0 y.0 notice claim in
      take_next one n x.0 x.1 ∙ ap (λ xs. xs ++ x.0 ∷ []) same ∙ ap (λ e. take n other ++ e ∷ []) entry ∙ sym (take_next other n y.0 y.1)

  fronts : (n : ℕ) → n ≤ length one → n ≤ length other → take n one ≡ take n other
  fronts zero below within = refl
  fronts (suc n) below within = entry_one n (fronts n (omega arith) (omega arith)) (omega arith) (omega arith)

  ends_one : (n : ℕ) → n < length one → n < length other → ends_at one n ≡ ends_at other n
  ends_one n below within =
      sym (ends (setup_of plan) one n)
      ∙ ap (λ o. is_ended o.verdict) (law.heard (setup_of plan) one other n (fronts n (omega arith) (omega arith)) (notice_one n below within))
      ∙ ends (setup_of plan) other n

  same_last : r.ends.last ≡ s.ends.last
  same_last =
      elim (cases_lt r.ends.last s.ends.last) [
        | inl below ↦ absurd (false≢true (sym (s.ends.not_before r.ends.last below) ∙ sym (ends_one r.ends.last (omega (arith, r.ends.is_last)) (omega (arith, s.ends.is_last))) ∙ r.ends.ends))
        | inr not_below ↦
            elim (cases_lt s.ends.last r.ends.last) [
              | inl below ↦ absurd (false≢true (sym (r.ends.not_before s.ends.last below) ∙ ends_one s.ends.last (omega (arith, r.ends.is_last)) (omega (arith, s.ends.is_last)) ∙ s.ends.ends))
              | inr other ↦ omega arith
            ]
      ]

  pub same_replay : one ≡ other
  same_replay =
      let len : length other ≡ length one = sym s.ends.is_last ∙ ap suc (sym same_last) ∙ r.ends.is_last in
      sym (take_all (length one) one (omega arith)) ∙ fronts (length one) (omega arith) (omega (arith, len)) ∙ take_all (length one) other (omega (arith, len))

pub one_replay : EachEntrySaysOneThing → EntriesBeforeDecide → EndedWhereItEnds → OneReplay
one_replay reading law ends plan heard one other are r s = same_replay reading law ends plan heard are one other r s
