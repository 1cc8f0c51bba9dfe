-- Whom a claim waits for: each member that its peer was before has left, and its leaving was noted.
use Rattle.std.proofs.Common.{◌≡◌, ◌==◌, ◌&&◌, ◌⊎◌, ℕ, zero, suc, ◌+◌, ◌<◌, ◌≤◌, Bool, true, false, cond, List, [], ◌∷◌, ◌++◌, length, map, take, count_by, slice_get, Contains, refl, ap, sym, subst, ◌∙◌, inl, inr, arith, Some}
use Rattle.std.specs.List.{flat_map, list_any, range_with_len}
use Rattle.std.proofs.lemmas.Bool.{and_parts, and_from, cases_lt, eq-eqb, eqb-true, false≢true, or_parts}
use Rattle.std.proofs.lemmas.List.{length-append, take-append-le}
use Rattle.std.proofs.lemmas.Option.{none-some, same_Some, slice_get-get_or}
use Rattle.std.proofs.lemmas.List.Elements.{Contains-append_left, Contains-append_right, Contains-append_cases}
use Rattle.std.proofs.lemmas.List.Sums.{sum_by-append}
use Rattle.m17_lists.proofs.Lengths.{one_more_is_one_longer}
use Rattle.m17_lists.proofs.Ranges.{one_number_more, same_at_each_number}
use Rattle.m17_values.specs.declared.member.Member.{Member}
use Rattle.m17_values.specs.declared.peer.Peer.{Peer}
use Rattle.m17_directory.specs.declared.known.Departed.{Departed}
use Rattle.m17_directory.specs.Entries.{Notice, Claim, Entry, Setup, notice_at, claim_at, is_peer, is_from}
use Rattle.m17_directory.specs.Routed.{past_at, asks_at, unclaimed_at, outcome_at}
use Rattle.m17_directory.specs.StandsFor.{departed_of, has_departing}
use Rattle.m17_directory.specs.Laws.{ClaimsAreAsked, joined_by, joined_before, left_before, is_of_peer}
use Rattle.m17_receiver.specs.Devices.{IsCounted}
use Rattle.m17_receiver.specs.Claims.{IsGreetedAfter, AreOfOnePeer}
use Rattle.m17_receiver.specs.SoFar.{Laws, AreGone, past_with}
use Rattle.m17_receiver.proofs.Positions.{notice_before, notice_end, claim_before, claim_end, claim_within_more}

-- more notes
take_kept : (notes more : List Member) (n : ℕ) → n ≤ length notes → take n (notes ++ more) ≡ take n notes
take_kept notes more n l = take-append-le n notes more l

pub greeted_notes : (entries : List Entry) (notes more : List Member) → IsGreetedAfter entries notes → IsGreetedAfter entries (notes ++ more)
greeted_notes entries notes more was = record {
  enough = λ n claim has. omega (arith, was.enough n claim has, length-append notes more);
  earlier = λ counted i n first second l has has' same.
      subst (λ ms. Contains ms first.member) (sym (take_kept notes more second.after (was.enough n second has')))
      (was.earlier (omega (arith, counted, length-append notes more)) i n first second l has has' same);
}

pub gone_noted : (gone departing departing' : List Departed) (notes more : List Member) → AreGone gone departing notes →
    ((d : Departed) → Contains departing d → Contains departing' d ⊎ Contains more d.member) → AreGone gone departing' (notes ++ more)
gone_noted gone departing departing' notes more was noted d in_it = elim (was d in_it) [
  | inl still ↦ elim (noted d still) [ inl here ↦ inl here | inr now ↦ inr (Contains-append_right notes more d.member now) ]
  | inr before ↦ inr (Contains-append_left notes more d.member before)
]

-- more that leave are departing
pub gone_left : (gone left departing : List Departed) (notes : List Member) → AreGone gone departing notes → AreGone (gone ++ left) (departing ++ left) notes
gone_left gone left departing notes was d in_it = elim (Contains-append_cases gone left d in_it) [
  | inl before ↦ elim (was d before) [ inl still ↦ inl (Contains-append_left departing left d still) | inr noted ↦ inr noted ]
  | inr now ↦ inl (Contains-append_right departing left d now)
]

left_same : Laws → (setup : Setup) (entries : List Entry) (e : Entry) → left_before setup (entries ++ e ∷ []) (length entries) ≡ left_before setup entries (length entries)
unfolding left_before
left_same law setup entries e =
    same_at_each_number (λ i. map departed_of (outcome_at setup (entries ++ e ∷ []) i).left) (λ i. map departed_of (outcome_at setup entries i).left) 0 (length entries)
    (λ i l. ap (λ o. map departed_of o.left) (law.later setup entries (e ∷ []) i (omega arith)))

-- who has left by one entry more
pub left_more : Laws → (setup : Setup) (entries : List Entry) (e : Entry) →
    left_before setup (entries ++ e ∷ []) (length (entries ++ e ∷ [])) ≡ left_before setup entries (length entries) ++ map departed_of (outcome_at setup (entries ++ e ∷ []) (length entries)).left
unfolding left_before
left_more law setup entries e =
    let f : ℕ → List Departed = λ i. map departed_of (outcome_at setup (entries ++ e ∷ []) i).left in
    ap (λ m. flat_map f (range_with_len 0 m)) (one_more_is_one_longer entries e)
    ∙ one_number_more f (length entries)
    ∙ ap (λ ds. ds ++ f (length entries)) (left_same law setup entries e)

pub left_none : (setup : Setup) → left_before setup [] 0 ≡ []
unfolding left_before
left_none setup = refl

-- counting
count_both : (p : Departed → Bool) (xs ys : List Departed) → count_by p (xs ++ ys) ≡ count_by p xs + count_by p ys
count_both p xs ys = sum_by-append (λ x. cond (p x) 1 0) xs ys

count_first : (p : Departed → Bool) (y : Departed) (ys : List Departed) → count_by p (y ∷ ys) ≡ cond (p y) 1 0 + count_by p ys
count_first p y ys = (let e : count_by p ((y ∷ []) ++ ys) ≡ count_by p (y ∷ []) + count_by p ys = count_both p (y ∷ []) ys in e) ∙ ap (λ n. n + count_by p ys) (let one : count_by p (y ∷ []) ≡ cond (p y) 1 0 = omega arith in one)

found_by : (p : Departed → Bool) (y : Departed) (ys : List Departed) (b : Bool) → p y ≡ b → 1 ≤ count_by p (y ∷ ys) → (1 ≤ count_by p ys → (d : Departed) × Contains ys d × (p d ≡ true)) → (d : Departed) × Contains (y ∷ ys) d × (p d ≡ true)
found_by p y ys true is some rest = (y, Contains-append_left (y ∷ []) ys y (0, omega arith, refl), is)
found_by p y ys false is some rest =
    let more : 1 ≤ cond false 1 0 + count_by p ys = subst (λ b. 1 ≤ cond b 1 0 + count_by p ys) is (subst (λ n. 1 ≤ n) (count_first p y ys) some) in
    let d = rest (omega (arith, more)) in (d.0, Contains-append_right (y ∷ []) ys d.0 d.1, d.2)

pub found : (p : Departed → Bool) (xs : List Departed) → 1 ≤ count_by p xs → (d : Departed) × Contains xs d × (p d ≡ true)
found p [] some = absurd (omega arith)
found p (y ∷ ys) some = found_by p y ys (p y) refl some (found p ys)

-- what fails at each of a list fails at one that is in it
fails_at : (p : Departed → Bool) (xs : List Departed) → list_any p xs ≡ false → (k : ℕ) (d : Departed) → k < length xs → slice_get xs k ≡ Some d → p d ≡ true → ⊥
fails_at p [] none k d l is fits = absurd (omega arith)
fails_at p (x ∷ xs) none zero d l is fits = false≢true (sym (or_parts (p x) (list_any p xs) none).0 ∙ ap p (same_Some x d is) ∙ fits)
fails_at p (x ∷ xs) none (suc k) d l is fits = fails_at p xs (or_parts (p x) (list_any p xs) none).1 k d (omega arith) is fits

not_in : (p : Departed → Bool) (xs : List Departed) → list_any p xs ≡ false → (d : Departed) → Contains xs d → p d ≡ true → ⊥
not_in p xs none d in_it fits = fails_at p xs none in_it.0 d in_it.1 (slice_get-get_or xs in_it.0 d in_it.1 ∙ ap (λ x. Some x) in_it.2) fits

-- who joined
joined_more : (setup : Setup) (entries : List Entry) (n : ℕ) → joined_before setup entries (suc n) ≡ joined_before setup entries n ++ cond (asks_at (past_at setup entries n)) (joined_by (notice_at entries n) (claim_at entries n)) []
unfolding joined_before
joined_more setup entries n = one_number_more (λ i. cond (asks_at (past_at setup entries i)) (joined_by (notice_at entries i) (claim_at entries i)) []) n

joined_here : (setup : Setup) (entries : List Entry) (n : ℕ) (p : Departed → Bool) (d : Departed) → asks_at (past_at setup entries n) ≡ true → joined_by (notice_at entries n) (claim_at entries n) ≡ d ∷ [] → p d ≡ true → 1 ≤ count_by p (joined_before setup entries (suc n))
joined_here setup entries n p d asks joins fits =
    let here : cond (asks_at (past_at setup entries n)) (joined_by (notice_at entries n) (claim_at entries n)) [] ≡ d ∷ [] = ap (λ b. cond b (joined_by (notice_at entries n) (claim_at entries n)) []) asks ∙ joins in
    let one : count_by p (d ∷ []) ≡ 1 = ap (λ b. 0 + cond b 1 0) fits in
    let all : count_by p (joined_before setup entries (suc n)) ≡ count_by p (joined_before setup entries n) + count_by p (d ∷ []) =
    ap (count_by p) (joined_more setup entries n ∙ ap (λ ds. joined_before setup entries n ++ ds) here) ∙ count_both p (joined_before setup entries n) (d ∷ []) in
    omega (arith, all, one)

joined_later : (setup : Setup) (entries : List Entry) (p : Departed → Bool) (i n : ℕ) → 1 ≤ count_by p (joined_before setup entries i) → i ≤ n → 1 ≤ count_by p (joined_before setup entries n)
joined_later setup entries p i zero some l = subst (λ m. 1 ≤ count_by p (joined_before setup entries m)) (let e : i ≡ zero = omega arith in e) some
joined_later setup entries p i (suc n) some l = elim (cases_lt n i) [
  | inl now ↦ subst (λ m. 1 ≤ count_by p (joined_before setup entries m)) (let e : i ≡ suc n = omega arith in e) some
  | inr later ↦
      let before = joined_later setup entries p i n some later in
      let all : count_by p (joined_before setup entries (suc n)) ≡ count_by p (joined_before setup entries n) + count_by p (cond (asks_at (past_at setup entries n)) (joined_by (notice_at entries n) (claim_at entries n)) []) =
      ap (count_by p) (joined_more setup entries n) ∙ count_both p (joined_before setup entries n) _ in
      omega (arith, all, before)
]

-- the member
abbrev same_member : Member → Member → Bool
same_member a b = a.place == b.place && a.generation == b.generation

same_itself : (m : Member) → same_member m m ≡ true
same_itself m = and_from (m.place == m.place) (m.generation == m.generation) (eq-eqb m.place m.place refl) (eq-eqb m.generation m.generation refl)

member_is : (a b : Member) → same_member a b ≡ true → a ≡ b
member_is a b e =
    let parts = and_parts (a.place == b.place) (a.generation == b.generation) e in
    ap (λ (q : ℕ). let m : Member = record { place = q; generation = a.generation } in m) (eqb-true a.place b.place parts.0)
    ∙ ap (λ (g : ℕ). let m : Member = record { place = b.place; generation = g } in m) (eqb-true a.generation b.generation parts.1)

-- a claim's entry asks, and its peer joins
joins_as : (notice : Notice) (x : Peer) (claim : Claim) → is_from x notice ≡ true → (d : Departed) × (joined_by notice (Some claim) ≡ d ∷ []) × (d.member ≡ claim.member) × (is_peer x d.peer ≡ true)
joins_as (Notice.Sent from at p) x claim is = (record { member = claim.member; peer = from }, refl, refl, is)
joins_as (Notice.Garbled from at refusal) x claim is = absurd (false≢true is)
joins_as (Notice.Quiet at) x claim is = absurd (false≢true is)
joins_as Notice.Fault x claim is = absurd (false≢true is)
joins_as Notice.End x claim is = absurd (false≢true is)

asks_by : (setup : Setup) (entries : List Entry) (n : ℕ) (claim : Claim) (b : Bool) → asks_at (past_at setup entries n) ≡ b → ClaimsAreAsked setup entries → n < length entries → claim_at entries n ≡ Some claim → b ≡ true
asks_by setup entries n claim true is asked l has = refl
asks_by setup entries n claim false is asked l has = absurd (none-some claim (sym (asked n l is) ∙ has))

-- Where no member of its peer is departing, each earlier member of the peer was noted.
pub each_noted : Laws → (setup : Setup) (entries : List Entry) (e : Entry) (departing : List Departed) (notes : List Member) (x : Peer) →
    ClaimsAreAsked setup (entries ++ e ∷ []) → asks_at (past_with setup entries e) ≡ true → has_departing x departing ≡ false →
    AreGone (left_before setup entries (length entries) ++ map departed_of (unclaimed_at (past_with setup entries e)).left) departing notes →
    (i : ℕ) (first : Claim) → i < length entries → claim_at entries i ≡ Some first → is_from x (notice_at entries i) ≡ true → is_from x e.notice ≡ true →
    Contains notes first.member
each_noted law setup entries e departing notes x asked asks none gone i first l has from from' =
    let longer : List Entry = entries ++ e ∷ [] in
    let n : ℕ = length entries in
    let size : length longer ≡ suc n = one_more_is_one_longer entries e in
    let has_it : claim_at longer i ≡ Some first = claim_before entries e i l ∙ has in
    let from_it : is_from x (notice_at longer i) ≡ true = ap (is_from x) (notice_before entries e i l) ∙ from in
    let from_last : is_from x (notice_at longer n) ≡ true = ap (is_from x) (notice_end entries e) ∙ from' in
    let its_asks : asks_at (past_at setup longer i) ≡ true = (let b : asks_at (past_at setup longer i) ≡ true = asks_by setup longer i first (asks_at (past_at setup longer i)) refl asked (omega (arith, size, l)) has_it in b) in
    let test : Member → Bool = λ m. same_member m first.member in
    let p : Departed → Bool = is_of_peer x test in
    let who = joins_as (notice_at longer i) x first from_it in
    let joins : joined_by (notice_at longer i) (claim_at longer i) ≡ who.0 ∷ [] = ap (joined_by (notice_at longer i)) has_it ∙ who.1 in
    let fits : p who.0 ≡ true = and_from (is_peer x who.0.peer) (test who.0.member) who.3 (ap test who.2 ∙ same_itself first.member) in
    let joined : 1 ≤ count_by p (joined_before setup longer n) = joined_later setup longer p (suc i) n (joined_here setup longer i p who.0 its_asks joins fits) (omega arith) in
    let same : count_by p (joined_before setup longer n) ≡ count_by p (left_before setup longer n ++ map departed_of (unclaimed_at (past_at setup longer n)).left) =
    law.people.asking setup longer n x test asked (omega (arith, size)) asks from_last in
    let left : 1 ≤ count_by p (left_before setup longer n ++ map departed_of (unclaimed_at (past_at setup longer n)).left) = omega (arith, joined, same) in
    let d = found p (left_before setup longer n ++ map departed_of (unclaimed_at (past_at setup longer n)).left) left in
    let there : Contains (left_before setup entries n ++ map departed_of (unclaimed_at (past_with setup entries e)).left) d.0 =
    subst (λ ds. Contains (ds ++ map departed_of (unclaimed_at (past_with setup entries e)).left) d.0) (left_same law setup entries e) d.1 in
    let parts = and_parts (is_peer x d.0.peer) (test d.0.member) d.2 in
    elim (gone d.0 there) [
      | inl still ↦ absurd (not_in (λ y. is_peer x y.peer) departing none d.0 still parts.0)
      | inr noted ↦ subst (Contains notes) (member_is d.0.member first.member parts.1) noted
    ]

pub greeted_none : (notes : List Member) → IsGreetedAfter [] notes
greeted_none notes = record {
  enough = λ n claim has. absurd (none-some claim has);
  earlier = λ _ i n first second l has has' same. absurd (none-some first has);
}

-- one entry more
pub greeted_more : (entries : List Entry) (e : Entry) (notes : List Member) → IsGreetedAfter entries notes →
    ((claim : Claim) → e.claim ≡ Some claim → claim.after ≤ length notes) →
    (IsCounted notes → (i : ℕ) (first second : Claim) → i < length entries → claim_at entries i ≡ Some first → e.claim ≡ Some second →
    AreOfOnePeer (notice_at entries i) e.notice → Contains (take second.after notes) first.member) →
    IsGreetedAfter (entries ++ e ∷ []) notes
greeted_more entries e notes was enough earlier = record {
  enough = λ n claim has. elim (cases_lt n (length entries)) [
    | inl before ↦ was.enough n claim (sym (claim_before entries e n before) ∙ has)
    | inr past ↦ enough claim (sym (claim_end entries e) ∙ ap (claim_at (entries ++ e ∷ [])) (let at : length entries ≡ n = omega (arith, past, claim_within_more entries e n claim has) in at) ∙ has)
  ];
  earlier = λ counted i n first second l has has' same. elim (cases_lt n (length entries)) [
    | inl before ↦ was.earlier counted i n first second l (sym (claim_before entries e i (omega arith)) ∙ has) (sym (claim_before entries e n before) ∙ has')
        (same.0, ap (is_from same.0) (sym (notice_before entries e i (omega arith))) ∙ same.1, ap (is_from same.0) (sym (notice_before entries e n before)) ∙ same.2)
    | inr past ↦
        let at : length entries ≡ n = omega (arith, past, claim_within_more entries e n second has') in
        earlier counted i first second (omega (arith, at, l)) (sym (claim_before entries e i (omega (arith, at, l))) ∙ has)
        (sym (claim_end entries e) ∙ ap (claim_at (entries ++ e ∷ [])) at ∙ has')
        (same.0, ap (is_from same.0) (sym (notice_before entries e i (omega (arith, at, l)))) ∙ same.1, ap (is_from same.0) (sym (notice_end entries e) ∙ ap (notice_at (entries ++ e ∷ [])) at) ∙ same.2)
  ];
}
