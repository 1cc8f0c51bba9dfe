-- Just the places that are had are marked: who joins is, and who leaves is no more.
use Rattle.std.proofs.Common.{◌≡◌, ◌==◌, ◌&&◌, ◌||◌, ℕ, zero, suc, ◌+◌, ◌<◌, ◌≤◌, Bool, true, false, cond, List, [], ◌∷◌, ◌++◌, length, map, get_or, set, count_by, nat_eq, MatchBool, Option, None, Some, inl, inr, refl, ap, sym, subst, ◌∙◌, arith, get_or-set_same, get_or-set_other}
use Rattle.std.specs.List.{cons_option, filter_map, flat_map, list_any, range_with_len, AllByRecursion, IsDistinct}
use Rattle.std.specs.Option.{option_to_list}
use Rattle.std.proofs.lemmas.List.{append-nil, take-append-le, set_past, get_or_past}
use Rattle.std.proofs.lemmas.Grind.{flat_map-append}
use Rattle.std.proofs.lemmas.Bool.{cases_lt, cases_eq, eq-eqb, ne_eqb, false≢true}
use Rattle.m17_lists.proofs.Lengths.{one_more_is_one_longer}
use Rattle.m17_lists.proofs.Ranges.{range_ends_in_its_last}
use Rattle.m17_lists.proofs.Sums.{count_of_both, count_of_one}
use Rattle.m17_values.specs.declared.member.Member.{Member}
use Rattle.m17_directory.specs.declared.dispatch.Dispatch.{Dispatch}
use Rattle.m17_directory.specs.declared.known.Departed.{Departed}
use Rattle.m17_directory.specs.declared.known.Known.{Known}
use Rattle.m17_directory.specs.declared.known.Request.{Request}
use Rattle.m17_directory.specs.Entries.{Claim, Entry, Notice, Setup, notice_at, claim_at}
use Rattle.m17_directory.specs.Known.{Past, now, known_at, request_in}
use Rattle.m17_directory.specs.Outcome.{Outcome, has_place}
use Rattle.m17_directory.specs.Routed.{past_at, asks_at, is_asks, unclaimed_at, settled_at, settled_by, request_at, outcome_at}
use Rattle.m17_directory.specs.StandsFor.{unclaimed, claimed, departed_of}
use Rattle.m17_directory.specs.Laws.{AskersAskForServedModules, ClaimsAreAsked, EntriesBeforeDecide, LaterEntriesChangeNothing, PeersComeAndGo, joined_by, joined_before, left_before, left_member}
use Rattle.m17_plan.specs.declared.plan.Plan.{Plan}
use Rattle.m17_plan.specs.Planned.{setup_of}
use Rattle.m17_house.specs.Replay.{IsChosenAt}
use Rattle.m17_house.specs.SoFar.{AreChosen, AreTaken, IsFreeMember, claim_of, freeing, is_at}
use Rattle.m17_house.proofs.Posts.{heard_same, claim_end, asked_left, unasked_left}
use Rattle.m17_house.proofs.Chosen.{claim_before, notice_before, chosen_before}

count_cons : {A : Type 0} (p : A → Bool) (x : A) (xs : List A) → count_by p (x ∷ xs) ≡ cond (p x) 1 0 + count_by p xs
count_cons p x xs = count_of_both p (x ∷ []) xs ∙ ap (λ m. m + count_by p xs) (count_of_one p x)

-- the marks when some have left
abbrev at_place : ℕ → Member → Bool
at_place place m = m.place == place

unmarked : (taken : List Bool) (place : ℕ) → get_or (set taken place false) place false ≡ false
unmarked taken place = elim (cases_lt place (length taken)) [
  | inl below ↦ get_or-set_same taken place false false below
  | inr past ↦ ap (λ xs. get_or xs place false) (set_past taken place false (omega arith)) ∙ get_or_past taken place false (omega arith)
]

stays_marked : (members : List Member) (taken : List Bool) (place : ℕ) → count_by (at_place place) members ≡ 0 → get_or (freeing members taken) place false ≡ get_or taken place false
stays_marked [] taken place none = refl
stays_marked (m ∷ members) taken place none = elim (cases_eq m.place place) [
  | inl here ↦ absurd (omega (arith, count_cons (at_place place) m members, ap {B = ℕ} (λ b. cond b 1 0) (eq-eqb m.place place here)))
  | inr other ↦ stays_marked members (set taken m.place false) place (omega (arith, count_cons (at_place place) m members)) ∙ get_or-set_other taken m.place place false false (λ k. other (sym k))
]

is_unmarked : (members : List Member) (taken : List Bool) (place : ℕ) → 0 < count_by (at_place place) members → get_or (freeing members taken) place false ≡ false
is_unmarked [] taken place some = absurd (omega arith)
is_unmarked (m ∷ members) taken place some = elim (cases_lt 0 (count_by (at_place place) members)) [
  | inl later ↦ is_unmarked members (set taken m.place false) place later
  | inr no_later ↦
      stays_marked members (set taken m.place false) place (omega arith) ∙
      elim (cases_eq m.place place) [
        | inl here ↦ ap (λ k. get_or (set taken k false) place false) here ∙ unmarked taken place
        | inr other ↦ absurd (omega (arith, count_cons (at_place place) m members, ap {B = ℕ} (λ b. cond b 1 0) (ne_eqb m.place place other)))
      ]
]

freed_first : (o : Option Member) (members : List Member) (taken : List Bool) → freeing members (freeing (option_to_list o) taken) ≡ freeing (cons_option o members) taken
freed_first None members taken = refl
freed_first (Some m) members taken = refl

pub freed_more : (d : Dispatch) (rest posts : List Dispatch) (taken taken' : List Bool) → posts ≡ d ∷ rest → taken' ≡ freeing (option_to_list (left_member d)) taken → freeing (filter_map left_member rest) taken' ≡ freeing (filter_map left_member posts) taken
freed_more d rest posts taken taken' is freed =
    ap (freeing (filter_map left_member rest)) freed ∙ freed_first (left_member d) (filter_map left_member rest) taken ∙ ap (λ ds. freeing (filter_map left_member ds) taken) (sym is)

-- a place is had exactly where somebody is counted there
some_by : (p : Known → Bool) (b : Bool) (rows : List Known) → 0 < cond b 1 0 + count_by p rows → (b || list_any p rows) ≡ true
some_by p true rows l = refl
some_by p false [] l = absurd (omega arith)
some_by p false (k ∷ rows) l = some_by p (p k) rows (omega (arith, count_cons p k rows))

none_by : (p : Known → Bool) (b : Bool) (rows : List Known) → cond b 1 0 + count_by p rows ≡ 0 → (b || list_any p rows) ≡ false
none_by p true rows e = absurd (omega arith)
none_by p false [] e = refl
none_by p false (k ∷ rows) e = none_by p (p k) rows (omega (arith, count_cons p k rows))

-- nobody is counted where nobody has the place, and one at most in any case
nobody_there : (p : Known → Bool) (b : Bool) (rows : List Known) → (b || list_any p rows) ≡ false → cond b 1 0 + count_by p rows ≡ 0
nobody_there p true rows e = absurd (false≢true (sym e))
nobody_there p false [] e = omega arith
nobody_there p false (k ∷ rows) e = omega (arith, count_cons p k rows, nobody_there p (p k) rows e)

none_after : (place : ℕ) (rows : List Known) → AllByRecursion (λ (y : ℕ). (place == y) ≡ false) (map (λ (k : Known). k.member.place) rows) → count_by (has_place place) rows ≡ 0
none_after place [] all = refl
none_after place (k ∷ rows) all = omega (arith, count_cons (has_place place) k rows, none_after place rows all.1, ap {B = ℕ} (λ b. cond b 1 0) (ne_eqb k.member.place place (λ e. false≢true (sym all.0 ∙ eq-eqb place k.member.place (sym e)))))

one_each : (place : ℕ) (rows : List Known) → IsDistinct nat_eq (map (λ (k : Known). k.member.place) rows) → count_by (has_place place) rows ≤ 1
unfolding IsDistinct
one_each place [] apart = omega arith
one_each place (k ∷ rows) apart = elim (cases_eq k.member.place place) [
  | inl here ↦ omega (
    arith,
    count_cons (has_place place) k rows,
    ap {B = ℕ} (λ b. cond b 1 0) (eq-eqb k.member.place place here),
    none_after place rows (subst (λ (x : ℕ). AllByRecursion (λ (y : ℕ). (x == y) ≡ false) (map (λ (r : Known). r.member.place) rows)) here apart.0),
  )
  | inr other ↦ omega (arith, count_cons (has_place place) k rows, ap {B = ℕ} (λ b. cond b 1 0) (ne_eqb k.member.place place other), one_each place rows apart.1)
]

-- those that left, as members and as departed ones
left_members : (place : ℕ) (left : List Known) → count_by (at_place place) (map (λ (k : Known). k.member) left) ≡ count_by (has_place place) left
left_members place [] = refl
left_members place (k ∷ left) = count_cons (at_place place) k.member (map (λ (x : Known). x.member) left) ∙ ap (λ m. cond (k.member.place == place) 1 0 + m) (left_members place left) ∙ sym (count_cons (has_place place) k left)

abbrev of_place : ℕ → Departed → Bool
of_place place d = d.member.place == place

left_departed : (place : ℕ) (left : List Known) → count_by (of_place place) (map departed_of left) ≡ count_by (has_place place) left
left_departed place [] = refl
left_departed place (k ∷ left) = count_cons (of_place place) (departed_of k) (map departed_of left) ∙ ap (λ m. cond (k.member.place == place) 1 0 + m) (left_departed place left) ∙ sym (count_cons (has_place place) k left)

-- How many have a place, with this member: one at most; and each stays or leaves.
abbrev with_member : ℕ → Option Member → List Known → ℕ
with_member place member known = cond (is_at place member) 1 0 + count_by (has_place place) known

pub StayOrLeave : Option Member → List Known → List Known → List Known → Type 0
StayOrLeave member known left new = (place : ℕ) → with_member place member known ≡ count_by (has_place place) new + count_by (has_place place) left

pub IsApart : Option Member → List Known → Type 0
IsApart member known = (place : ℕ) → with_member place member known ≤ 1

pub still_taken : (member : Option Member) (known left new : List Known) (taken taken' : List Bool) (members : List Member) → AreTaken taken known member → IsApart member known → taken' ≡ freeing members taken → members ≡ map (λ (k : Known). k.member) left → StayOrLeave member known left new → AreTaken taken' new None
unfolding StayOrLeave IsApart
still_taken member known left new taken taken' members are apart freed these stay = λ place.
    let gone : count_by (at_place place) members ≡ count_by (has_place place) left = ap (count_by (at_place place)) these ∙ left_members place left in
    ap (λ xs. get_or xs place false) freed ∙
    elim (cases_lt 0 (count_by (at_place place) members)) [
      | inl some ↦ is_unmarked members taken place some ∙ sym (none_by (has_place place) false new (omega (arith, gone, stay place, apart place)))
      | inr none ↦
          stays_marked members taken place (omega arith) ∙ are place ∙
          elim (cases_lt 0 (with_member place member known)) [
            | inl had ↦ some_by (has_place place) (is_at place member) known had ∙ sym (some_by (has_place place) false new (omega (arith, gone, stay place)))
            | inr free ↦ none_by (has_place place) (is_at place member) known (omega arith) ∙ sym (none_by (has_place place) false new (omega (arith, gone, stay place)))
          ]
    ]

-- nobody is given a place, or the member one that is free
pub apart_alone : (known : List Known) → IsDistinct nat_eq (map (λ (k : Known). k.member.place) known) → IsApart None known
unfolding IsApart
apart_alone known apart = λ place. omega (arith, one_each place known apart)

pub apart_given : (known : List Known) (places : ℕ) (old new : List ℕ) (member : Option Member) → IsDistinct nat_eq (map (λ (k : Known). k.member.place) known) → (b : Bool) → MatchBool b (IsFreeMember known places old member new) ((member ≡ None) × (new ≡ old)) → IsApart member known
unfolding IsApart
apart_given known places old new member apart true free = λ place.
    let is : cond (is_at place member) 1 0 ≡ cond (free.it.place == place) 1 0 = ap {B = ℕ} (λ o. cond (is_at place o) 1 0) free.is_it in
    elim (cases_eq free.it.place place) [
      | inl here ↦
          let nobody : 0 + count_by (has_place place) known ≡ 0 = nobody_there (has_place place) false known (ap (λ k. list_any (has_place k) known) (sym here) ∙ free.place.free) in
          omega (arith, is, nobody, ap {B = ℕ} (λ b. cond b 1 0) (eq-eqb free.it.place place here))
      | inr other ↦ omega (arith, is, one_each place known apart, ap {B = ℕ} (λ b. cond b 1 0) (ne_eqb free.it.place place other))
    ]
apart_given known places old new member apart false none = λ place.
    omega (arith, ap {B = ℕ} (λ o. cond (is_at place o) 1 0) none.0, one_each place known apart)

-- lists over ranges, when one entry more was heard
flat_same : {A : Type 0} (f g : ℕ → List A) (from n : ℕ) → ((i : ℕ) → i < from + n → f i ≡ g i) → flat_map f (range_with_len from n) ≡ flat_map g (range_with_len from n)
flat_same f g from zero same = refl
flat_same f g from (suc n) same =
    ap (λ xs. xs ++ flat_map f (range_with_len (from + 1) n)) (same from (omega arith))
    ∙ ap (λ xs. g from ++ xs) (flat_same f g (from + 1) n (λ i below. same i (omega arith)))

flat_more : {A : Type 0} (f g : ℕ → List A) (n : ℕ) → ((i : ℕ) → i < n → f i ≡ g i) → flat_map f (range_with_len 0 (suc n)) ≡ flat_map g (range_with_len 0 n) ++ f n
flat_more f g n same =
    let at : 0 + n ≡ n = omega arith in
    ap (flat_map f) (range_ends_in_its_last 0 n)
    ∙ flat_map-append f (range_with_len 0 n) ((0 + n) ∷ [])
    ∙ ap (λ m. flat_map f (range_with_len 0 n) ++ flat_map f (m ∷ [])) at
    ∙ ap (λ xs. flat_map f (range_with_len 0 n) ++ xs) (append-nil (f n))
    ∙ ap (λ xs. xs ++ f n) (flat_same f g 0 n (λ i below. same i (omega arith)))

-- where an entry does not ask it has no claim
no_claim_by : (b c : Bool) (F : Type 0) (o : Option Claim) → MatchBool (b && c) F (o ≡ None) → b ≡ false → o ≡ None
no_claim_by true c F o m e = absurd (false≢true (sym e))
no_claim_by false c F o m e = m

no_claim : (setup : Setup) (entries : List Entry) (n : ℕ) → IsChosenAt setup entries n → asks_at (past_at setup entries n) ≡ false → claim_at entries n ≡ None
no_claim setup entries n chosen silent = no_claim_by (asks_at (past_at setup entries n)) _ _ (claim_at entries n) chosen silent

-- nobody leaves where there is no claim
none_settled : (past : Past) (notice : Notice) (request : Option Request) → (settled_by past None notice request).left ≡ []
none_settled past (Notice.Sent from at p) (Some request) = refl
none_settled past (Notice.Sent from at p) None = refl
none_settled past (Notice.Garbled from at refusal) request = refl
none_settled past (Notice.Quiet at) request = refl
none_settled past Notice.Fault request = refl
none_settled past Notice.End request = refl

nobody_settled : (past : Past) → (settled_at past None).left ≡ []
unfolding settled_at
nobody_settled past = none_settled past (notice_at past.entries (now past)) (request_at past)

-- and nobody joins
abbrev joins_by : Bool → Notice → Option Claim → List Departed
joins_by asks notice claim = cond asks (joined_by notice claim) []

nobody_joins : (b : Bool) (notice : Notice) → joins_by b notice None ≡ []
nobody_joins true (Notice.Sent from at p) = refl
nobody_joins true (Notice.Garbled from at refusal) = refl
nobody_joins true (Notice.Quiet at) = refl
nobody_joins true Notice.Fault = refl
nobody_joins true Notice.End = refl
nobody_joins false notice = refl

-- Who asks joins as the member that it is given.
member_joins : (place : ℕ) (member : Option Member) (notice : Notice) (request : Request) → request_in notice ≡ Some request → count_by (of_place place) (joins_by true notice (claim_of member)) ≡ cond (is_at place member) 1 0
member_joins place None (Notice.Sent from at p) request e = refl
member_joins place (Some m) (Notice.Sent from at p) request e = count_of_one (of_place place) (record { member = m; peer = from })
member_joins place member (Notice.Garbled from at refusal) request e = cc
member_joins place member (Notice.Quiet at) request e = cc
member_joins place member Notice.Fault request e = cc
member_joins place member Notice.End request e = cc

module _ (law : EntriesBeforeDecide) (later : LaterEntriesChangeNothing) (come : PeersComeAndGo) (plan : Plan) (entries : List Entry) (chosen : AreChosen plan entries) where
  abbrev setup : Setup
  setup = setup_of plan

  abbrev with : Entry → List Entry
  with e = entries ++ e ∷ []

  abbrev joins : List Entry → ℕ → List Departed
  joins all i = joins_by (asks_at (past_at setup all i)) (notice_at all i) (claim_at all i)

  joins_before : (e : Entry) (i : ℕ) → i < length entries → joins (with e) i ≡ joins entries i
  joins_before e i below =
      ap (λ o. joins_by (is_asks o.verdict) (notice_at (with e) i) (claim_at (with e) i))
      (law.heard setup (with e) entries i (take-append-le i entries (e ∷ []) (omega arith)) (notice_before entries e i below))
      ∙ ap (λ x. joins_by (asks_at (past_at setup entries i)) x (claim_at (with e) i)) (notice_before entries e i below)
      ∙ ap (joins_by (asks_at (past_at setup entries i)) (notice_at entries i)) (claim_before entries e i below)

  joined_more : (e : Entry) → joined_before setup (with e) (suc (length entries)) ≡ joined_before setup entries (length entries) ++ joins (with e) (length entries)
  unfolding joined_before
  joined_more e = flat_more (joins (with e)) (joins entries) (length entries) (joins_before e)

  left_more : (e : Entry) → left_before setup (with e) (suc (length entries)) ≡ left_before setup entries (length entries) ++ map departed_of (outcome_at setup (with e) (length entries)).left
  unfolding left_before
  left_more e = flat_more (λ i. map departed_of (outcome_at setup (with e) i).left) (λ i. map departed_of (outcome_at setup entries i).left) (length entries) (λ i below. ap (λ (o : Outcome). map departed_of o.left) (later setup entries (e ∷ []) i below))

  asked_with : (e : Entry) → (asks_at (past_at setup (with e) (length entries)) ≡ false → e.claim ≡ None) → ClaimsAreAsked setup (with e)
  asked_with e last i within silent = elim (cases_lt i (length entries)) [
    | inl below ↦ no_claim setup (with e) i (chosen_before law setup entries e i below (chosen i below)) silent
    | inr past ↦
        let here : i ≡ length entries = omega (arith, one_more_is_one_longer entries e) in
        ap (claim_at (with e)) here ∙ claim_end entries e ∙ last (ap (λ n. asks_at (past_at setup (with e) n)) (sym here) ∙ silent)
  ]

  -- who comes and who goes by one entry more
  moved : (e : Entry) (place : ℕ) → (asks_at (past_at setup (with e) (length entries)) ≡ false → e.claim ≡ None) →
      count_by (of_place place) (joins (with e) (length entries)) + count_by (has_place place) (known_at (past_at setup entries (length entries)))
      ≡ count_by (has_place place) (outcome_at setup (with e) (length entries)).left + count_by (has_place place) (known_at (past_at setup (with e) (length (with e))))
  moved e place last =
      let n : ℕ = length entries in
      let before = come.so_far setup entries n (of_place place) (λ i below silent. no_claim setup entries i (chosen i below) silent) (omega arith) in
      let after = come.so_far setup (with e) (suc n) (of_place place) (asked_with e last) (omega (arith, one_more_is_one_longer entries e)) in
      let left : List Known = (outcome_at setup (with e) n).left in
      let last_place : count_by (has_place place) (known_at (past_at setup (with e) (length (with e)))) ≡ count_by (has_place place) (known_at (past_at setup (with e) (suc n))) = ap (λ m. count_by (has_place place) (known_at (past_at setup (with e) m))) (one_more_is_one_longer entries e) in
      omega (
        arith,
        before,
        after,
        last_place,
        left_departed place left,
        ap (count_by (of_place place)) (joined_more e),
        count_of_both (of_place place) (joined_before setup entries n) (joins (with e) n),
        ap (count_by (of_place place)) (left_more e),
        count_of_both (of_place place) (left_before setup entries n) (map departed_of left),
      )

  -- what is heard, before its claim
  left_unclaimed : (notice : Notice) (b : Bool) → asks_at (past_at setup (with (unclaimed notice)) (length entries)) ≡ b → (outcome_at setup (with (unclaimed notice)) (length entries)).left ≡ (unclaimed_at (past_at setup (with (unclaimed notice)) (length entries))).left
  left_unclaimed notice true e =
      let past : Past = past_at setup (with (unclaimed notice)) (length entries) in
      asked_left setup (with (unclaimed notice)) (length entries) e
      ∙ ap (λ c. (unclaimed_at past).left ++ (settled_at past c).left) (claim_end entries (unclaimed notice))
      ∙ ap (λ xs. (unclaimed_at past).left ++ xs) (nobody_settled past) ∙ append-nil (unclaimed_at past).left
  left_unclaimed notice false e = unasked_left setup (with (unclaimed notice)) (length entries) e

  heard_all : (notice : Notice) (place : ℕ) →
      count_by (has_place place) (known_at (past_at setup entries (length entries)))
      ≡ count_by (has_place place) (unclaimed_at (past_at setup (with (unclaimed notice)) (length entries))).left + count_by (has_place place) (known_at (past_at setup (with (unclaimed notice)) (length (with (unclaimed notice)))))
  heard_all notice place =
      let e : Entry = unclaimed notice in
      let n : ℕ = length entries in
      let nobody : joins (with e) n ≡ [] = ap (joins_by (asks_at (past_at setup (with e) n)) (notice_at (with e) n)) (claim_end entries e) ∙ nobody_joins (asks_at (past_at setup (with e) n)) (notice_at (with e) n) in
      omega (arith, moved e place (λ _. refl), ap (count_by (of_place place)) nobody, ap (count_by (has_place place)) (left_unclaimed notice (asks_at (past_at setup (with e) n)) refl))

  pub stay_heard : (notice : Notice) (known new : List Known) → known ≡ known_at (past_at setup entries (length entries)) → new ≡ known_at (past_at setup (with (unclaimed notice)) (length (with (unclaimed notice)))) →
      StayOrLeave None known (unclaimed_at (past_at setup (with (unclaimed notice)) (length entries))).left new
  unfolding StayOrLeave
  stay_heard notice known new is are = λ place. omega (arith, heard_all notice place, ap (count_by (has_place place)) is, ap (count_by (has_place place)) are)

  -- and by its claim
  pub stay_settled : AskersAskForServedModules → (notice : Notice) (member : Option Member) (known new : List Known) → asks_at (past_at setup (with (claimed notice (claim_of member))) (length entries)) ≡ true →
      known ≡ known_at (past_at setup (with (unclaimed notice)) (length (with (unclaimed notice)))) → new ≡ known_at (past_at setup (with (claimed notice (claim_of member))) (length (with (claimed notice (claim_of member))))) →
      StayOrLeave member known (settled_at (past_at setup (with (claimed notice (claim_of member))) (length entries)) (claim_of member)).left new
  unfolding StayOrLeave
  stay_settled served notice member known new asks is are = λ place.
      let e : Entry = claimed notice (claim_of member) in
      let n : ℕ = length entries in
      let past : Past = past_at setup (with e) n in
      let first : List Known = (unclaimed_at (past_at setup (with (unclaimed notice)) n)).left in
      let left : (outcome_at setup (with e) n).left ≡ first ++ (settled_at past (claim_of member)).left =
      asked_left setup (with e) n asks ∙ ap (λ o. o.left ++ (settled_at past (claim_at (with e) n)).left) (heard_same law setup entries e (unclaimed notice) refl)
      ∙ ap (λ c. first ++ (settled_at past c).left) (claim_end entries e) in
      let request = served setup (with e) n asks in
      let joined : count_by (of_place place) (joins (with e) n) ≡ cond (is_at place member) 1 0 =
      ap (λ b. count_by (of_place place) (joins_by b (notice_at (with e) n) (claim_at (with e) n))) asks
      ∙ ap (λ c. count_by (of_place place) (joins_by true (notice_at (with e) n) c)) (claim_end entries e)
      ∙ member_joins place member (notice_at (with e) n) request.0 request.1 in
      omega (
        arith,
        heard_all notice place,
        moved e place (λ silent. absurd (false≢true (sym silent ∙ asks))),
        joined,
        ap (count_by (has_place place)) left,
        count_of_both (has_place place) first (settled_at past (claim_of member)).left,
        ap (count_by (has_place place)) is,
        ap (count_by (has_place place)) are,
      )
