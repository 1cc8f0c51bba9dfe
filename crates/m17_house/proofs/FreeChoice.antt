-- The least free place is a free one, and its members are told apart by their generations.
use Rattle.std.proofs.Common.{◌≡◌, ℕ, zero, suc, ◌+◌, ◌<◌, ◌≤◌, ◌&&◌, Bool, true, false, cond, List, [], ◌∷◌, length, nat_lt, count_by, slice_get, option_and_then, MatchBool, Option, None, Some, inl, inr, refl, ap, sym, ◌∙◌, arith}
use Rattle.std.specs.List.{range_with_len}
use Rattle.std.proofs.lemmas.Bool.{cases_lt, ltb-true, eq-eqb}
use Rattle.std.proofs.lemmas.Option.{same_Some, slice_get_within}
use Rattle.m17_lists.proofs.Sums.{count_of_both, count_of_one}
use Rattle.m17_lists.proofs.Ranges.{range_ends_in_its_last}
use Rattle.m17_values.specs.declared.member.Member.{Member}
use Rattle.m17_directory.specs.declared.known.Known.{Known}
use Rattle.m17_directory.specs.Entries.{Claim, Entry, Setup, claim_at}
use Rattle.m17_directory.specs.Known.{is_of_place}
use Rattle.m17_directory.specs.Given.{IsOfFreePlace, IsGivenAt}
use Rattle.m17_directory.specs.Routed.{past_at, asks_at, others_at}
use Rattle.m17_plan.specs.declared.plan.Plan.{Plan}
use Rattle.m17_house.specs.Replay.{IsLeastFree, IsFreeClaim, IsChosenAt, given_before}
use Rattle.m17_plan.specs.Planned.{setup_of}
use Rattle.m17_house.specs.Laws.{ReplaysGiveFreely}
use Rattle.m17_house.proofs.Places.{places_had}

-- the least free place is below the places where the others are fewer
least_below : (places : ℕ) (others : List Known) (place : ℕ) → length others < places → IsLeastFree others place → place < places
least_below places others place few least = elim (cases_lt place places) [
  | inl below ↦ below
  | inr above ↦
      let all : places ≤ length others = places_had places others (λ lower l. least.least lower (omega arith)) in
      absurd (omega arith)
]

and_second : (b c : Bool) → (b && c) ≡ true → c ≡ true
and_second true c e = e
and_second false c e = absurd (cc)

given_by : (setup : Setup) (entries : List Entry) (n : ℕ) (others : List Known) (b : Bool) (claim : Option Claim) → (b ≡ true → length others < setup.places) → MatchBool b (IsFreeClaim others entries n claim) (claim ≡ None) → MatchBool b (IsOfFreePlace setup.places others claim) (claim ≡ None)
given_by setup entries n others true claim few free = record {
  it = free.it;
  is_it = free.is_it;
  below = least_below setup.places others free.it.member.place (few refl) free.place;
  free = free.place.free;
}
given_by setup entries n others false claim few none = none

given_at : (plan : Plan) (entries : List Entry) (n : ℕ) → IsChosenAt (setup_of plan) entries n → IsGivenAt (setup_of plan) entries n
given_at plan entries n chosen =
    let others : List Known = others_at (past_at (setup_of plan) entries n) in
    let asks : Bool = asks_at (past_at (setup_of plan) entries n) in
    given_by (setup_of plan) entries n others (asks && nat_lt (length others) plan.places) (claim_at entries n)
    (λ e. ltb-true (length others) plan.places (and_second asks (nat_lt (length others) plan.places) e)) chosen

-- the generation is the number of earlier claims of the place
generation_by : (others : List Known) (entries : List Entry) (n : ℕ) (b : Bool) (claim : Option Claim) (c : Claim) → claim ≡ Some c → MatchBool b (IsFreeClaim others entries n claim) (claim ≡ None) → c.member.generation ≡ given_before entries c.member.place n
generation_by others entries n true claim c e free =
    let same : free.it ≡ c = same_Some free.it c (sym free.is_it ∙ e) in
    ap (λ (x : Claim). x.member.generation) (sym same) ∙ free.generation ∙ ap (λ (x : Claim). given_before entries x.member.place n) same
generation_by others entries n false claim c e none = absurd (let no : None ≡ Some c = sym none ∙ e in cc)

generation_is : (plan : Plan) (entries : List Entry) (n : ℕ) (c : Claim) → IsChosenAt (setup_of plan) entries n → claim_at entries n ≡ Some c → c.member.generation ≡ given_before entries c.member.place n
generation_is plan entries n c chosen e =
    let others : List Known = others_at (past_at (setup_of plan) entries n) in
    generation_by others entries n (asks_at (past_at (setup_of plan) entries n) && nat_lt (length others) plan.places) (claim_at entries n) c e chosen

given_suc : (entries : List Entry) (place n : ℕ) → given_before entries place (suc n) ≡ given_before entries place n + cond (is_of_place place (claim_at entries n)) 1 0
given_suc entries place n =
    let test : ℕ → Bool = λ i. is_of_place place (claim_at entries i) in
    let at : 0 + n ≡ n = omega arith in
    ap (count_by test) (range_ends_in_its_last 0 n)
    ∙ count_of_both test (range_with_len 0 n) ((0 + n) ∷ [])
    ∙ ap (λ m. count_by test (range_with_len 0 n) + m) (count_of_one test (0 + n))
    ∙ ap (λ m. count_by test (range_with_len 0 n) + cond (test m) 1 0) at

bit_le : (b : Bool) (n : ℕ) → n ≤ n + cond b 1 0
bit_le true n = omega arith
bit_le false n = omega arith

bit_more : (b : Bool) (n : ℕ) → b ≡ true → n < n + cond b 1 0
bit_more true n e = omega arith
bit_more false n e = absurd (cc)

given_grows : (entries : List Entry) (place i j : ℕ) → i ≤ j → given_before entries place i ≤ given_before entries place j
given_grows entries place i zero h = let e : i ≡ 0 = omega arith in omega (arith, ap (given_before entries place) e)
given_grows entries place i (suc j) h = elim (cases_lt i (suc j)) [
  | inl l ↦ omega (arith, given_grows entries place i j (omega arith), given_suc entries place j, bit_le (is_of_place place (claim_at entries j)) (given_before entries place j))
  | inr l ↦ let e : i ≡ suc j = omega arith in omega (arith, ap (given_before entries place) e)
]

later_generation : (entries : List Entry) (i j : ℕ) (a : Claim) → i < j → claim_at entries i ≡ Some a → given_before entries a.member.place i < given_before entries a.member.place j
later_generation entries i j a l e =
    let here : is_of_place a.member.place (claim_at entries i) ≡ true = ap (is_of_place a.member.place) e ∙ eq-eqb a.member.place a.member.place refl in
    omega (arith, given_suc entries a.member.place i, bit_more (is_of_place a.member.place (claim_at entries i)) (given_before entries a.member.place i) here, given_grows entries a.member.place (suc i) j (omega arith))

claim_within : (entries : List Entry) (n : ℕ) (o : Option Entry) (c : Claim) → slice_get entries n ≡ o → option_and_then (λ (entry : Entry). entry.claim) o ≡ Some c → n < length entries
claim_within entries n None c is e = cc
claim_within entries n (Some entry) c is e = slice_get_within entries n entry is

-- the places of two claims of one member, and its generations
apart : (plan : Plan) (entries : List Entry) → ((n : ℕ) → n < length entries → IsChosenAt (setup_of plan) entries n) → (i j : ℕ) (a b : Claim) → claim_at entries i ≡ Some a → claim_at entries j ≡ Some b → a.member ≡ b.member → i < j → ⊥
apart plan entries chosen i j a b e f same l =
    let place : a.member.place ≡ b.member.place = ap (λ (m : Member). m.place) same in
    let generation : a.member.generation ≡ b.member.generation = ap (λ (m : Member). m.generation) same in
    let first : a.member.generation ≡ given_before entries a.member.place i = generation_is plan entries i a (chosen i (claim_within entries i (slice_get entries i) a refl e)) e in
    let second : b.member.generation ≡ given_before entries b.member.place j = generation_is plan entries j b (chosen j (claim_within entries j (slice_get entries j) b refl f)) f in
    let later : given_before entries a.member.place i < given_before entries a.member.place j = later_generation entries i j a l e in
    let at : given_before entries b.member.place j ≡ given_before entries a.member.place j = ap (λ p. given_before entries p j) (sym place) in
    omega arith

pub replays_give_freely : ReplaysGiveFreely
replays_give_freely plan heard entries r = record {
  front = r.front;
  rest = r.rest;
  heard_is = r.heard_is;
  says = r.says;
  ends = r.ends;
  given = record {
    each = λ n l. given_at plan entries n (r.chosen n l);
    once = λ i j a b e f same. elim (cases_lt i j) [
      | inl l ↦ absurd (apart plan entries r.chosen i j a b e f same l)
      | inr l ↦ elim (cases_lt j i) [
        | inl m ↦ absurd (apart plan entries r.chosen j i b a f e (sym same) m)
        | inr m ↦ omega arith
      ]
    ];
  };
}
