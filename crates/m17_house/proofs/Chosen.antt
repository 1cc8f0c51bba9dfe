-- Claims and their counts, when one entry more was heard.
use Rattle.std.proofs.Common.{◌≡◌, ◌&&◌, ◌==◌, ℕ, zero, suc, ◌+◌, ◌<◌, ◌≤◌, Bool, true, false, cond, List, [], ◌∷◌, ◌++◌, length, take, get_or, set, nat_lt, Option, None, MatchBool, inl, inr, refl, ap, sym, subst, ◌∙◌, arith, count_by, get_or-set_same, get_or-set_other, length-set}
use Rattle.std.specs.List.{range_with_len}
use Rattle.std.specs.Option.{option_and_then}
use Rattle.std.proofs.lemmas.List.{take-append-le}
use Rattle.std.proofs.lemmas.Bool.{cases_lt, cases_eq, and_left, eq-eqb, ne_eqb}
use Rattle.m17_lists.proofs.Places.{places_before_stay}
use Rattle.m17_lists.proofs.Lengths.{one_more_is_one_longer}
use Rattle.m17_lists.proofs.Sums.{count_of_both, count_of_one}
use Rattle.m17_lists.proofs.Ranges.{range_ends_in_its_last}
use Rattle.m17_values.specs.declared.member.Member.{Member}
use Rattle.m17_directory.specs.declared.known.Known.{Known}
use Rattle.m17_directory.specs.Entries.{Claim, Entry, Setup, notice_of, notice_at, claim_at}
use Rattle.m17_directory.specs.Known.{Past, is_of_place}
use Rattle.m17_directory.specs.Routed.{past_at, unclaimed_at, others_at, asks_at, is_asks}
use Rattle.m17_directory.specs.Laws.{EntriesBeforeDecide}
use Rattle.m17_plan.specs.declared.plan.Plan.{Plan}
use Rattle.m17_house.specs.Replay.{given_before, IsFreeClaim, IsLeastFree, IsChosenAt}
use Rattle.m17_plan.specs.Planned.{setup_of}
use Rattle.m17_house.specs.SoFar.{IsFreeMember, IsChoice, AreCounts, AreChosen, claim_of}
use Rattle.m17_house.proofs.Posts.{claim_end}

-- one for a test that passes
abbrev one_if : Bool → ℕ
one_if b = cond b 1 0

pub count_range : (p q : ℕ → Bool) (a n : ℕ) → ((j : ℕ) → j < a + n → p j ≡ q j) → count_by p (range_with_len a n) ≡ count_by q (range_with_len a n)
count_range p q a zero same = refl
count_range p q a (suc n) same =
    count_of_both p (a ∷ []) (range_with_len (a + 1) n)
    ∙ ap (λ m. m + count_by p (range_with_len (a + 1) n)) (count_of_one p a ∙ ap one_if (same a (omega arith)) ∙ sym (count_of_one q a))
    ∙ ap (λ m. count_by q (a ∷ []) + m) (count_range p q (a + 1) n (λ j below. same j (omega arith)))
    ∙ sym (count_of_both q (a ∷ []) (range_with_len (a + 1) n))

pub claim_before : (entries : List Entry) (e : Entry) (i : ℕ) → i < length entries → claim_at (entries ++ e ∷ []) i ≡ claim_at entries i
claim_before entries e i below = ap (option_and_then (λ (entry : Entry). entry.claim)) (places_before_stay entries (e ∷ []) i below)

pub notice_before : (entries : List Entry) (e : Entry) (i : ℕ) → i < length entries → notice_at (entries ++ e ∷ []) i ≡ notice_at entries i
notice_before entries e i below = ap notice_of (places_before_stay entries (e ∷ []) i below)

pub given_same : (entries : List Entry) (e : Entry) (place i : ℕ) → i ≤ length entries → given_before (entries ++ e ∷ []) place i ≡ given_before entries place i
given_same entries e place i le =
    count_range (λ j. is_of_place place (claim_at (entries ++ e ∷ []) j)) (λ j. is_of_place place (claim_at entries j)) 0 i
    (λ j below. ap (is_of_place place) (claim_before entries e j (omega arith)))

given_more : (entries : List Entry) (e : Entry) (place : ℕ) → given_before (entries ++ e ∷ []) place (length (entries ++ e ∷ [])) ≡ given_before entries place (length entries) + cond (is_of_place place e.claim) 1 0
given_more entries e place =
    let n : ℕ = length entries in
    let test : ℕ → Bool = λ j. is_of_place place (claim_at (entries ++ e ∷ []) j) in
    let last : test (0 + n) ≡ is_of_place place e.claim = ap test (let z : 0 + n ≡ n = omega arith in z) ∙ ap (is_of_place place) (claim_end entries e) in
    ap (λ m. count_by test (range_with_len 0 m)) (one_more_is_one_longer entries e)
    ∙ ap (count_by test) (range_ends_in_its_last 0 n)
    ∙ count_of_both test (range_with_len 0 n) ((0 + n) ∷ [])
    ∙ ap (λ m. m + count_by test ((0 + n) ∷ [])) (given_same entries e place n (omega arith))
    ∙ ap (λ m. given_before entries place n + m) (count_of_one test (0 + n) ∙ ap one_if last)

-- The counts where the entry has no claim, ..
pub counts_unclaimed : (given : List ℕ) (entries : List Entry) (e : Entry) → e.claim ≡ None → AreCounts given entries → AreCounts given (entries ++ e ∷ [])
counts_unclaimed given entries e none counts = record {
  cells = counts.cells;
  each = λ place below.
      let more = given_more entries e place in
      let zero_more : one_if (is_of_place place e.claim) ≡ 0 = ap (λ (o : Option Claim). one_if (is_of_place place o)) none in
      omega (arith, more, zero_more, counts.each place below);
}

-- .. and where it has that of the member that was chosen.
set_counts : (old new : List ℕ) (at next place : ℕ) → new ≡ set old at next → length old ≡ 256 → place < 256 → get_or old at 0 + 1 ≡ next → get_or new place 0 ≡ get_or old place 0 + cond (at == place) 1 0
set_counts old new at next place is len below step =
    elim (cases_eq at place) [
      | inl here ↦
          let lt : place < length old = omega (arith, len) in
          let same : get_or new place 0 ≡ next = ap (λ xs. get_or xs place 0) (is ∙ ap (λ k. set old k next) here) ∙ (rw get_or-set_same refl) in
          let one : one_if (at == place) ≡ 1 = ap one_if (eq-eqb at place here) in
          omega (arith, same, one, step, ap (λ k. get_or old k 0) here)
      | inr other ↦
          let apart : place ≡ at → ⊥ = λ e. other (sym e) in
          let same : get_or new place 0 ≡ get_or old place 0 = ap (λ xs. get_or xs place 0) is ∙ (rw get_or-set_other refl) in
          let none : one_if (at == place) ≡ 0 = ap one_if (ne_eqb at place other) in
          omega (arith, same, none)
    ]

counts_chosen : (entries : List Entry) (e : Entry) (known : List Known) (places : ℕ) (old new : List ℕ) (member : Option Member) → e.claim ≡ claim_of member → AreCounts old entries →
    (b : Bool) → MatchBool b (IsFreeMember known places old member new) ((member ≡ None) × (new ≡ old)) → AreCounts new (entries ++ e ∷ [])
counts_chosen entries e known places old new member claim counts true free = record {
  cells = ap length free.counted ∙ length-set old free.it.place (free.it.generation + 1) ∙ counts.cells;
  each = λ place below.
      let more = given_more entries e place in
      let its : one_if (is_of_place place e.claim) ≡ one_if (free.it.place == place) = ap (λ (o : Option Claim). one_if (is_of_place place o)) (claim ∙ ap claim_of free.is_it) in
      let now : get_or new place 0 ≡ get_or old place 0 + cond (free.it.place == place) 1 0 =
      set_counts old new free.it.place (free.it.generation + 1) place free.counted counts.cells below (ap (λ n. n + 1) (sym free.generation)) in
      omega (arith, more, its, now, counts.each place below);
}
counts_chosen entries e known places old new member claim counts false none =
    subst (λ (xs : List ℕ). AreCounts xs (entries ++ e ∷ [])) (sym none.1) (counts_unclaimed old entries e (claim ∙ ap claim_of none.0) counts)

pub counts_claimed : (entries : List Entry) (e : Entry) (known : List Known) (places : ℕ) (old new : List ℕ) (member : Option Member) → e.claim ≡ claim_of member → AreCounts old entries → IsChoice known places old member new → AreCounts new (entries ++ e ∷ [])
counts_claimed entries e known places old new member claim counts choice = counts_chosen entries e known places old new member claim counts (nat_lt (length known) places) choice

-- Choices of entries before are the same when one more was heard.
free_before : (others others' : List Known) (entries : List Entry) (e : Entry) (n : ℕ) (claim claim' : Option Claim) → n ≤ length entries → others ≡ others' → claim' ≡ claim → IsFreeClaim others entries n claim → IsFreeClaim others' (entries ++ e ∷ []) n claim'
free_before others others' entries e n claim claim' le same it free = record {
  it = free.it;
  is_it = it ∙ free.is_it;
  place = subst (λ (rows : List Known). IsLeastFree rows free.it.member.place) same free.place;
  generation = free.generation ∙ sym (given_same entries e free.it.member.place n le);
  after = free.after;
}

match_in : (b : Bool) (F N F' N' : Type 0) → (F → F') → (N → N') → MatchBool b F N → MatchBool b F' N'
match_in true F N F' N' f g m = f m
match_in false F N F' N' f g m = g m

match_to : (b c : Bool) (F N F' N' : Type 0) → b ≡ c → (F → F') → (N → N') → MatchBool b F N → MatchBool c F' N'
match_to b c F N F' N' same f g m = subst (λ (t : Bool). MatchBool t F' N') same (match_in b F N F' N' f g m)

pub chosen_before : EntriesBeforeDecide → (setup : Setup) (entries : List Entry) (e : Entry) (i : ℕ) → i < length entries → IsChosenAt setup entries i → IsChosenAt setup (entries ++ e ∷ []) i
chosen_before law setup entries e i below chosen =
    let longer : List Entry = entries ++ e ∷ [] in
    let front : take i entries ≡ take i longer = sym (take-append-le i entries (e ∷ []) (omega arith)) in
    let notices : notice_at entries i ≡ notice_at longer i = sym (notice_before entries e i below) in
    let heard : unclaimed_at (past_at setup entries i) ≡ unclaimed_at (past_at setup longer i) = law.heard setup entries longer i front notices in
    let others : others_at (past_at setup entries i) ≡ others_at (past_at setup longer i) = law.others setup entries longer i front notices in
    match_to (asks_at (past_at setup entries i) && nat_lt (length (others_at (past_at setup entries i))) setup.places) (asks_at (past_at setup longer i) && nat_lt (length (others_at (past_at setup longer i))) setup.places)
    (IsFreeClaim (others_at (past_at setup entries i)) entries i (claim_at entries i)) (claim_at entries i ≡ None)
    (IsFreeClaim (others_at (past_at setup longer i)) longer i (claim_at longer i)) (claim_at longer i ≡ None)
    (ap (λ o. is_asks o.verdict && nat_lt (length (others_at (past_at setup entries i))) setup.places) heard ∙ ap (λ rows. asks_at (past_at setup longer i) && nat_lt (length rows) setup.places) others)
    (λ free. free_before (others_at (past_at setup entries i)) (others_at (past_at setup longer i)) entries e i (claim_at entries i) (claim_at longer i) (omega arith) others (claim_before entries e i below) free)
    (λ none. claim_before entries e i below ∙ none)
    chosen

-- All are chosen when the last one is.
pub chosen_more : EntriesBeforeDecide → (plan : Plan) (entries : List Entry) (e : Entry) → AreChosen plan entries → IsChosenAt (setup_of plan) (entries ++ e ∷ []) (length entries) → AreChosen plan (entries ++ e ∷ [])
chosen_more law plan entries e before last n below =
    elim (cases_lt n (length entries)) [
      | inl earlier ↦ chosen_before law (setup_of plan) entries e n earlier (before n earlier)
      | inr not_earlier ↦
          let here : length entries ≡ n = omega (arith, one_more_is_one_longer entries e) in
          subst (λ (i : ℕ). IsChosenAt (setup_of plan) (entries ++ e ∷ []) i) here last
    ]

-- The last one, where it does not ask ..
pub chosen_unasked : (setup : Setup) (entries : List Entry) (e : Entry) → asks_at (past_at setup (entries ++ e ∷ []) (length entries)) ≡ false → e.claim ≡ None → IsChosenAt setup (entries ++ e ∷ []) (length entries)
chosen_unasked setup entries e silent none =
    let longer : List Entry = entries ++ e ∷ [] in
    let n : ℕ = length entries in
    let past : Past = past_at setup longer n in
    subst (λ (b : Bool). MatchBool b (IsFreeClaim (others_at past) longer n (claim_at longer n)) (claim_at longer n ≡ None))
    (sym (and_left (asks_at past) (nat_lt (length (others_at past)) setup.places) silent))
    (claim_end entries e ∙ none)

-- .. and where it does.
free_claim : (entries : List Entry) (e : Entry) (known : List Known) (places : ℕ) (old new : List ℕ) (member : Option Member) → places ≤ 256 → e.claim ≡ claim_of member → AreCounts old entries →
    (b : Bool) → MatchBool b (IsFreeMember known places old member new) ((member ≡ None) × (new ≡ old)) → MatchBool b (IsFreeClaim known (entries ++ e ∷ []) (length entries) (claim_at (entries ++ e ∷ []) (length entries))) (claim_at (entries ++ e ∷ []) (length entries) ≡ None)
free_claim entries e known places old new member few claim counts true free = record {
  it = record { member = free.it; after = 0 };
  is_it = claim_end entries e ∙ claim ∙ ap claim_of free.is_it;
  place = free.place;
  generation = free.generation ∙ counts.each free.it.place (omega (arith, free.below)) ∙ sym (given_same entries e free.it.place (length entries) (omega arith));
  after = refl;
}
free_claim entries e known places old new member few claim counts false none = claim_end entries e ∙ claim ∙ ap claim_of none.0

pub chosen_asked : (setup : Setup) (entries : List Entry) (e : Entry) (known : List Known) (old new : List ℕ) (member : Option Member) → asks_at (past_at setup (entries ++ e ∷ []) (length entries)) ≡ true → known ≡ others_at (past_at setup (entries ++ e ∷ []) (length entries)) →
    setup.places ≤ 256 → e.claim ≡ claim_of member → AreCounts old entries → IsChoice known setup.places old member new → IsChosenAt setup (entries ++ e ∷ []) (length entries)
chosen_asked setup entries e known old new member asks others few claim counts choice =
    let longer : List Entry = entries ++ e ∷ [] in
    let n : ℕ = length entries in
    let past : Past = past_at setup longer n in
    let here = free_claim entries e known setup.places old new member few claim counts (nat_lt (length known) setup.places) choice in
    subst (λ (b : Bool). MatchBool (b && nat_lt (length (others_at past)) setup.places) (IsFreeClaim (others_at past) longer n (claim_at longer n)) (claim_at longer n ≡ None)) (sym asks)
    (subst (λ (rows : List Known). MatchBool (nat_lt (length rows) setup.places) (IsFreeClaim rows longer n (claim_at longer n)) (claim_at longer n ≡ None)) others here)
