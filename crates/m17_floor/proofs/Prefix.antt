-- What is looked up below the end of a list is the same where the list goes on.
use Rattle.std.proofs.Common.{◌≡◌, ℕ, zero, suc, ◌<◌, ◌≤◌, Bool, cond, List, [], ◌∷◌, ◌++◌, length, Option, None, Some, slice_get, nat_lt, refl, ap, ◌∙◌, arith}
use Rattle.std.proofs.lemmas.List.{take-append-le}
use Rattle.std.specs.Option.{option_and_then}
use Rattle.m17_values.specs.declared.member.Member.{Member}
use Rattle.m17_floor.specs.declared.act.Act.{Act}
use Rattle.m17_floor.specs.declared.verdict.Verdict.{Verdict}
use Rattle.m17_lookup.specs.Lookup.{last_below}
use Rattle.m17_floor.specs.Setup.{FloorSetup}
use Rattle.m17_floor.specs.Acts.{kind_or_other, kind_at, greatest_moment, moment_before, moment_at, is_join_of, settles, joined_at}
use Rattle.m17_floor.specs.Floor.{Past, verdict_given, past_with, verdicts_before, past_at, verdict_at}
use Rattle.m17_lookup.proofs.LastBelow.{last_below_same, last_below_lt, and_then_same, kept_is, some_from_cond}

pub slice_get_before : {A : Type 0} (xs ys : List A) (m : ℕ) → m < length xs → slice_get (xs ++ ys) m ≡ slice_get xs m
slice_get_before [] ys m h = absurd (omega arith)
slice_get_before (x ∷ xs) ys zero h = refl
slice_get_before (x ∷ xs) ys (suc m) h = slice_get_before xs ys m (omega arith)

pub kind_before : (acts more : List Act) (m : ℕ) → m < length acts → kind_at (acts ++ more) m ≡ kind_at acts m
kind_before acts more m h = ap kind_or_other (slice_get_before acts more m h)

pub moment_before_same : (acts more : List Act) (n : ℕ) → n ≤ length acts → moment_before (acts ++ more) n ≡ moment_before acts n
moment_before_same acts more n h = ap greatest_moment (take-append-le n acts more h)

pub moment_at_same : (acts more : List Act) (n : ℕ) → n < length acts → moment_at (acts ++ more) n ≡ moment_at acts n
moment_at_same acts more n h = ap greatest_moment (take-append-le (suc n) acts more (omega arith))

-- the test that finds the position, and what is made of it
abbrev join_there : Member → List Act → ℕ → Option ℕ
join_there k acts j = cond (is_join_of k (kind_at acts j)) (Some j) None

pub joined_before : (places : ℕ) (acts more : List Act) (k : Member) (n : ℕ) → n ≤ length acts → joined_at places (acts ++ more) k n ≡ joined_at places acts k n
unfolding joined_at
joined_before places acts more k n h =
    let longer : ℕ → Bool = λ j. settles k (kind_at (acts ++ more) j) in
    let test : ℕ → Bool = λ j. settles k (kind_at acts j) in
    let found : last_below longer n ≡ last_below test n = last_below_same longer test n (λ m l. ap (settles k) (kind_before acts more m (omega arith))) in
    let there : (a : ℕ) → last_below test n ≡ Some a → join_there k (acts ++ more) a ≡ join_there k acts a = λ a e. ap (λ kind. cond (is_join_of k kind) (Some a) None) (kind_before acts more a (omega (arith, last_below_lt test n a e))) in
    ap (λ o. cond (nat_lt k.place places) o None)
    (ap (option_and_then (join_there k (acts ++ more))) found ∙ and_then_same (last_below test n) _ _ there)

pub joined_lt : (places : ℕ) (acts : List Act) (k : Member) (n j : ℕ) → joined_at places acts k n ≡ Some j → j < n
unfolding joined_at
joined_lt places acts k n j e =
    last_below_lt _ n j (kept_is (λ i. is_join_of k (kind_at acts i)) (last_below (λ i. settles k (kind_at acts i)) n) j (some_from_cond (nat_lt k.place places) _ j e))

-- the acts before a position
abbrev past_from : FloorSetup → List (Option Verdict) → List Act → Past
past_from setup verdicts front = record { setup = setup; acts = front; verdicts = verdicts }

pub past_with_same : (setup : FloorSetup) (acts more : List Act) (n : ℕ) (verdicts : List (Option Verdict)) → n ≤ length acts → past_with setup (acts ++ more) n verdicts ≡ past_with setup acts n verdicts
past_with_same setup acts more n verdicts h = ap (past_from setup verdicts) (take-append-le n acts more h)

pub verdicts_same : (setup : FloorSetup) (acts more : List Act) (n : ℕ) → n ≤ length acts → verdicts_before setup (acts ++ more) n ≡ verdicts_before setup acts n
unfolding verdicts_before
verdicts_same setup acts more zero h = refl
verdicts_same setup acts more (suc n) h =
    let longer : List Act = acts ++ more in
    let before : List (Option Verdict) = verdicts_before setup acts n in
    let past : verdicts_before setup longer n ≡ before = verdicts_same setup acts more n (omega arith) in
    ap (λ vs. vs ++ verdict_given (past_with setup longer n vs) (moment_at longer n) (kind_at longer n) ∷ []) past
    ∙ ap (λ p. before ++ verdict_given p (moment_at longer n) (kind_at longer n) ∷ []) (past_with_same setup acts more n before (omega arith))
    ∙ ap (λ at. before ++ verdict_given (past_with setup acts n before) at (kind_at longer n) ∷ []) (moment_at_same acts more n (omega arith))
    ∙ ap (λ kind. before ++ verdict_given (past_with setup acts n before) (moment_at acts n) kind ∷ []) (kind_before acts more n (omega arith))

pub past_at_same : (setup : FloorSetup) (acts more : List Act) (n : ℕ) → n ≤ length acts → past_at setup (acts ++ more) n ≡ past_at setup acts n
past_at_same setup acts more n h =
    ap (past_with setup (acts ++ more) n) (verdicts_same setup acts more n h)
    ∙ past_with_same setup acts more n (verdicts_before setup acts n) h

-- What happens later changes no verdict.
pub verdict_same : (setup : FloorSetup) (acts more : List Act) (n : ℕ) → n < length acts → verdict_at setup (acts ++ more) n ≡ verdict_at setup acts n
unfolding verdict_at
verdict_same setup acts more n h =
    let longer : List Act = acts ++ more in
    ap (λ p. verdict_given p (moment_at longer n) (kind_at longer n)) (past_at_same setup acts more n (omega arith))
    ∙ ap (λ at. verdict_given (past_at setup acts n) at (kind_at longer n)) (moment_at_same acts more n h)
    ∙ ap (verdict_given (past_at setup acts n) (moment_at acts n)) (kind_before acts more n h)
