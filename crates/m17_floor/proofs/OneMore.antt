-- What one more act makes of what is looked up at the end of a list.
use Rattle.std.proofs.Common.{◌≡◌, ℕ, zero, suc, ◌<◌, ◌≤◌, ◌&&◌, Bool, true, false, not, cond, List, [], ◌∷◌, ◌++◌, length, take, map, max, Option, None, Some, unwrap_or, slice_get, nat_lt, refl, ap, sym, ◌∙◌, ⊎_elim, arith}
use Rattle.std.proofs.lemmas.List.{take_all, map-append}
use Rattle.std.proofs.lemmas.List.Sums.{fold-append}
use Rattle.std.proofs.lemmas.Bool.{cases_Bool, cond-true, cond-false, le-ltb}
use Rattle.std.specs.List.{fold}
use Rattle.std.specs.Option.{option_and_then, option_map_or}
use Rattle.m17_values.specs.declared.member.Member.{Member}
use Rattle.m17_floor.specs.declared.act.Act.{Act}
use Rattle.m17_floor.specs.declared.verdict.Verdict.{Verdict}
use Rattle.m17_lookup.specs.Lookup.{last_below}
use Rattle.m17_floor.specs.Setup.{FloorSetup}
use Rattle.m17_floor.specs.Acts.{with_act, kind_or_other, kind_at, greatest_moment, moment_before, moment_at, is_join_of, settles, joined_at}
use Rattle.m17_floor.specs.Floor.{Past, given, was_admitted, is_in_since, last_admitted, joined, verdict_given, admits, past_at, verdicts_before, verdict_at}
use Rattle.m17_floor.specs.Laws.{joined_with}
use Rattle.m17_floor.specs.StandsFor.{past_of}
use Rattle.m17_lookup.proofs.LastBelow.{last_below_suc, last_below_same}
use Rattle.m17_floor.proofs.Prefix.{slice_get_before, joined_before, past_at_same, verdicts_same}

pub slice_get_end : {A : Type 0} (xs : List A) (y : A) → slice_get (xs ++ y ∷ []) (length xs) ≡ Some y
slice_get_end [] y = refl
slice_get_end (x ∷ xs) y = slice_get_end xs y

pub length_more : {A : Type 0} (xs : List A) (y : A) → length (xs ++ y ∷ []) ≡ suc (length xs)
length_more [] y = refl
length_more (x ∷ xs) y = ap suc (length_more xs y)

pub kind_end : (acts : List Act) (act : Act) → kind_at (with_act acts act) (length acts) ≡ act.kind
kind_end acts act = ap kind_or_other (slice_get_end acts act)

-- the moment of the new act, as it is counted
abbrev pub moment_there : List Act → ℕ → ℕ
moment_there acts moment = max (moment_before acts (length acts)) moment

pub moment_end : (acts : List Act) (act : Act) → moment_at (with_act acts act) (length acts) ≡ moment_there acts act.at
moment_end acts act =
    let l : length (with_act acts act) ≤ suc (length acts) = omega (arith, length_more acts act) in
    let whole : take (suc (length acts)) (with_act acts act) ≡ with_act acts act = take_all _ _ l in
    let old : take (length acts) acts ≡ acts = take_all _ _ (omega arith) in
    ap greatest_moment whole
    ∙ (ap (λ moments. fold max 0 moments) (map-append (λ (a : Act). a.at) acts (act ∷ []))
    ∙ fold-append max 0 (map (λ (a : Act). a.at) acts) (act.at ∷ [])
    ∙ ap (λ front. max (greatest_moment front) act.at) (sym old))

pub moment_after : (acts : List Act) (act : Act) → moment_before (with_act acts act) (length (with_act acts act)) ≡ moment_there acts act.at
moment_after acts act = ap (moment_before (with_act acts act)) (length_more acts act) ∙ moment_end acts act

swap_cond : (l j : Bool) (n : ℕ) → cond l (cond j (Some n) None) None ≡ cond (j && l) (Some n) None
swap_cond true true n = refl
swap_cond true false n = refl
swap_cond false true n = refl
swap_cond false false n = refl

-- the Join at a position, if it is the member's
abbrev join_there : Member → List Act → ℕ → Option ℕ
join_there k acts j = cond (is_join_of k (kind_at acts j)) (Some j) None

-- The new act decides whether the member is in.
joined_settled : (places : ℕ) (acts : List Act) (act : Act) (k : Member) → settles k act.kind ≡ true → joined_at places (with_act acts act) k (suc (length acts)) ≡ cond (is_join_of k act.kind && nat_lt k.place places) (Some (length acts)) None
unfolding joined_at
joined_settled places acts act k h =
    let n : ℕ = length acts in
    let longer : List Act = with_act acts act in
    let test : ℕ → Bool = λ j. settles k (kind_at longer j) in
    let here : test n ≡ true = ap (settles k) (kind_end acts act) ∙ h in
    let found : last_below test (suc n) ≡ Some n = last_below_suc test n ∙ cond-true (test n) (Some n) (last_below test n) here in
    ap (λ o. cond (nat_lt k.place places) (option_and_then (join_there k longer) o) None) found
    ∙ ap (λ kind. cond (nat_lt k.place places) (cond (is_join_of k kind) (Some n) None) None) (kind_end acts act)
    ∙ swap_cond (nat_lt k.place places) (is_join_of k act.kind) n

-- The new act doesn't decide whether the member is in.
joined_unsettled : (places : ℕ) (acts : List Act) (act : Act) (k : Member) → settles k act.kind ≡ false → joined_at places (with_act acts act) k (suc (length acts)) ≡ joined_at places acts k (length acts)
unfolding joined_at
joined_unsettled places acts act k h =
    let n : ℕ = length acts in
    let longer : List Act = with_act acts act in
    let test : ℕ → Bool = λ j. settles k (kind_at longer j) in
    let here : test n ≡ false = ap (settles k) (kind_end acts act) ∙ h in
    let found : last_below test (suc n) ≡ last_below test n = last_below_suc test n ∙ cond-false (test n) (Some n) (last_below test n) here in
    ap (λ o. cond (nat_lt k.place places) (option_and_then (join_there k longer) o) None) found
    ∙ joined_before places acts (act ∷ []) k n (omega arith)

-- Who is in after one act more.
pub membership_more : (places : ℕ) (acts : List Act) (act : Act) (k : Member) → joined_at places (with_act acts act) k (length (with_act acts act)) ≡ joined_with places acts act k
membership_more places acts act k =
    let s : Bool = settles k act.kind in
    let there : Option ℕ = cond (is_join_of k act.kind && nat_lt k.place places) (Some (length acts)) None in
    let old : Option ℕ = joined_at places acts k (length acts) in
    ap (joined_at places (with_act acts act) k) (length_more acts act)
    ∙ ⊎_elim
    (λ (h : s ≡ true). joined_settled places acts act k h ∙ sym (cond-true s there old h))
    (λ (h : s ≡ false). joined_unsettled places acts act k h ∙ sym (cond-false s there old h))
    (cases_Bool s)

pub length_verdicts : (setup : FloorSetup) (acts : List Act) (n : ℕ) → length (verdicts_before setup acts n) ≡ n
unfolding verdicts_before
length_verdicts setup acts zero = refl
length_verdicts setup acts (suc n) = length_more _ _ ∙ ap suc (length_verdicts setup acts n)

-- the verdict on the new act, and whether it is admitted
abbrev pub verdict_last : FloorSetup → List Act → Act → Option Verdict
verdict_last setup acts act = verdict_at setup (with_act acts act) (length acts)

abbrev pub admits_last : FloorSetup → List Act → Act → Bool
admits_last setup acts act = admits (verdict_last setup acts act)

pub verdicts_more : (setup : FloorSetup) (acts : List Act) (act : Act) → verdicts_before setup (with_act acts act) (length (with_act acts act)) ≡ verdicts_before setup acts (length acts) ++ verdict_last setup acts act ∷ []
unfolding verdicts_before verdict_at
verdicts_more setup acts act =
    ap (verdicts_before setup (with_act acts act)) (length_more acts act)
    ∙ ap (λ vs. vs ++ verdict_last setup acts act ∷ []) (verdicts_same setup acts (act ∷ []) (length acts) (omega arith))

-- these acts with the verdicts on them, and then one act more
abbrev pub grown : Past → Act → Option Verdict → Past
grown past act v = record { setup = past.setup; acts = with_act past.acts act; verdicts = past.verdicts ++ v ∷ [] }

pub past_more : (setup : FloorSetup) (acts : List Act) (act : Act) → past_of setup (with_act acts act) ≡ grown (past_of setup acts) act (verdict_last setup acts act)
past_more setup acts act =
    let longer : List Act = with_act acts act in
    let with_verdicts : List (Option Verdict) → Past = λ vs. record { setup = setup; acts = longer; verdicts = vs } in
    ap with_verdicts (verdicts_more setup acts act)

-- what is looked back on at the new act
pub past_end : (setup : FloorSetup) (acts more : List Act) → past_at setup (acts ++ more) (length acts) ≡ past_of setup acts
past_end setup acts more =
    let with_acts : List Act → Past = λ front. record { setup = setup; acts = front; verdicts = verdicts_before setup acts (length acts) } in
    past_at_same setup acts more (length acts) (omega arith)
    ∙ ap with_acts (take_all (length acts) acts (omega arith))

pub verdict_end : (setup : FloorSetup) (acts : List Act) (act : Act) → verdict_at setup (with_act acts act) (length acts) ≡ verdict_given (past_of setup acts) (moment_there acts act.at) act.kind
unfolding verdict_at
verdict_end setup acts act =
    let longer : List Act = with_act acts act in
    let n : ℕ = length acts in
    ap (λ p. verdict_given p (moment_at longer n) (kind_at longer n)) (past_end setup acts (act ∷ []))
    ∙ ap (λ at. verdict_given (past_of setup acts) at (kind_at longer n)) (moment_end acts act)
    ∙ ap (verdict_given (past_of setup acts) (moment_there acts act.at)) (kind_end acts act)

pub one_before : (xs : List (Option Verdict)) (v : Option Verdict) (m : ℕ) → m < length xs → unwrap_or (slice_get (xs ++ v ∷ []) m) None ≡ unwrap_or (slice_get xs m) None
one_before xs v m h = ap (λ o. unwrap_or o None) (slice_get_before xs (v ∷ []) m h)

pub one_end : (xs : List (Option Verdict)) (v : Option Verdict) (n : ℕ) → length xs ≡ n → unwrap_or (slice_get (xs ++ v ∷ []) n) None ≡ v
one_end xs v n len = rw (← len) (ap (λ o. unwrap_or o None) (slice_get_end xs v))

-- a past whose verdicts are as many as its acts
abbrev pub IsWhole : Past → Type 0
IsWhole past = length past.verdicts ≡ length past.acts

pub whole : (setup : FloorSetup) (acts : List Act) → IsWhole (past_of setup acts)
whole setup acts = length_verdicts setup acts (length acts)

pub given_before : (past : Past) (act : Act) (v : Option Verdict) (m : ℕ) → IsWhole past → m < length past.acts → given (grown past act v) m ≡ given past m
given_before past act v m len h = one_before past.verdicts v m (omega arith)

pub given_end : (past : Past) (act : Act) (v : Option Verdict) → IsWhole past → given (grown past act v) (length past.acts) ≡ v
given_end past act v len = one_end past.verdicts v (length past.acts) len

pub was_before : (past : Past) (act : Act) (v : Option Verdict) (m : ℕ) → IsWhole past → m < length past.acts → was_admitted (grown past act v) m ≡ was_admitted past m
was_before past act v m len h = ap admits (given_before past act v m len h)

pub was_end : (past : Past) (act : Act) (v : Option Verdict) → IsWhole past → was_admitted (grown past act v) (length past.acts) ≡ admits v
was_end past act v len = ap admits (given_end past act v len)

pub last_admitted_more : (past : Past) (act : Act) (v : Option Verdict) → IsWhole past → last_admitted (grown past act v) ≡ cond (admits v) (Some (length past.acts)) (last_admitted past)
last_admitted_more past act v len =
    let n : ℕ = length past.acts in
    let test : ℕ → Bool = was_admitted (grown past act v) in
    ap (last_below test) (length_more past.acts act)
    ∙ last_below_suc test n
    ∙ ap (λ c. cond c (Some n) (last_below test n)) (was_end past act v len)
    ∙ ap (cond (admits v) (Some n)) (last_below_same _ _ n (λ m l. was_before past act v m len l))

since_by_cases : (s j : Bool) (n a : ℕ) (old : Option ℕ) → a ≤ n → option_map_or (λ i. nat_lt i a) (cond s (cond j (Some n) None) old) false ≡ (not s && option_map_or (λ i. nat_lt i a) old false)
since_by_cases true true n a old h = le-ltb n a h
since_by_cases true false n a old h = refl
since_by_cases false j n a old h = refl

-- Since when a member has been in, after one act more.
pub since_more : (past : Past) (act : Act) (v : Option Verdict) (k : Member) (a : ℕ) → a ≤ length past.acts → is_in_since (grown past act v) k a ≡ (not (settles k act.kind) && is_in_since past k a)
since_more past act v k a h =
    ap (λ o. option_map_or (λ i. nat_lt i a) o false) (membership_more past.setup.places past.acts act k)
    ∙ since_by_cases (settles k act.kind) (is_join_of k act.kind && nat_lt k.place past.setup.places) (length past.acts) a (joined past k) h
