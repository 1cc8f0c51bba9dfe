-- What the last entry of a list posts, by what it says and by its claim.
use Rattle.std.proofs.Common.{◌≡◌, ℕ, suc, zero, Bool, true, false, cond, List, [], ◌∷◌, ◌++◌, length, take, Option, None, Some, refl, ap, sym, ◌∙◌, arith}
use Rattle.std.specs.List.{filter_map, cons_option, AllByRecursion}
use Rattle.std.specs.Option.{option_and_then}
use Rattle.std.proofs.lemmas.List.{append-nil, take-append-le}
use Rattle.std.proofs.lemmas.List.Elements.{filter_map-append}
use Rattle.std.proofs.lemmas.Bool.{eq-eqb}
use Rattle.m17_lists.proofs.Places.{first_of_rest_stands_behind}
use Rattle.m17_lists.proofs.Lengths.{one_more_is_one_longer, none_stands_behind}
use Rattle.m17_control.specs.declared.event.Event.{Event}
use Rattle.m17_control.specs.Modules.{serves}
use Rattle.m17_directory.specs.declared.dispatch.Dispatch.{Dispatch}
use Rattle.m17_directory.specs.declared.dispatch.Dispatch.TheVariants.{ToModule, ToDoor}
use Rattle.m17_directory.specs.Entries.{Entry, Setup, notice_of, notice_at, claim_at}
use Rattle.m17_directory.specs.Known.{Past}
use Rattle.m17_directory.specs.Outcome.{Outcome}
use Rattle.m17_directory.specs.Routed.{past_at, asks_at, unclaimed_at, others_at, settled_at, asked_before, both, comes_to, outcome_at, link_verdict, posts_at, posted, event_for, routed}
use Rattle.m17_directory.specs.Laws.{OnlyServedAreRouted, EntriesBeforeDecide}
use Rattle.m17_plan.specs.declared.plan.Plan.{Plan}
use Rattle.m17_plan.specs.Planned.{setup_of}
use Rattle.m17_house.specs.Carried.{IsServed}

pub take_before : (entries more : List Entry) → take (length entries) (entries ++ more) ≡ take (length entries) entries
take_before entries more = take-append-le (length entries) entries more (omega arith)

pub notice_end : (entries : List Entry) (a : Entry) → notice_at (entries ++ a ∷ []) (length entries) ≡ a.notice
notice_end entries a = ap notice_of (first_of_rest_stands_behind entries a [])

pub claim_end : (entries : List Entry) (a : Entry) → claim_at (entries ++ a ∷ []) (length entries) ≡ a.claim
claim_end entries a = ap (option_and_then (λ (entry : Entry). entry.claim)) (first_of_rest_stands_behind entries a [])

pub heard_same : EntriesBeforeDecide → (setup : Setup) (entries : List Entry) (a b : Entry) → a.notice ≡ b.notice →
    unclaimed_at (past_at setup (entries ++ a ∷ []) (length entries)) ≡ unclaimed_at (past_at setup (entries ++ b ∷ []) (length entries))
heard_same law setup entries a b same =
    law.heard setup (entries ++ a ∷ []) (entries ++ b ∷ []) (length entries) (take_before entries (a ∷ []) ∙ sym (take_before entries (b ∷ []))) (notice_end entries a ∙ same ∙ sym (notice_end entries b))

pub others_same : EntriesBeforeDecide → (setup : Setup) (entries : List Entry) (a b : Entry) → a.notice ≡ b.notice →
    others_at (past_at setup (entries ++ a ∷ []) (length entries)) ≡ others_at (past_at setup (entries ++ b ∷ []) (length entries))
others_same law setup entries a b same =
    law.others setup (entries ++ a ∷ []) (entries ++ b ∷ []) (length entries) (take_before entries (a ∷ []) ∙ sym (take_before entries (b ∷ []))) (notice_end entries a ∙ same ∙ sym (notice_end entries b))

-- as many are told of as there are positions before
pub asked_length : (setup : Setup) (entries : List Entry) (n : ℕ) → length (asked_before setup entries n) ≡ n
unfolding asked_before
asked_length setup entries zero = refl
asked_length setup entries (suc n) = one_more_is_one_longer (asked_before setup entries n) (asks_at (past_at setup entries n)) ∙ ap suc (asked_length setup entries n)

outcome_by : (setup : Setup) (entries : List Entry) (n : ℕ) → Bool → ℕ → Outcome
outcome_by setup entries n b m = cond b (both (unclaimed_at (past_at setup entries n)) (settled_at (past_at setup entries n) (claim_at entries m))) (unclaimed_at (past_at setup entries n))

outcome_is : (setup : Setup) (entries : List Entry) (n : ℕ) (b : Bool) → asks_at (past_at setup entries n) ≡ b → comes_to (past_at setup entries n) ≡ outcome_by setup entries n b n
unfolding outcome_by
outcome_is setup entries n b e =
    let past : Past = past_at setup entries n in
    ap (λ t. cond t (both (unclaimed_at past) (settled_at past (claim_at entries (length (asked_before setup entries n))))) (unclaimed_at past)) e
    ∙ ap (λ m. cond b (both (unclaimed_at past) (settled_at past (claim_at entries m))) (unclaimed_at past)) (asked_length setup entries n)

-- an entry that does not ask
pub unasked_posts : (setup : Setup) (entries : List Entry) (n : ℕ) → asks_at (past_at setup entries n) ≡ false → posts_at setup entries n ≡ (unclaimed_at (past_at setup entries n)).posts
unfolding posts_at outcome_by
unasked_posts setup entries n e = ap (λ o. o.posts) (outcome_is setup entries n false e)

pub unasked_verdict : (setup : Setup) (entries : List Entry) (n : ℕ) → asks_at (past_at setup entries n) ≡ false → link_verdict setup entries n ≡ (unclaimed_at (past_at setup entries n)).verdict
unfolding link_verdict outcome_by
unasked_verdict setup entries n e = ap (λ o. o.verdict) (outcome_is setup entries n false e)

-- one that asks
pub asked_posts : (setup : Setup) (entries : List Entry) (n : ℕ) → asks_at (past_at setup entries n) ≡ true → posts_at setup entries n ≡ (unclaimed_at (past_at setup entries n)).posts ++ (settled_at (past_at setup entries n) (claim_at entries n)).posts
unfolding posts_at outcome_by
asked_posts setup entries n e = ap (λ o. o.posts) (outcome_is setup entries n true e)

pub asked_verdict : (setup : Setup) (entries : List Entry) (n : ℕ) → asks_at (past_at setup entries n) ≡ true → link_verdict setup entries n ≡ (settled_at (past_at setup entries n) (claim_at entries n)).verdict
unfolding link_verdict outcome_by
asked_verdict setup entries n e = ap (λ o. o.verdict) (outcome_is setup entries n true e)

-- who leaves by either
pub unasked_left : (setup : Setup) (entries : List Entry) (n : ℕ) → asks_at (past_at setup entries n) ≡ false → (outcome_at setup entries n).left ≡ (unclaimed_at (past_at setup entries n)).left
unfolding outcome_by
unasked_left setup entries n e = ap (λ o. o.left) (outcome_is setup entries n false e)

pub asked_left : (setup : Setup) (entries : List Entry) (n : ℕ) → asks_at (past_at setup entries n) ≡ true → (outcome_at setup entries n).left ≡ (unclaimed_at (past_at setup entries n)).left ++ (settled_at (past_at setup entries n) (claim_at entries n)).left
unfolding outcome_by
asked_left setup entries n e = ap (λ o. o.left) (outcome_is setup entries n true e)

-- what it posts begins with what it posts before its claim
posts_begin_by : (setup : Setup) (entries : List Entry) (n : ℕ) (b : Bool) → asks_at (past_at setup entries n) ≡ b → (tail : List Dispatch) × (posts_at setup entries n ≡ (unclaimed_at (past_at setup entries n)).posts ++ tail)
posts_begin_by setup entries n true e = ((settled_at (past_at setup entries n) (claim_at entries n)).posts, asked_posts setup entries n e)
posts_begin_by setup entries n false e = ([], unasked_posts setup entries n e ∙ sym (append-nil (unclaimed_at (past_at setup entries n)).posts))

pub posts_begin : (setup : Setup) (entries : List Entry) (n : ℕ) → (tail : List Dispatch) × (posts_at setup entries n ≡ (unclaimed_at (past_at setup entries n)).posts ++ tail)
posts_begin setup entries n = posts_begin_by setup entries n (asks_at (past_at setup entries n)) refl

-- parts of a list with nothing in it
pub nil_left : {A : Type 0} (xs ys : List A) → xs ++ ys ≡ [] → xs ≡ []
nil_left [] ys e = refl
nil_left (x ∷ xs) ys e = cc

cons_nil : {A : Type 0} (o : Option A) (ys : List A) → cons_option o ys ≡ [] → ys ≡ []
cons_nil None ys e = e
cons_nil (Some x) ys e = cc

-- all that is posted goes to served modules or past them
here_served : (plan : Plan) (letter : ℕ) (event : Event) (rest : List Event) (b : Bool) → serves plan.modules letter ≡ b → (serves plan.modules letter ≡ false → cons_option (event_for letter (ToModule letter event)) rest ≡ []) → b ≡ true
here_served plan letter event rest true e none = refl
here_served plan letter event rest false e none =
    let never : event ∷ rest ≡ [] = ap (λ t. cons_option (cond t (Some event) None) rest) (sym (eq-eqb letter letter refl)) ∙ none e in
    cc

all_served : (plan : Plan) (posts : List Dispatch) → ((letter : ℕ) → serves plan.modules letter ≡ false → filter_map (event_for letter) posts ≡ []) → AllByRecursion (IsServed plan) posts
all_served plan [] none = tt
all_served plan (ToModule letter event ∷ posts) none = (
  here_served plan letter event (filter_map (event_for letter) posts) (serves plan.modules letter) refl (none letter),
  all_served plan posts (λ l e. cons_nil (event_for l (ToModule letter event)) (filter_map (event_for l) posts) (none l e)),
)
all_served plan (ToDoor direct ∷ posts) none = (tt, all_served plan posts none)

pub served_part : OnlyServedAreRouted → (plan : Plan) (entries : List Entry) (front posts back : List Dispatch) → posted (setup_of plan) entries ≡ (front ++ posts) ++ back → AllByRecursion (IsServed plan) posts
unfolding routed
served_part law plan entries front posts back is = all_served plan posts (λ letter e.
    let whole : filter_map (event_for letter) ((front ++ posts) ++ back) ≡ [] = ap (filter_map (event_for letter)) (sym is) ∙ law (setup_of plan) entries letter e in
    let parts : filter_map (event_for letter) (front ++ posts) ≡ [] = nil_left (filter_map (event_for letter) (front ++ posts)) (filter_map (event_for letter) back) (sym (filter_map-append (event_for letter) (front ++ posts) back) ∙ whole) in
    none_stands_behind (filter_map (event_for letter) front) (filter_map (event_for letter) posts) (sym (filter_map-append (event_for letter) front posts) ∙ parts))
