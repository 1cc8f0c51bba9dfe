-- Whether what is kept next is a breach, by what the acts before it leave behind.
use Rattle.std.proofs.Common.{◌≡◌, ◌↔◌, ℕ, ◌-◌, ◌<◌, Bool, List, [], ◌∷◌, ◌++◌, length, Option, None, Some, is_some, option_map, refl, ap, sym, subst, ◌∙◌, arith}
use Rattle.std.specs.Option.{option_and_then, option_map_or}
use Rattle.std.proofs.lemmas.List.{length-append}
use Rattle.m17_values.specs.declared.member.Member.{Member}
use Rattle.m17_floor.specs.declared.act.Act.{Act}
use Rattle.m17_floor.specs.declared.act.ActKind.{ActKind}
use Rattle.m17_floor.specs.declared.act.ActKind.TheVariants.{Join, Leave, Packet, Other}
use Rattle.m17_floor.specs.declared.rule.Rule.{Rule}
use Rattle.m17_floor.specs.declared.rule.Rule.TheVariants as rules
use Rattle.m17_floor.specs.declared.verdict.Verdict.{Verdict}
use Rattle.m17_floor.specs.Acts.{with_act, kind_at, joined_at}
use Rattle.m17_floor.specs.Floor.{listens, verdict_at}
use Rattle.m17_floor.specs.StandsFor.{its_join}
use Rattle.m17_floor.specs.Legal.{KeptAct, book_places, book_setup, acts_in, moment_written, verdict_written, FallsBehind, BreaksMembership, HasBreach}
use Rattle.m17_floor.specs.Alike.{stay_of, ComesOrGoesWrong, IsJudgedWrong, BreaksNext}
use Rattle.m17_floor.proofs.Breaches.{acts_append, length_acts, written_before, Differs, other_is}
use Rattle.m17_floor.proofs.LikeLists.{verdict_left}
use Rattle.m17_floor.proofs.OneMore.{slice_get_end, kind_end}
use Rattle.m17_floor.proofs.Prefix.{joined_before}

iff_path : {A B : Type 0} → A ≡ B → A ↔ B
iff_path same =
    let Same : Type 0 → Type 0 = λ T. T in
    (λ a. subst Same same a, λ b. subst Same (sym same) b)

iff_then : {A B C : Type 0} → A ↔ B → B ↔ C → A ↔ C
iff_then one other = (λ a. other.0 (one.0 a), λ c. one.1 (other.1 c))

written_end : (acts : List Act) (act : Act) → moment_written (with_act acts act) (length acts) ≡ act.at
written_end acts act = ap (λ o. option_map_or (λ (one : Act). one.at) o 0) (slice_get_end acts act)

falls_end : (acts : List Act) (act : Act) → FallsBehind (with_act acts act) (length acts) ↔ ((0 < length acts) × (act.at < moment_written acts (length acts - 1)))
falls_end acts act =
    let here : moment_written (with_act acts act) (length acts) ≡ act.at = written_end acts act in (
      λ falls.
          let back : moment_written (with_act acts act) (length acts - 1) ≡ moment_written acts (length acts - 1) = written_before acts (act ∷ []) (length acts - 1) (omega (arith, falls.0)) in
          (falls.0, subst (λ m. act.at < m) back (subst (λ m. m < moment_written (with_act acts act) (length acts - 1)) here falls.2)),
      λ falls.
          let back : moment_written (with_act acts act) (length acts - 1) ≡ moment_written acts (length acts - 1) = written_before acts (act ∷ []) (length acts - 1) (omega (arith, falls.0)) in
          (falls.0, omega (arith, length-append acts (act ∷ [])), subst (λ m. m < moment_written (with_act acts act) (length acts - 1)) (sym here) (subst (λ m. act.at < m) (sym back) falls.1)),
    )

some_mapped : (o : Option ℕ) (f : ℕ → Bool) → is_some o ≡ is_some (option_map f o)
some_mapped None f = refl
some_mapped (Some j) f = refl

-- who is in before the new act
in_before : (acts : List Act) (act : Act) (m : Member) → is_some (joined_at book_places (with_act acts act) m (length acts)) ≡ is_some (stay_of book_places acts m)
unfolding stay_of
in_before acts act m =
    ap (λ o. is_some o) (joined_before book_places acts (act ∷ []) m (length acts) (omega arith))
    ∙ some_mapped (its_join book_places acts m) (λ j. listens (kind_at acts j))

comes_end : (acts : List Act) (act : Act) (kind : ActKind) → BreaksMembership (with_act acts act) (length acts) kind ↔ ComesOrGoesWrong acts kind
comes_end acts act (Join k only) = (λ b. (b.0, b.1, sym (in_before acts act b.0) ∙ b.2), λ b. (b.0, b.1, in_before acts act b.0 ∙ b.2))
comes_end acts act (Leave k) = (λ out is. out (in_before acts act k ∙ is), λ out is. out (sym (in_before acts act k) ∙ is))
comes_end acts act (Packet k p) = (λ b. b, λ b. b)
comes_end acts act Other = (λ b. b, λ b. b)

judged_end : (limit : ℕ) (acts : List Act) (at : ℕ) (written : Option Verdict) (kind : ActKind) → Differs kind written (verdict_at (book_setup limit) (with_act acts (record { at = at; kind = kind })) (length acts)) ↔ IsJudgedWrong limit acts at written kind
judged_end limit acts at written (Packet k p) =
    let same = verdict_left (book_setup limit) acts at k p in
    (λ differs e. differs (e ∙ sym same), λ differs e. differs (e ∙ same))
judged_end limit acts at written (Join k only) = (λ d. d, λ d. d)
judged_end limit acts at written (Leave k) = (λ d. d, λ d. d)
judged_end limit acts at written Other = (λ d. d, λ d. d)

verdict_written_end : (kept : List KeptAct) (one : KeptAct) → verdict_written (kept ++ one ∷ []) (length kept) ≡ one.verdict
verdict_written_end kept one = ap (option_and_then (λ (x : KeptAct). x.verdict)) (slice_get_end kept one)

-- the acts with one more, and its position
acts_more : (kept : List KeptAct) (one : KeptAct) → acts_in (kept ++ one ∷ []) ≡ with_act (acts_in kept) one.act
acts_more kept one = acts_append kept (one ∷ [])

-- What is kept next is a breach exactly where it breaks the rule by what is left behind.
pub breach_next : (limit : ℕ) (kept : List KeptAct) (one : KeptAct) (rule : Rule) → HasBreach limit (kept ++ one ∷ []) (length kept) rule ↔ BreaksNext limit (acts_in kept) one rule
breach_next limit kept one rules.Moment =
    let acts : List Act = acts_in kept in
    iff_then (iff_path (ap (λ xs. FallsBehind xs (length kept)) (acts_more kept one) ∙ ap (FallsBehind (with_act acts one.act)) (sym (length_acts kept))))
    (falls_end acts one.act)
breach_next limit kept one rules.Member =
    let acts : List Act = acts_in kept in
    iff_then
    (iff_path (ap (λ xs. BreaksMembership xs (length kept) (kind_at xs (length kept))) (acts_more kept one)
    ∙ ap (λ n. BreaksMembership (with_act acts one.act) n (kind_at (with_act acts one.act) n)) (sym (length_acts kept))
    ∙ ap (BreaksMembership (with_act acts one.act) (length acts)) (kind_end acts one.act)))
    (comes_end acts one.act one.act.kind)
breach_next limit kept one rules.Verdict =
    let acts : List Act = acts_in kept in
    let more : List KeptAct = kept ++ one ∷ [] in
    iff_then (other_is limit more (length kept) (kind_at (acts_in more) (length kept)))
    (iff_then
    (iff_path (ap (λ xs. Differs (kind_at xs (length kept)) (verdict_written more (length kept)) (verdict_at (book_setup limit) xs (length kept))) (acts_more kept one)
    ∙ ap (λ n. Differs (kind_at (with_act acts one.act) n) (verdict_written more (length kept)) (verdict_at (book_setup limit) (with_act acts one.act) n)) (sym (length_acts kept))
    ∙ ap (λ kind. Differs kind (verdict_written more (length kept)) (verdict_at (book_setup limit) (with_act acts one.act) (length acts))) (kind_end acts one.act)
    ∙ ap (λ o. Differs one.act.kind o (verdict_at (book_setup limit) (with_act acts one.act) (length acts))) (verdict_written_end kept one)))
    (judged_end limit acts one.act.at one.verdict one.act.kind))
