-- The Joins of the talkers, one more at a time.
use Rattle.std.proofs.Common.{◌≡◌, ℕ, zero, suc, ◌+◌, ◌<◌, ◌≤◌, false, List, [], ◌∷◌, ◌++◌, length, map, fold, max, refl, sym, ap, subst, ◌∙◌, arith, inl, inr, lit≤}
use Rattle.std.proofs.lemmas.List.{take_all, map-append}
use Rattle.std.proofs.lemmas.List.Sums.{fold_push}
use Rattle.std.proofs.lemmas.List.FromFn.{map-range_with_len_more, length-map-range_with_len}
use Rattle.std.proofs.lemmas.Bool.{cases_lt}
use Rattle.m17_floor.specs.declared.act.Act.{Act}
use Rattle.m17_floor.specs.declared.act.ActKind.TheVariants.{Join}
use Rattle.m17_floor.specs.Acts.{moment_before, greatest_moment}
use Rattle.m17_floor.specs.Laws.{WhoJoinsMaySpeak, OthersStillMaySpeak}
use Rattle.m17_floor.specs.Acts.{is_packet}
use Rattle.m17_floor.specs.StandsFor.{MaySpeak, HasNoPacket}
use Rattle.m17_text_commands.specs.Judge.{joins, judge_setup, talker, talkers}

-- the Join of one talker
abbrev pub join_of : ℕ → Act
join_of t = record { at = 0; kind = Join (talker t) false }

joins_more : (n : ℕ) → joins (n + 1) ≡ joins n ++ join_of n ∷ []
unfolding joins
joins_more n = map-range_with_len_more join_of 0 n n (omega arith)

joins_none : joins 0 ≡ []
unfolding joins
joins_none = refl

pub length-joins : (n : ℕ) → length (joins n) ≡ n
unfolding joins
length-joins n = length-map-range_with_len join_of 0 n

-- the moment of a list is the greatest of its acts
moment_whole : (acts : List Act) → moment_before acts (length acts) ≡ greatest_moment acts
moment_whole acts = ap greatest_moment (take_all (length acts) acts (omega arith))

-- one more act brings the moment to its own, if that is greater
pub moment_more : (acts : List Act) (act : Act) → moment_before (acts ++ act ∷ []) (length (acts ++ act ∷ [])) ≡ max (moment_before acts (length acts)) act.at
moment_more acts act =
    moment_whole (acts ++ act ∷ [])
    ∙ ap (fold max 0) (map-append (λ (a : Act). a.at) acts (act ∷ []))
    ∙ fold_push max 0 (map (λ (a : Act). a.at) acts) act.at
    ∙ ap (λ m. max m act.at) (sym (moment_whole acts))

pub moment-joins : (n : ℕ) → moment_before (joins n) (length (joins n)) ≡ 0
moment-joins zero = rw joins_none refl
moment-joins (suc n) =
    let e : suc n ≡ n + 1 = omega arith in
    rw (e, joins_more n, moment_more (joins n) (join_of n), moment-joins n) refl

-- a list without packets, and then a Join
no_packet_more : (acts : List Act) (act : Act) → is_packet act.kind ≡ false → HasNoPacket acts → HasNoPacket (acts ++ act ∷ [])
no_packet_more [] act e h = (e, tt)
no_packet_more (a ∷ acts) act e h = (h.0, no_packet_more acts act e h.1)

pub no_packet-joins : (n : ℕ) → HasNoPacket (joins n)
no_packet-joins zero = rw joins_none tt
no_packet-joins (suc n) =
    let e : suc n ≡ n + 1 = omega arith in
    rw (e, joins_more n) (no_packet_more (joins n) (join_of n) refl (no_packet-joins n))

-- each talker that has joined may speak
pub speakers-joins : WhoJoinsMaySpeak → OthersStillMaySpeak → (n : ℕ) → n ≤ talkers → (t : ℕ) → t < n → MaySpeak judge_setup (joins n) (talker t)
speakers-joins joined others zero fits t h = absurd (omega arith)
speakers-joins joined others (suc n) fits t h =
    let e : suc n ≡ n + 1 = omega arith in
    let grown : joins n ++ join_of n ∷ [] ≡ joins (suc n) = sym (ap joins e ∙ joins_more n) in
    let here : MaySpeak judge_setup (joins n ++ join_of n ∷ []) (talker t) =
    elim (cases_lt t n) [
      | inl before ↦ others judge_setup (joins n) (talker n) 0 (talker t) (λ same. absurd (omega (arith, ap (λ (x : ℕ). x) same))) (speakers-joins joined others n (omega arith) t before)
      | inr after ↦ let same : n ≡ t = omega arith in subst (λ (m : ℕ). MaySpeak judge_setup (joins n ++ join_of n ∷ []) (talker m)) same (joined judge_setup (joins n) (talker n) 0 (omega arith))
    ] in
    subst (λ (acts : List Act). MaySpeak judge_setup acts (talker t)) grown here

pub le_talkers : talkers ≤ talkers
le_talkers = lit≤ tt
