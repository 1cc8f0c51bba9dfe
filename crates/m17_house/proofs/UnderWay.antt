-- A replay in one thread, with lists of verdicts: what was heard so far.
use Rattle.std.proofs.Common.{◌≡◌, ℕ, zero, suc, ◌+◌, ◌<◌, ◌≤◌, true, false, List, [], ◌∷◌, ◌++◌, length, map, take, drop, get_or, Option, refl, sym, ap, subst, ◌∙◌, arith}
use Rattle.std.specs.List.{range_with_len}
use Rattle.std.proofs.lemmas.Bool.{false≢true}
use Rattle.std.proofs.lemmas.List.{take_more, take_all, take-append-drop}
use Rattle.std.proofs.lemmas.List.FromFn.{map-range_with_len_more}
use Rattle.m17_lists.proofs.Lengths.{one_more_is_one_longer}
use Rattle.m17_values.specs.declared.heard.Heard.{Heard}
use Rattle.m17_floor.specs.declared.verdict.Verdict.{Verdict}
use Rattle.m17_directory.specs.declared.verdict.LinkVerdict.{LinkVerdict}
use Rattle.m17_directory.specs.Entries.{Entry, SaysEach}
use Rattle.m17_port_memory.specs.Kept.{TalliesKept}
use Rattle.m17_plan.specs.declared.plan.Plan.{Plan}
use Rattle.m17_house.specs.declared.run.Run.{Run}
use Rattle.m17_house.specs.Hearing.{has_ended, HasHeard, HearsMore}
use Rattle.m17_house.specs.Replay.{EndsSomewhere, verdicts_of, packet_verdicts_of, Outcome, outcome_of, IsReplayOf, IsReplayed}
use Rattle.m17_house.specs.SoFar.{scene}

-- So many were heard, none of which ends the link, and these are their verdicts.
pub record IsUnderWay (plan : Plan) (heard : List Heard) (index : ℕ) (run : Run) (mouth : TalliesKept) (verdicts : List LinkVerdict) (packets : List (Option Verdict)) : Type 0 where
  pub entries : List Entry
  pub count : length entries ≡ index
  pub has : HasHeard plan (take index heard) entries run mouth
  pub each : verdicts ≡ verdicts_of plan entries
  pub each_packet : packets ≡ packet_verdicts_of plan entries

pub sets_out : (plan : Plan) (heard : List Heard) (run : Run) (mouth : TalliesKept) (verdicts : List LinkVerdict) (packets : List (Option Verdict)) → HasHeard plan [] [] run mouth → verdicts ≡ [] → packets ≡ [] → IsUnderWay plan heard 0 run mouth verdicts packets
sets_out plan heard run mouth verdicts packets has none none' = record { entries = []; count = refl; has = has; each = none; each_packet = none' }

-- Some entry ends the link: not all were heard without it.
pub never_over : (plan : Plan) (heard : List Heard) (index : ℕ) (run : Run) (mouth : TalliesKept) (verdicts : List LinkVerdict) (packets : List (Option Verdict)) → EndsSomewhere heard → length heard ≤ index → IsUnderWay plan heard index run mouth verdicts packets → ⊥
never_over plan heard index run mouth verdicts packets somewhere all way =
    let says : SaysEach heard way.entries = subst (λ (hs : List Heard). SaysEach hs way.entries) (take_all index heard all) way.has.says in
    let it = somewhere way.entries says in
    false≢true (sym (way.has.open_still it.0 it.1) ∙ it.2)

-- a function of positions that stays what it was
map_same : {A : Type 0} (f g : ℕ → A) (a n : ℕ) → ((i : ℕ) → i < a + n → f i ≡ g i) → map f (range_with_len a n) ≡ map g (range_with_len a n)
map_same f g a zero same = refl
map_same f g a (suc n) same = ap (λ x. x ∷ map f (range_with_len (a + 1) n)) (same a (omega arith)) ∙ ap (λ xs. g a ∷ xs) (map_same f g (a + 1) n (λ i below. same i (omega arith)))

module _ (plan : Plan) (heard : List Heard) (index : ℕ) (h : Heard) (old run : Run) (mouth mouth' : TalliesKept) (verdicts verdicts' : List LinkVerdict) (packets packets' : List (Option Verdict)) (o : Outcome)
    (below : index < length heard) (item : h ≡ get_or heard index h) (way : IsUnderWay plan heard index old mouth verdicts packets) (one : HearsMore plan (take index heard) way.entries h (scene run mouth') o)
    (vs : verdicts' ≡ verdicts ++ o.0 ∷ []) (ps : packets' ≡ packets ++ o.1 ∷ []) where
  abbrev longer : List Entry
  longer = way.entries ++ one.entry ∷ []

  front : take (index + 1) heard ≡ take index heard ++ h ∷ []
  front = take_more heard index h below ∙ ap (λ x. take index heard ++ x ∷ []) (sym item)

  size : length longer ≡ length way.entries + 1
  size = omega (arith, one_more_is_one_longer way.entries one.entry)

  -- what all came to, of which this tells a part
  all : {A : Type 0} (part : Outcome → A) → map (λ n. part (outcome_of plan longer n)) (range_with_len 0 (length longer)) ≡ map (λ n. part (outcome_of plan way.entries n)) (range_with_len 0 (length way.entries)) ++ part o ∷ []
  all part =
      ap (λ n. map (λ i. part (outcome_of plan longer i)) (range_with_len 0 n)) size
      ∙ map-range_with_len_more (λ i. part (outcome_of plan longer i)) 0 (length way.entries) (length way.entries) (omega arith)
      ∙ ap (λ xs. xs ++ part (outcome_of plan longer (length way.entries)) ∷ []) (map_same (λ i. part (outcome_of plan longer i)) (λ i. part (outcome_of plan way.entries i)) 0 (length way.entries) (λ i within. ap part (one.others_stay i (omega (arith, within)))))
      ∙ ap (λ x. map (λ n. part (outcome_of plan way.entries n)) (range_with_len 0 (length way.entries)) ++ part x ∷ []) one.is_answer

  each : verdicts' ≡ verdicts_of plan longer
  each = vs ∙ ap (λ xs. xs ++ o.0 ∷ []) way.each ∙ sym (all (λ (x : Outcome). x.0))

  each_packet : packets' ≡ packet_verdicts_of plan longer
  each_packet = ps ∙ ap (λ xs. xs ++ o.1 ∷ []) way.each_packet ∙ sym (all (λ (x : Outcome). x.1))

  -- The link goes on.
  pub goes_on : has_ended run ≡ false → IsUnderWay plan heard (index + 1) run mouth' verdicts' packets'
  goes_on going = record {
    entries = longer;
    count = omega (arith, size, way.count);
    has = subst (λ (hs : List Heard). HasHeard plan hs longer run mouth') (sym front) (one.goes_on going);
    each = each;
    each_packet = each_packet;
  }

  -- It has ended.
  pub arrives : has_ended run ≡ true → IsReplayed plan heard verdicts' packets' mouth'
  arrives over =
      let whole : (take index heard ++ h ∷ []) ++ drop (index + 1) heard ≡ heard = ap (λ hs. hs ++ drop (index + 1) heard) (sym front) ∙ take-append-drop (index + 1) heard in
      record {
        entries = longer;
        replay = subst (λ (hs : List Heard). IsReplayOf plan hs longer) whole (one.ends over (drop (index + 1) heard));
        each = each;
        each_packet = each_packet;
        tallies = one.tallies;
      }
