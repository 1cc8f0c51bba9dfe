-- What became of an entry is in all that the run stands for.
use Rattle.std.proofs.Common.{◌≡◌, ℕ, ◌<◌, true, false, List, [], ◌∷◌, ◌++◌, length, map, nat_eq, slice_index, slice_index_or, Option, None, Some, refl, ap, sym, subst, ◌∙◌, arith, append_assoc}
use Rattle.std.specs.List.{filter_map, list_any, IsDistinct}
use Rattle.std.proofs.lemmas.List.{length-append}
use Rattle.m17_lists.proofs.Lengths.{one_more_is_one_longer}
use Rattle.m17_values.specs.declared.heard.Heard.{Heard}
use Rattle.m17_floor.specs.declared.verdict.Verdict.{Verdict}
use Rattle.m17_floor.specs.Laws.{LaterActsChangeNoVerdict, OnlyPacketsHaveVerdicts}
use Rattle.m17_directory.specs.declared.dispatch.Dispatch.{Dispatch}
use Rattle.m17_directory.specs.declared.known.Known.{Known}
use Rattle.m17_directory.specs.declared.known.Request.{Request}
use Rattle.m17_directory.specs.declared.verdict.LinkVerdict.{LinkVerdict}
use Rattle.m17_directory.specs.declared.verdict.LinkVerdict.TheVariants as link
use Rattle.m17_directory.specs.Entries.{Claim, Entry, Notice, Says, Setup, notice_at}
use Rattle.m17_directory.specs.Known.{Past, now}
use Rattle.m17_directory.specs.Outcome.{has_place}
use Rattle.m17_directory.specs.Routed.{unclaimed_at, others_at, settled_at, settled_by, request_at, asks_at, is_asks, link_verdict, posts_at, posted}
use Rattle.m17_directory.specs.StandsFor.{StandsFor, unclaimed, claimed}
use Rattle.m17_directory.specs.Laws.{OneEntryMore, EntriesBeforeDecide, EndedWhereItEnds, EventsCarryTheirIndex, PacketsAreRouted, is_ended, packet_letter, packet_routed}
use Rattle.m17_port_memory.specs.Kept.{TalliesKept}
use Rattle.m17_plan.specs.declared.plan.Plan.{Plan}
use Rattle.m17_house.specs.declared.run.Run.{Run}
use Rattle.m17_plan.specs.Planned.{IsPlan, setup_of}
use Rattle.m17_house.specs.Carried.{HasCarried}
use Rattle.m17_house.specs.SoFar.{change, scene, IsGiven, IsOneMore, IsSoFar, IsTakenIn, claim_of, past_with}
use Rattle.m17_house.proofs.Posts.{heard_same, others_same, claim_end, unasked_posts, unasked_verdict, asked_verdict}
use Rattle.m17_house.proofs.Found.{found_none}
use Rattle.m17_house.proofs.Among.{found_is}
use Rattle.m17_house.proofs.Chosen.{counts_unclaimed, counts_claimed, chosen_more, chosen_unasked, chosen_asked}
use Rattle.m17_house.proofs.HeardMore.{asked_all, asks_still, not_asks}

-- An entry that did not ask.
pub more_unasked : EntriesBeforeDecide → OneEntryMore → PacketsAreRouted → EventsCarryTheirIndex → LaterActsChangeNoVerdict → OnlyPacketsHaveVerdicts → (plan : Plan) (entries : List Entry) (notice : Notice) (h : Heard) (run : Run) (mouth : TalliesKept) (verdict : LinkVerdict) (answer : Option Verdict) →
    Says h notice → IsTakenIn plan entries notice (scene run mouth) (verdict, answer) → (verdict ≡ link.Asks → ⊥) → run.directory.asked ≡ None → IsOneMore plan entries h (scene run mouth) (verdict, answer)
more_unasked law more routes carry later only plan entries notice h run mouth verdict answer says taken apart asked =
    let entry : Entry = unclaimed notice in
    let longer : List Entry = entries ++ entry ∷ [] in
    let n : ℕ = length entries in
    let past : Past = past_with plan entries entry in
    let silent : asks_at past ≡ false = ap is_asks (sym taken.is_verdict) ∙ not_asks verdict (is_asks verdict) refl apart in
    let posts : posts_at (setup_of plan) longer n ≡ (unclaimed_at past).posts = unasked_posts (setup_of plan) longer n silent in
    let all : posted (setup_of plan) longer ≡ posted (setup_of plan) entries ++ (unclaimed_at past).posts = more.posts (setup_of plan) entries entry ∙ ap (λ ds. posted (setup_of plan) entries ++ ds) posts in
    let one : filter_map packet_letter (unclaimed_at past).posts ≡ packet_routed (link_verdict (setup_of plan) longer n) = ap (filter_map packet_letter) (sym posts) ∙ routes (setup_of plan) longer n in
    record {
      entry = entry;
      says = says;
      so_far = record {
        idle = taken.idle;
        asked = asked;
        stands = taken.stands;
        carried = subst (λ (ds : List Dispatch). HasCarried plan ds run.stage.rooms mouth) (sym all) taken.carried.carried;
        few = omega (arith, taken.few, ap length all, length-append (posted (setup_of plan) entries) (unclaimed_at past).posts, one_more_is_one_longer entries entry);
        given = counts_unclaimed run.given entries entry refl taken.given;
        taken = taken.taken;
        chosen = chosen_more law plan entries entry taken.chosen (chosen_unasked (setup_of plan) entries entry silent refl);
      };
      is_verdict = taken.is_verdict ∙ sym (unasked_verdict (setup_of plan) longer n silent);
      is_packet = taken.carried.found ∙ found_is only later carry plan longer n (posted (setup_of plan) entries) (unclaimed_at past).posts all posts one;
      ends = taken.ends;
    }

-- what a request comes to is no packet
settled_routes : (past : Past) (claim : Option Claim) (notice : Notice) (request : Option Request) → packet_routed (settled_by past claim notice request).verdict ≡ []
settled_routes past None (Notice.Sent from at p) (Some request) = refl
settled_routes past (Some claim) (Notice.Sent from at p) (Some request) = refl
settled_routes past claim (Notice.Sent from at p) None = refl
settled_routes past claim (Notice.Garbled from at refusal) request = refl
settled_routes past claim (Notice.Quiet at) request = refl
settled_routes past claim Notice.Fault request = refl
settled_routes past claim Notice.End request = refl

no_packet_settled : (past : Past) (claim : Option Claim) → packet_routed (settled_at past claim).verdict ≡ []
unfolding settled_at
no_packet_settled past claim = settled_routes past claim (notice_at past.entries (now past)) (request_at past)

-- An entry that asked.
pub more_asked : EntriesBeforeDecide → EndedWhereItEnds → OneEntryMore → PacketsAreRouted → EventsCarryTheirIndex → LaterActsChangeNoVerdict → OnlyPacketsHaveVerdicts → (plan : Plan) (entries : List Entry) (notice : Notice) (h : Heard) (old run : Run) (mouth mouth' : TalliesKept) (found : Option Verdict) (verdict : LinkVerdict) →
    Says h notice → IsTakenIn plan entries notice (scene old mouth) (link.Asks, found) → IsGiven plan entries notice (change old run mouth') verdict → IsOneMore plan entries h (scene run mouth') (verdict, None)
more_asked law ends more routes carry later only plan entries notice h old run mouth mouth' found verdict says taken given =
    let entry : Entry = claimed notice (claim_of given.member) in
    let longer : List Entry = entries ++ entry ∷ [] in
    let n : ℕ = length entries in
    let past : Past = past_with plan entries entry in
    let first : List Dispatch = (unclaimed_at (past_with plan entries (unclaimed notice))).posts in
    let second : List Dispatch = (settled_at past (claim_of given.member)).posts in
    let asks : asks_at past ≡ true = asks_still law plan entries notice (claim_of given.member) taken.is_verdict in
    let posts : posts_at (setup_of plan) longer n ≡ first ++ second = asked_all law more plan entries notice (claim_of given.member) taken.is_verdict in
    let all : posted (setup_of plan) longer ≡ posted (setup_of plan) entries ++ (first ++ second) = more.posts (setup_of plan) entries entry ∙ ap (λ ds. posted (setup_of plan) entries ++ ds) posts in
    let apart : posted (setup_of plan) longer ≡ (posted (setup_of plan) entries ++ first) ++ second = all ∙ sym (append_assoc (posted (setup_of plan) entries) first second) in
    let its_verdict : link_verdict (setup_of plan) longer n ≡ (settled_at past (claim_of given.member)).verdict = asked_verdict (setup_of plan) longer n asks ∙ ap (λ c. (settled_at past c).verdict) (claim_end entries entry) in
    let routed : filter_map packet_letter (first ++ second) ≡ packet_routed (link_verdict (setup_of plan) longer n) = ap (filter_map packet_letter) (sym posts) ∙ routes (setup_of plan) longer n in
    let none : filter_map packet_letter (first ++ second) ≡ [] = routed ∙ ap packet_routed its_verdict ∙ no_packet_settled past (claim_of given.member) in
    let places : old.directory.known ≡ others_at past = taken.others refl ∙ others_same law (setup_of plan) entries (unclaimed notice) entry refl in
    record {
      entry = entry;
      says = says;
      so_far = record {
        idle = given.idle;
        asked = given.asked;
        stands = given.stands;
        carried = subst (λ (ds : List Dispatch). HasCarried plan ds run.stage.rooms mouth') (sym apart) given.carried;
        few = omega (arith, given.few, ap length apart, length-append (posted (setup_of plan) entries ++ first) second, length-append (posted (setup_of plan) entries) first, one_more_is_one_longer entries entry);
        given = counts_claimed entries entry old.directory.known plan.places old.given run.given given.member refl taken.given given.choice;
        taken = given.taken;
        chosen = chosen_more law plan entries entry taken.chosen
            (chosen_asked (setup_of plan) entries entry old.directory.known old.given run.given given.member asks places (omega (arith, given.idle.is_plan.at_most)) refl taken.given given.choice);
      };
      is_verdict = given.is_verdict ∙ sym its_verdict;
      is_packet = sym (found_none only plan (first ++ second) (posted (setup_of plan) entries) None none) ∙ found_is only later carry plan longer n (posted (setup_of plan) entries) (first ++ second) all posts routed;
      ends = given.ends ∙ sym (ends (setup_of plan) (entries ++ unclaimed notice ∷ []) n)
          ∙ ap (λ o. is_ended o.verdict) (heard_same law (setup_of plan) entries (unclaimed notice) entry refl) ∙ ends (setup_of plan) longer n;
    }

-- A run that was just made has come through no entries.
posted_nothing : (setup : Setup) → posted setup [] ≡ []
unfolding posted
posted_nothing setup = refl

none_apart : IsDistinct nat_eq []
unfolding IsDistinct
none_apart = tt

pub made_run : (plan : Plan) (run : Run) (mouth : TalliesKept) → IsPlan plan → run.directory.setup ≡ setup_of plan → StandsFor run.directory [] → run.directory.asked ≡ None → run.directory.departing ≡ [] → run.directory.known ≡ [] →
    run.stage.name ≡ plan.name → HasCarried plan [] run.stage.rooms mouth → length run.given ≡ 256 → ((place : ℕ) → place < 256 → slice_index run.given place ≡ 0) → ((place : ℕ) → slice_index_or run.taken place false ≡ false) → IsSoFar plan [] run mouth
made_run plan run mouth is_plan setup stands asked departing known name carried cells none unmarked = record {
  idle = record { is_plan = is_plan; name = name; setup = setup; departing = departing; known = omega (arith, ap length known); apart = subst (λ (rows : List Known). IsDistinct nat_eq (map (λ (k : Known). k.member.place) rows)) (sym known) none_apart };
  asked = asked;
  stands = stands;
  carried = subst (λ (ds : List Dispatch). HasCarried plan ds run.stage.rooms mouth) (sym (posted_nothing (setup_of plan))) carried;
  few = omega (arith, ap length known, ap length (posted_nothing (setup_of plan)));
  given = record { cells = cells; each = none };
  taken = λ place. unmarked place ∙ ap (list_any (has_place place)) (sym known);
  chosen = λ n below. absurd (omega arith);
}
