-- A replay, entry by entry: one thing more was heard.
use Rattle.std.proofs.Common.{◌≡◌, ℕ, ◌-◌, ◌^◌, ◌<◌, false, List, [], ◌∷◌, ◌++◌, length, slice_index, Option, inl, inr, refl, ap, sym, ◌∙◌, arith}
use Rattle.std.specs.List.{range_with_len}
use Rattle.std.proofs.lemmas.List.{take-append-le, get_or_past}
use Rattle.std.proofs.lemmas.List.Sums.{count_by-le-length}
use Rattle.std.proofs.lemmas.List.FromFn.{length-range_with_len}
use Rattle.std.proofs.lemmas.Bool.{cases_lt}
use Rattle.m17_lists.proofs.Lengths.{one_more_is_one_longer}
use Rattle.m17_values.specs.declared.heard.Heard.{Heard}
use Rattle.m17_floor.specs.declared.verdict.Verdict.{Verdict}
use Rattle.m17_floor.specs.Laws.{LaterActsChangeNoVerdict}
use Rattle.m17_directory.specs.declared.verdict.LinkVerdict.{LinkVerdict}
use Rattle.m17_directory.specs.Entries.{Entry, Says, SaysEach, claim_at, ends_at}
use Rattle.m17_directory.specs.Known.{is_of_place}
use Rattle.m17_directory.specs.Routed.{posted, routed, direct_replies}
use Rattle.m17_directory.specs.Laws.{LaterEntriesChangeNothing, OneEntryMore, EntriesBeforeDecide, EndedWhereItEnds, EventsCarryTheirIndex, is_ended}
use Rattle.m17_port_memory.specs.Kept.{TalliesKept}
use Rattle.m17_plan.specs.declared.plan.Plan.{Plan}
use Rattle.m17_house.specs.declared.run.Run.{Run}
use Rattle.m17_house.specs.Hearing.{HasHeard, HearsMore}
use Rattle.m17_house.specs.Replay.{Outcome, said_to}
use Rattle.m17_plan.specs.Planned.{setup_of}
use Rattle.m17_house.specs.Tallied.{AreTalliesOf}
use Rattle.m17_house.specs.Carried.{said_after}
use Rattle.m17_house.specs.SoFar.{scene, AreCounts, IsOneMore, IsSoFar}
use Rattle.m17_house.proofs.Among.{link_before, packet_before}
use Rattle.m17_house.proofs.Chosen.{notice_before}

-- no place was given more often than entries were heard
pub room_of : (given : List ℕ) (entries : List Entry) → AreCounts given entries → length entries < 2 ^ 58 → (place : ℕ) → slice_index given place < 2 ^ 64 - 1
room_of given entries counts few place =
    elim (cases_lt place 256) [
      | inl below ↦ omega (arith, counts.each place below, few, count_by-le-length (λ i. is_of_place place (claim_at entries i)) (range_with_len 0 (length entries)), length-range_with_len 0 (length entries))
      | inr above ↦ omega (arith, get_or_past given place 0 (omega (arith, counts.cells)))
    ]

-- one thing more was heard
pub says_more : (front : List Heard) (entries : List Entry) (h : Heard) (e : Entry) → SaysEach front entries → Says h e.notice → SaysEach (front ++ h ∷ []) (entries ++ e ∷ [])
says_more [] [] h e each says = (says, tt)
says_more [] (x ∷ entries) h e each says = absurd each
says_more (g ∷ front) [] h e each says = absurd each
says_more (g ∷ front) (x ∷ entries) h e each says = (each.0, says_more front entries h e each.1 says)

pub ends_before : EntriesBeforeDecide → EndedWhereItEnds → (plan : Plan) (entries : List Entry) (e : Entry) (i : ℕ) → i < length entries → ends_at (entries ++ e ∷ []) i ≡ ends_at entries i
ends_before law ends plan entries e i below =
    sym (ends (setup_of plan) (entries ++ e ∷ []) i)
    ∙ ap (λ o. is_ended o.verdict) (law.heard (setup_of plan) (entries ++ e ∷ []) entries i (take-append-le i entries (e ∷ []) (omega arith)) (notice_before entries e i below))
    ∙ ends (setup_of plan) entries i

-- nothing was heard
pub heard_nothing : (plan : Plan) (run : Run) (mouth : TalliesKept) → IsSoFar plan [] run mouth → run.post ≡ [] → run.stage.out ≡ [] → run.directory.ended ≡ false → HasHeard plan [] [] run mouth
heard_nothing plan run mouth so_far post out going = record {
  says = tt;
  open_still = λ n below. absurd (omega arith);
  so_far = so_far;
  post = post;
  out = out;
  going = going;
}

-- both parts of what an entry came to
abbrev pair : LinkVerdict → Option Verdict → Outcome
pair verdict packet = (verdict, packet)

same_pair : (a b : LinkVerdict) (c d : Option Verdict) → a ≡ b → c ≡ d → pair a c ≡ pair b d
same_pair a b c d e f = ap (λ v. pair v c) e ∙ ap (pair b) f

-- what is said by what was carried out is what the replay says
said_is : (plan : Plan) (entries : List Entry) (mouth : TalliesKept) → AreTalliesOf (said_after plan (posted (setup_of plan) entries)) mouth → AreTalliesOf (said_to plan entries) mouth
unfolding said_after said_to routed direct_replies
said_is plan entries mouth are = are

-- One thing more was heard.
pub hears_more : EntriesBeforeDecide → EndedWhereItEnds → LaterEntriesChangeNothing → OneEntryMore → EventsCarryTheirIndex → LaterActsChangeNoVerdict → (plan : Plan) (heard : List Heard) (entries : List Entry) (h : Heard) (old run : Run) (mouth mouth' : TalliesKept) (verdict : LinkVerdict) (packet : Option Verdict) →
    HasHeard plan heard entries old mouth → IsOneMore plan entries h (scene run mouth') (verdict, packet) → run.post ≡ [] → run.stage.out ≡ [] → HearsMore plan heard entries h (scene run mouth') (verdict, packet)
hears_more law ends nothing more carry later plan heard entries h old run mouth mouth' verdict packet before one post out =
    let e : Entry = one.entry in
    let each : SaysEach (heard ++ h ∷ []) (entries ++ e ∷ []) = says_more heard entries h e before.says one.says in
    let earlier : (n : ℕ) → n < length entries → ends_at (entries ++ e ∷ []) n ≡ false = λ n below. ends_before law ends plan entries e n below ∙ before.open_still n below in
    record {
      entry = e;
      says = one.says;
      is_answer = sym (same_pair verdict _ packet _ one.is_verdict one.is_packet);
      others_stay = λ n below. same_pair _ _ _ _ (link_before nothing plan entries e n below) (packet_before later nothing more carry plan entries e n below);
      tallies = said_is plan (entries ++ e ∷ []) mouth' one.so_far.carried.tallies;
      goes_on = λ going. record {
        says = each;
        open_still = λ n within.
            elim (cases_lt n (length entries)) [
              | inl below ↦ earlier n below
              | inr last ↦
                  let here : length entries ≡ n = omega (arith, one_more_is_one_longer entries e) in
                  ap (ends_at (entries ++ e ∷ [])) (sym here) ∙ sym one.ends ∙ going
            ];
        so_far = one.so_far;
        post = post;
        out = out;
        going = going;
      };
      ends = λ over rest. record {
        front = heard ++ h ∷ [];
        rest = rest;
        heard_is = refl;
        says = each;
        ends = record {
          last = length entries;
          is_last = sym (one_more_is_one_longer entries e);
          ends = sym one.ends ∙ over;
          not_before = earlier;
        };
        chosen = one.so_far.chosen;
      };
    }
