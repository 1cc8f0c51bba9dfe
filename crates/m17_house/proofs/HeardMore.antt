-- An entry was heard, and its request settled: what the run then stands for.
use Rattle.std.proofs.Common.{◌≡◌, ◌↔◌, ℕ, ◌+◌, ◌-◌, ◌^◌, ◌<◌, ◌≤◌, Bool, true, false, List, [], ◌∷◌, ◌++◌, length, map, nat_eq, nat_lt, Option, None, Some, IsSome, refl, ap, sym, subst, ◌∙◌, arith, append_assoc}
use Rattle.std.specs.List.{filter_map, AllByRecursion, IsDistinct}
use Rattle.std.proofs.lemmas.List.{append-nil, length-append, length-map}
use Rattle.std.proofs.lemmas.Bool.{false≢true}
use Rattle.m17_values.specs.declared.member.Member.{Member}
use Rattle.m17_floor.specs.declared.verdict.Verdict.{Verdict}
use Rattle.m17_directory.specs.declared.asked.Asked.{Asked}
use Rattle.m17_directory.specs.declared.dispatch.Dispatch.{Dispatch}
use Rattle.m17_directory.specs.declared.known.Departed.{Departed}
use Rattle.m17_directory.specs.declared.known.Known.{Known}
use Rattle.m17_directory.specs.declared.verdict.LinkVerdict.{LinkVerdict}
use Rattle.m17_directory.specs.declared.verdict.LinkVerdict.TheVariants as link
use Rattle.m17_directory.specs.Entries.{Claim, Entry, Notice, Setup, claim_at}
use Rattle.m17_directory.specs.Known.{Past, known_at}
use Rattle.m17_directory.specs.Routed.{past_at, unclaimed_at, others_at, settled_at, asks_at, is_asks, posts_at, posted}
use Rattle.m17_directory.specs.StandsFor.{DirectoryKept, StandsFor, IsHeard, IsSettled, unclaimed, claimed, departed_of}
use Rattle.m17_directory.specs.Laws.{AskersAskForServedModules, OneEntryMore, OnlyServedAreRouted, EntriesBeforeDecide, EachWhoLeavesIsPosted, EndedWhereItEnds, LaterEntriesChangeNothing, PeersComeAndGo, is_ended, left_member}
use Rattle.m17_port_memory.specs.Kept.{TalliesKept}
use Rattle.m17_plan.specs.declared.plan.Plan.{Plan}
use Rattle.m17_house.specs.declared.run.Run.{Run}
use Rattle.m17_plan.specs.Planned.{setup_of}
use Rattle.m17_house.specs.Carried.{HasCarried, IsServed}
use Rattle.m17_house.specs.SoFar.{change, scene, IsCarriedOut, IsChoice, IsGiven, IsSoFar, IsTakenIn, AreCounts, AreTaken, claim_of, freeing, noting, past_with, without_members}
use Rattle.m17_house.proofs.Few.{few_heard, few_settled}
use Rattle.m17_house.proofs.Taken.{apart_alone, apart_given, still_taken, stay_heard, stay_settled}
use Rattle.m17_house.proofs.Notes.{all_noted, noting_stands}
use Rattle.m17_house.proofs.Posts.{heard_same, claim_end, asked_posts, posts_begin, served_part}

-- the verdict Ended, and what a directory keeps of it
ended_of : (v : LinkVerdict) → is_ended v ≡ true → v ≡ link.Ended
ended_of link.Ended e = refl
ended_of _ e = absurd (false≢true e)

ended_by : (v : LinkVerdict) (b c : Bool) → is_ended v ≡ c → (b ≡ true) ↔ (v ≡ link.Ended) → b ≡ c
ended_by v true true e iff = refl
ended_by v false false e iff = refl
ended_by v true false e iff = absurd (false≢true (sym e ∙ ap is_ended (iff.0 refl)))
ended_by v false true e iff = iff.1 (ended_of v e)

asks_of : (v : LinkVerdict) → is_asks v ≡ true → v ≡ link.Asks
asks_of link.Asks e = refl
asks_of _ e = absurd (false≢true e)

pub not_asks : (v : LinkVerdict) (b : Bool) → is_asks v ≡ b → (v ≡ link.Asks → ⊥) → b ≡ false
not_asks v true e apart = absurd (apart (asks_of v e))
not_asks v false e apart = refl

pub nothing_asked : (o : Option Asked) → (IsSome o → ⊥) → o ≡ None
nothing_asked None apart = refl
nothing_asked (Some a) apart = absurd (apart refl)

-- What a directory has heard, in the words of a plan.
record HasHeard (setup : Setup) (entries : List Entry) (notice : Notice) (mid : DirectoryKept) (verdict : LinkVerdict) (posts : List Dispatch) : Type 0 where
  stands : StandsFor mid (entries ++ unclaimed notice ∷ [])
  is_verdict : verdict ≡ (unclaimed_at (past_at setup (entries ++ unclaimed notice ∷ []) (length entries))).verdict
  are_posts : posts ≡ (unclaimed_at (past_at setup (entries ++ unclaimed notice ∷ []) (length entries))).posts
  departing : mid.departing ≡ map departed_of (unclaimed_at (past_at setup (entries ++ unclaimed notice ∷ []) (length entries))).left
  others : verdict ≡ link.Asks → mid.known ≡ others_at (past_at setup (entries ++ unclaimed notice ∷ []) (length entries))

has_heard : (plan : Plan) (entries : List Entry) (notice : Notice) (old mid : DirectoryKept) (verdict : LinkVerdict) (posts : List Dispatch) → old.setup ≡ setup_of plan → old.departing ≡ [] → IsHeard old mid entries notice (record { verdict = verdict; posts = posts }) → HasHeard (setup_of plan) entries notice mid verdict posts
has_heard plan entries notice old mid verdict posts setup nobody heard =
    let left : List Known = (unclaimed_at (past_at old.setup (entries ++ unclaimed notice ∷ []) (length entries))).left in
    subst (λ (s : Setup). HasHeard s entries notice mid verdict posts) setup (record {
      stands = heard.stands;
      is_verdict = heard.outcome.verdict;
      are_posts = heard.outcome.posts;
      departing = heard.outcome.departing ∙ ap (λ (ds : List Departed). ds ++ map departed_of left) nobody;
      others = heard.others;
    })

-- nobody is departing when all that left were noted
none_departing : (posts : List Dispatch) (mid : DirectoryKept) (left : List Known) → filter_map left_member posts ≡ map (λ (k : Known). k.member) left → mid.departing ≡ map departed_of left → without_members (filter_map left_member posts) mid.departing ≡ []
none_departing posts mid left members departing =
    ap (λ ms. without_members ms mid.departing) members ∙ ap (without_members (map (λ (k : Known). k.member) left)) departing ∙ all_noted left

-- who is known by these entries
known_of : (plan : Plan) (kept : DirectoryKept) (entries : List Entry) → StandsFor kept entries → kept.setup ≡ setup_of plan → kept.known ≡ known_at (past_at (setup_of plan) entries (length entries))
known_of plan kept entries stands setup = stands.known ∙ ap (λ (s : Setup). known_at (past_at s entries (length entries))) setup

-- An entry was taken in.
pub taken_in : EachWhoLeavesIsPosted → EndedWhereItEnds → EntriesBeforeDecide → LaterEntriesChangeNothing → PeersComeAndGo → OneEntryMore → OnlyServedAreRouted → (plan : Plan) (entries : List Entry) (notice : Notice) (old run : Run) (mouth mouth' : TalliesKept) (mid : DirectoryKept) (verdict : LinkVerdict) (posts : List Dispatch) (answer : Option Verdict) →
    length entries < 2 ^ 58 → IsSoFar plan entries old mouth →
    IsHeard old.directory mid entries notice (record { verdict = verdict; posts = posts }) →
    mid.setup ≡ old.directory.setup → (mid.ended ≡ true) ↔ (verdict ≡ link.Ended) → length mid.known ≤ mid.setup.places → IsDistinct nat_eq (map (λ (k : Known). k.member.place) mid.known) →
    length mid.known + length mid.departing ≡ length old.directory.known + length old.directory.departing →
    run.directory ≡ noting (filter_map left_member posts) mid → run.stage.name ≡ old.stage.name → run.given ≡ old.given → run.taken ≡ freeing (filter_map left_member posts) old.taken →
    ((before : List Dispatch) → old.stage.name ≡ plan.name → AllByRecursion (IsServed plan) posts → length before + length posts < 2 ^ 64 - 1 → HasCarried plan before old.stage.rooms mouth → IsCarriedOut plan before posts (run.stage.rooms, mouth') answer) →
    IsTakenIn plan entries notice (scene run mouth') (verdict, answer)
taken_in leaves ends law later come more only plan entries notice old run mouth mouth' mid verdict posts answer few so_far heard setup ended bounded apart together noted name given freed carry =
    let entry : Entry = unclaimed notice in
    let longer : List Entry = entries ++ entry ∷ [] in
    let past : Past = past_with plan entries entry in
    let has : HasHeard (setup_of plan) entries notice mid verdict posts = has_heard plan entries notice old.directory mid verdict posts so_far.idle.setup so_far.idle.departing heard in
    let count : length posts + length mid.known ≤ length old.directory.known + 52 =
    omega (arith, together, ap length so_far.idle.departing, ap length has.departing, length-map (unclaimed_at past).left departed_of, ap length has.are_posts, few_heard past) in
    let begin = posts_begin (setup_of plan) longer (length entries) in
    let all : posted (setup_of plan) longer ≡ (posted (setup_of plan) entries ++ posts) ++ begin.0 =
    more.posts (setup_of plan) entries entry ∙ ap (λ ds. posted (setup_of plan) entries ++ ds) (begin.1 ∙ ap (λ ds. ds ++ begin.0) (sym has.are_posts)) ∙ sym (append_assoc (posted (setup_of plan) entries) posts begin.0) in
    let served : AllByRecursion (IsServed plan) posts = served_part only plan longer (posted (setup_of plan) entries) posts begin.0 all in
    let fits : length (posted (setup_of plan) entries) + length posts < 18446744073709551615 = omega (arith, so_far.few, count, few) in
    let carried : IsCarriedOut plan (posted (setup_of plan) entries) posts (run.stage.rooms, mouth') answer = carry (posted (setup_of plan) entries) so_far.idle.name served fits so_far.carried in
    let is_known : run.directory.known ≡ mid.known = ap (λ (k : DirectoryKept). k.known) noted in
    let all_setup : run.directory.setup ≡ setup_of plan = ap (λ (k : DirectoryKept). k.setup) noted ∙ setup ∙ so_far.idle.setup in
    let places : mid.setup.places ≡ plan.places = ap (λ (s : Setup). s.places) (setup ∙ so_far.idle.setup) in
    let left : filter_map left_member posts ≡ map (λ (k : Known). k.member) (unclaimed_at past).left = ap (filter_map left_member) has.are_posts ∙ leaves.heard past in
    record {
      idle = record {
        is_plan = so_far.idle.is_plan;
        name = name ∙ so_far.idle.name;
        setup = all_setup;
        departing = ap (λ (k : DirectoryKept). k.departing) noted
            ∙ none_departing posts mid (unclaimed_at past).left left has.departing;
        known = omega (arith, ap length is_known, bounded, places);
        apart = subst (λ (rows : List Known). IsDistinct nat_eq (map (λ (k : Known). k.member.place) rows)) (sym is_known) apart;
      };
      stands = subst (λ (k : DirectoryKept). StandsFor k longer) (sym noted) (noting_stands (filter_map left_member posts) mid longer has.stands);
      carried = subst (λ (ds : List Dispatch). IsCarriedOut plan (posted (setup_of plan) entries) ds (run.stage.rooms, mouth') answer) has.are_posts carried;
      is_verdict = has.is_verdict;
      others = λ asks. is_known ∙ has.others asks;
      ends = ap (λ (k : DirectoryKept). k.ended) noted ∙ ended_by verdict mid.ended (is_ended verdict) refl ended ∙ ap is_ended has.is_verdict ∙ ends (setup_of plan) longer (length entries);
      few = omega (arith, so_far.few, count, ap length is_known, ap length has.are_posts);
      given = subst (λ (xs : List ℕ). AreCounts xs entries) (sym given) so_far.given;
      taken = still_taken None old.directory.known (unclaimed_at past).left run.directory.known old.taken run.taken (filter_map left_member posts) so_far.taken (apart_alone old.directory.known so_far.idle.apart) freed left
          (stay_heard law later come plan entries so_far.chosen notice old.directory.known run.directory.known
          (known_of plan old.directory entries so_far.stands so_far.idle.setup) (is_known ∙ known_of plan mid longer has.stands (setup ∙ so_far.idle.setup)));
      chosen = so_far.chosen;
    }

-- where the entry with its claim asks too
pub asks_still : EntriesBeforeDecide → (plan : Plan) (entries : List Entry) (notice : Notice) (claim : Option Claim) → link.Asks ≡ (unclaimed_at (past_with plan entries (unclaimed notice))).verdict → asks_at (past_with plan entries (claimed notice claim)) ≡ true
asks_still law plan entries notice claim asks = ap (λ o. is_asks o.verdict) (heard_same law (setup_of plan) entries (claimed notice claim) (unclaimed notice) refl) ∙ ap is_asks (sym asks)

-- what an entry that asks posts in all
pub asked_all : EntriesBeforeDecide → OneEntryMore → (plan : Plan) (entries : List Entry) (notice : Notice) (claim : Option Claim) → link.Asks ≡ (unclaimed_at (past_with plan entries (unclaimed notice))).verdict →
    posts_at (setup_of plan) (entries ++ claimed notice claim ∷ []) (length entries) ≡ (unclaimed_at (past_with plan entries (unclaimed notice))).posts ++ (settled_at (past_with plan entries (claimed notice claim)) claim).posts
asked_all law more plan entries notice claim asks =
    let entry : Entry = claimed notice claim in
    let longer : List Entry = entries ++ entry ∷ [] in
    let past : Past = past_with plan entries entry in
    asked_posts (setup_of plan) longer (length entries) (asks_still law plan entries notice claim asks)
    ∙ ap (λ o. o.posts ++ (settled_at past (claim_at longer (length entries))).posts) (heard_same law (setup_of plan) entries entry (unclaimed notice) refl)
    ∙ ap (λ c. (unclaimed_at (past_with plan entries (unclaimed notice))).posts ++ (settled_at past c).posts) (claim_end entries entry)

-- What a directory has settled, in the words of a plan.
record HasSettled (setup : Setup) (entries : List Entry) (entry : Entry) (mid : DirectoryKept) (verdict : LinkVerdict) (posts : List Dispatch) : Type 0 where
  stands : StandsFor mid (entries ++ entry ∷ [])
  is_verdict : verdict ≡ (settled_at (past_at setup (entries ++ entry ∷ []) (length entries)) entry.claim).verdict
  are_posts : posts ≡ (settled_at (past_at setup (entries ++ entry ∷ []) (length entries)) entry.claim).posts
  departing : mid.departing ≡ map departed_of (settled_at (past_at setup (entries ++ entry ∷ []) (length entries)) entry.claim).left

has_settled : (plan : Plan) (entries : List Entry) (entry : Entry) (old mid : DirectoryKept) (verdict : LinkVerdict) (posts : List Dispatch) → old.setup ≡ setup_of plan → old.departing ≡ [] → IsSettled old mid entries entry (record { verdict = verdict; posts = posts }) → HasSettled (setup_of plan) entries entry mid verdict posts
has_settled plan entries entry old mid verdict posts setup nobody settled =
    let left : List Known = (settled_at (past_at old.setup (entries ++ entry ∷ []) (length entries)) entry.claim).left in
    subst (λ (s : Setup). HasSettled s entries entry mid verdict posts) setup (record {
      stands = settled.stands;
      is_verdict = settled.outcome.verdict;
      are_posts = settled.outcome.posts;
      departing = settled.outcome.departing ∙ ap (λ (ds : List Departed). ds ++ map departed_of left) nobody;
    })

-- A request was settled.
pub given_place : AskersAskForServedModules → EachWhoLeavesIsPosted → EntriesBeforeDecide → LaterEntriesChangeNothing → PeersComeAndGo → OneEntryMore → OnlyServedAreRouted → (plan : Plan) (entries : List Entry) (notice : Notice) (old run : Run) (mouth mouth' : TalliesKept) (mid : DirectoryKept) (member : Option Member) (marks : List Bool) (verdict : LinkVerdict) (posts : List Dispatch) (found answer : Option Verdict) →
    length entries < 2 ^ 58 → IsTakenIn plan entries notice (scene old mouth) (link.Asks, found) →
    IsChoice old.directory.known plan.places old.given member run.given → AreTaken marks old.directory.known member →
    IsSettled old.directory mid entries (claimed notice (claim_of member)) (record { verdict = verdict; posts = posts }) →
    mid.setup ≡ old.directory.setup → mid.ended ≡ old.directory.ended → mid.asked ≡ None → length mid.known ≤ mid.setup.places → IsDistinct nat_eq (map (λ (k : Known). k.member.place) mid.known) →
    length mid.known + length mid.departing ≤ length old.directory.known + length old.directory.departing + 1 →
    run.directory ≡ noting (filter_map left_member posts) mid → run.stage.name ≡ old.stage.name → run.taken ≡ freeing (filter_map left_member posts) marks →
    ((before : List Dispatch) → old.stage.name ≡ plan.name → AllByRecursion (IsServed plan) posts → length before + length posts < 2 ^ 64 - 1 → HasCarried plan before old.stage.rooms mouth → IsCarriedOut plan before posts (run.stage.rooms, mouth') answer) →
    IsGiven plan entries notice (change old run mouth') verdict
given_place asking leaves law later come more only plan entries notice old run mouth mouth' mid member marks verdict posts found answer few taken choice are settled setup ended asked bounded apart together noted name freed carry =
    let entry : Entry = claimed notice (claim_of member) in
    let longer : List Entry = entries ++ entry ∷ [] in
    let past : Past = past_with plan entries entry in
    let heard : List Dispatch = (unclaimed_at (past_with plan entries (unclaimed notice))).posts in
    let before : List Dispatch = posted (setup_of plan) entries ++ heard in
    let has : HasSettled (setup_of plan) entries entry mid verdict posts = has_settled plan entries entry old.directory mid verdict posts taken.idle.setup taken.idle.departing settled in
    let count : length posts + length mid.known ≤ length old.directory.known + 2 =
    omega (arith, together, ap length taken.idle.departing, ap length has.departing, length-map (settled_at past (claim_of member)).left departed_of, ap length has.are_posts, few_settled past (claim_of member)) in
    let all : posted (setup_of plan) longer ≡ (before ++ posts) ++ [] =
    more.posts (setup_of plan) entries entry ∙ ap (λ ds. posted (setup_of plan) entries ++ ds) (asked_all law more plan entries notice (claim_of member) taken.is_verdict ∙ ap (λ ds. heard ++ ds) (sym has.are_posts))
    ∙ sym (append_assoc (posted (setup_of plan) entries) heard posts) ∙ sym (append-nil (before ++ posts)) in
    let served : AllByRecursion (IsServed plan) posts = served_part only plan longer before posts [] all in
    let fits : length before + length posts < 18446744073709551615 = omega (arith, taken.few, count, few, length-append (posted (setup_of plan) entries) heard) in
    let carried : IsCarriedOut plan before posts (run.stage.rooms, mouth') answer = carry before taken.idle.name served fits taken.carried.carried in
    let is_known : run.directory.known ≡ mid.known = ap (λ (k : DirectoryKept). k.known) noted in
    let places : mid.setup.places ≡ plan.places = ap (λ (s : Setup). s.places) (setup ∙ taken.idle.setup) in
    let left : filter_map left_member posts ≡ map (λ (k : Known). k.member) (settled_at past (claim_of member)).left = ap (filter_map left_member) has.are_posts ∙ leaves.settled past (claim_of member) in
    record {
      member = member;
      idle = record {
        is_plan = taken.idle.is_plan;
        name = name ∙ taken.idle.name;
        setup = ap (λ (k : DirectoryKept). k.setup) noted ∙ setup ∙ taken.idle.setup;
        departing = ap (λ (k : DirectoryKept). k.departing) noted
            ∙ none_departing posts mid (settled_at past (claim_of member)).left left has.departing;
        known = omega (arith, ap length is_known, bounded, places);
        apart = subst (λ (rows : List Known). IsDistinct nat_eq (map (λ (k : Known). k.member.place) rows)) (sym is_known) apart;
      };
      asked = ap (λ (k : DirectoryKept). k.asked) noted ∙ asked;
      stands = subst (λ (k : DirectoryKept). StandsFor k longer) (sym noted) (noting_stands (filter_map left_member posts) mid longer has.stands);
      carried = subst (λ (ds : List Dispatch). HasCarried plan (before ++ ds) run.stage.rooms mouth') has.are_posts carried.carried;
      is_verdict = has.is_verdict;
      ends = ap (λ (k : DirectoryKept). k.ended) noted ∙ ended ∙ taken.ends;
      few = omega (arith, taken.few, count, ap length is_known, ap length has.are_posts);
      choice = choice;
      taken = still_taken member old.directory.known (settled_at past (claim_of member)).left run.directory.known marks run.taken (filter_map left_member posts) are
          (apart_given old.directory.known plan.places old.given run.given member taken.idle.apart (nat_lt (length old.directory.known) plan.places) choice) freed left
          (stay_settled law later come plan entries taken.chosen asking notice member old.directory.known run.directory.known (asks_still law plan entries notice (claim_of member) taken.is_verdict)
          (known_of plan old.directory (entries ++ unclaimed notice ∷ []) taken.stands taken.idle.setup) (is_known ∙ known_of plan mid longer has.stands (setup ∙ taken.idle.setup)));
    }
