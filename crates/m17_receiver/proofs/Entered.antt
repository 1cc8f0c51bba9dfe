-- An entry, from before it to behind it.
use Rattle.std.proofs.Common.{◌≡◌, ◌↔◌, ◌&&◌, ℕ, ◌+◌, ◌-◌, ◌^◌, min, Bool, true, false, cond, not, List, [], ◌∷◌, ◌++◌, length, map, refl, ap, sym, subst, ◌∙◌, arith}
use Rattle.std.specs.Option.{is_some}
use Rattle.std.proofs.lemmas.Bool.{false≢true}
use Rattle.std.proofs.lemmas.List.{append-nil, length-append}
use Rattle.std.proofs.lemmas.Option.{none-some}
use Rattle.m17_values.specs.declared.member.Member.{Member}
use Rattle.m17_directory.specs.declared.dispatch.Dispatch.{Dispatch}
use Rattle.m17_directory.specs.declared.known.Departed.{Departed}
use Rattle.m17_directory.specs.declared.known.Known.{Known}
use Rattle.m17_directory.specs.declared.verdict.LinkVerdict.{LinkVerdict}
use Rattle.m17_directory.specs.declared.verdict.LinkVerdict.TheVariants as link
use Rattle.m17_directory.specs.Entries.{Notice, Entry, Setup, claim_at}
use Rattle.m17_directory.specs.Known.{Past}
use Rattle.m17_directory.specs.Outcome.{Outcome}
use Rattle.m17_directory.specs.Routed.{past_at, asks_at, is_asks, unclaimed_at, others_at, outcome_at, link_verdict, posts_at}
use Rattle.m17_directory.specs.StandsFor.{DirectoryKept, StandsFor, IsHeard, unclaimed, departed_of}
use Rattle.m17_directory.specs.Laws.{left_before, is_ended, is_full}
use Rattle.m17_receiver.specs.Posting.{Outlets}
use Rattle.m17_receiver.specs.SoFar.{Laws, Plan, Parts, HasNoted, AreGone, IsSoFar, IsAsking, IsThrough, past_with, posting}
use Rattle.m17_receiver.proofs.Positions.{unasked_is}
use Rattle.m17_receiver.proofs.Posted.{posted_more}
use Rattle.m17_receiver.proofs.Claimed.{claimed_more}
use Rattle.m17_receiver.proofs.Greeted.{greeted_notes, greeted_more, gone_noted, gone_left, left_more}
use Rattle.m17_receiver.proofs.Noted.{noted_left, noted_stands}

-- Notes come.
count_more : (n n' : ℕ) (notes more : List Member) → n ≡ min (length notes) (2 ^ 64 - 1) → n' ≡ min (length notes + length more) (2 ^ 64 - 1) → n' ≡ min (length (notes ++ more)) (2 ^ 64 - 1)
count_more n n' notes more was is = omega (arith, is, length-append notes more)

pub so_far_noted : (plan : Plan) (entries : List Entry) (p : Parts) (d : DirectoryKept) (notes more : List Member) (n : ℕ) → IsSoFar plan entries p →
    notes ≡ p.notes ++ more → HasNoted more (p.directory, p.noted) (d, n) →
    IsSoFar plan entries (record { directory = d; out = p.out; notes = notes; noted = n; seat = p.seat })
so_far_noted plan entries p d notes more n was is noted =
    subst (λ (ms : List Member). IsSoFar plan entries (record { directory = d; out = p.out; notes = ms; noted = n; seat = p.seat })) (sym is) (record {
      setup = ap (λ (k : DirectoryKept). k.setup) noted.same ∙ was.setup;
      stands = noted_stands more p.directory d p.noted n entries noted was.stands;
      posted = was.posted;
      claimed = was.claimed;
      greeted = greeted_notes entries p.notes more was.greeted;
      gone = gone_noted (left_before plan.setup entries (length entries)) p.directory.departing d.departing p.notes more was.gone (noted_left more p.directory d p.noted n noted);
      count = count_more p.noted n p.notes more was.count (noted.count (length p.notes) was.count);
    })

pub asking_noted : (plan : Plan) (entries : List Entry) (notice : Notice) (p : Parts) (d : DirectoryKept) (notes more : List Member) (n : ℕ) → IsAsking plan entries notice p →
    notes ≡ p.notes ++ more → HasNoted more (p.directory, p.noted) (d, n) →
    IsAsking plan entries notice (record { directory = d; out = p.out; notes = notes; noted = n; seat = p.seat })
asking_noted plan entries notice p d notes more n was is noted =
    subst (λ (ms : List Member). IsAsking plan entries notice (record { directory = d; out = p.out; notes = ms; noted = n; seat = p.seat })) (sym is) (record {
      setup = ap (λ (k : DirectoryKept). k.setup) noted.same ∙ was.setup;
      stands = noted_stands more p.directory d p.noted n (entries ++ unclaimed notice ∷ []) noted was.stands;
      asks = was.asks;
      posted = was.posted;
      goes_on = ap (λ (k : DirectoryKept). k.ended) noted.same ∙ was.goes_on;
      others = ap (λ (k : DirectoryKept). k.known) noted.same ∙ was.others;
      claimed = was.claimed;
      greeted = greeted_notes entries p.notes more was.greeted;
      gone = gone_noted (left_before plan.setup entries (length entries) ++ map departed_of (unclaimed_at (past_with plan.setup entries (unclaimed notice))).left)
          p.directory.departing d.departing p.notes more was.gone (noted_left more p.directory d p.noted n noted);
      count = count_more p.noted n p.notes more was.count (noted.count (length p.notes) was.count);
    })

-- An entry is heard.
record IsHeardIn (setup : Setup) (entries : List Entry) (notice : Notice) (old new : DirectoryKept) (verdict : LinkVerdict) (posts : List Dispatch) : Type 0 where
  stands : StandsFor new (entries ++ unclaimed notice ∷ [])
  is_verdict : verdict ≡ (unclaimed_at (past_with setup entries (unclaimed notice))).verdict
  are_posts : posts ≡ (unclaimed_at (past_with setup entries (unclaimed notice))).posts
  departing : new.departing ≡ old.departing ++ map departed_of (unclaimed_at (past_with setup entries (unclaimed notice))).left
  others : verdict ≡ link.Asks → new.known ≡ others_at (past_with setup entries (unclaimed notice))

heard_in : (setup : Setup) (entries : List Entry) (notice : Notice) (old new : DirectoryKept) (verdict : LinkVerdict) (posts : List Dispatch) → old.setup ≡ setup →
    IsHeard old new entries notice (record { verdict = verdict; posts = posts }) → IsHeardIn setup entries notice old new verdict posts
heard_in setup entries notice old new verdict posts is heard =
    subst (λ (s : Setup). IsHeardIn s entries notice old new verdict posts) is (record {
      stands = heard.stands;
      is_verdict = heard.outcome.verdict;
      are_posts = heard.outcome.posts;
      departing = heard.outcome.departing;
      others = heard.others;
    })

asks_of : (v : LinkVerdict) → is_asks v ≡ true → v ≡ link.Asks
asks_of link.Asks e = refl
asks_of _ e = absurd (false≢true e)

not_asks : (v : LinkVerdict) (b : Bool) → is_asks v ≡ b → (v ≡ link.Asks → ⊥) → b ≡ false
not_asks v true e apart = absurd (apart (asks_of v e))
not_asks v false e apart = refl

ended_of : (v : LinkVerdict) → is_ended v ≡ true → v ≡ link.Ended
ended_of link.Ended e = refl
ended_of _ e = absurd (false≢true e)

ended_by : (v : LinkVerdict) (b c : Bool) → is_ended v ≡ c → (b ≡ true) ↔ (v ≡ link.Ended) → b ≡ c
ended_by v true true e iff = refl
ended_by v false false e iff = refl
ended_by v true false e iff = absurd (false≢true (sym e ∙ ap is_ended (iff.0 refl)))
ended_by v false true e iff = iff.1 (ended_of v e)

pub outcome_posts : (setup : Setup) (entries : List Entry) (n : ℕ) (o : Outcome) → outcome_at setup entries n ≡ o → posts_at setup entries n ≡ o.posts
unfolding posts_at
outcome_posts setup entries n o is = ap (λ (x : Outcome). x.posts) is

pub outcome_verdict : (setup : Setup) (entries : List Entry) (n : ℕ) (o : Outcome) → outcome_at setup entries n ≡ o → link_verdict setup entries n ≡ o.verdict
unfolding link_verdict
outcome_verdict setup entries n o is = ap (λ (x : Outcome). x.verdict) is

gone_more : Laws → (setup : Setup) (entries : List Entry) (e : Entry) (left : List Known) (before departing : List Departed) (notes : List Member) →
    (outcome_at setup (entries ++ e ∷ []) (length entries)).left ≡ left → departing ≡ before ++ map departed_of left →
    AreGone (left_before setup entries (length entries)) before notes → AreGone (left_before setup (entries ++ e ∷ []) (length (entries ++ e ∷ []))) departing notes
gone_more law setup entries e left before departing notes left_is departing_is was =
    subst (λ (gone : List Departed). AreGone gone departing notes) (sym (left_more law setup entries e ∙ ap (λ (ks : List Known). left_before setup entries (length entries) ++ map departed_of ks) left_is))
    (subst (λ (ds : List Departed). AreGone (left_before setup entries (length entries) ++ map departed_of left) ds notes) (sym departing_is)
    (gone_left (left_before setup entries (length entries)) (map departed_of left) before notes was))

full_unasked : Laws → (setup : Setup) (entries : List Entry) (n : ℕ) → asks_at (past_at setup entries n) ≡ false → is_full (link_verdict setup entries n) ≡ false
full_unasked law setup entries n silent = law.askers.full setup entries n ∙ ap (λ b. b && not (is_some (claim_at entries n))) silent

-- An entry that did not ask.
pub through_unasked : Laws → (plan : Plan) (entries : List Entry) (notice : Notice) (p : Parts) (d : DirectoryKept) (verdict : LinkVerdict) (posts : List Dispatch) (out : Outlets) →
    IsSoFar plan entries p → IsHeard p.directory d entries notice (record { verdict = verdict; posts = posts }) → d.setup ≡ p.directory.setup →
    (d.ended ≡ true) ↔ (verdict ≡ link.Ended) → (verdict ≡ link.Asks → ⊥) → out ≡ posting plan.setup.modules posts p.out →
    IsThrough plan entries notice (record { directory = d; out = out; notes = p.notes; noted = p.noted; seat = p.seat }) verdict
through_unasked law plan entries notice p d verdict posts out was is_heard setup_is ended_is apart out_is =
    let setup : Setup = plan.setup in
    let e : Entry = unclaimed notice in
    let longer : List Entry = entries ++ e ∷ [] in
    let n : ℕ = length entries in
    let past : Past = past_with setup entries e in
    let heard = heard_in setup entries notice p.directory d verdict posts was.setup is_heard in
    let silent : asks_at past ≡ false = ap is_asks (sym heard.is_verdict) ∙ not_asks verdict (is_asks verdict) refl apart in
    let outcome : outcome_at setup longer n ≡ unclaimed_at past = unasked_is law setup entries e silent in
    let all : posts ≡ posts_at setup longer n = heard.are_posts ∙ sym (outcome_posts setup longer n (unclaimed_at past) outcome) in
    record {
      entry = e;
      says = refl;
      so_far = record {
        setup = setup_is ∙ was.setup;
        stands = heard.stands;
        posted = out_is ∙ ap (λ (ds : List Dispatch). posting setup.modules ds p.out) all ∙ ap (posting setup.modules (posts_at setup longer n)) was.posted ∙ posted_more law setup entries e plan.start;
        claimed = claimed_more law plan.patient setup entries e p.seat p.seat was.claimed (record {
          only = λ _. refl;
          claims = sym (append-nil p.seat.claimed);
          given = refl;
          refused = λ _. sym (ap (λ b. p.seat.refused ++ cond b (n ∷ []) []) (full_unasked law setup longer n silent) ∙ append-nil p.seat.refused);
          patient_claims = λ _ asks. absurd (false≢true (sym silent ∙ asks));
          patient_places = λ _ claim has. absurd (none-some claim has);
        });
        greeted = greeted_more entries e p.notes was.greeted (λ claim has. absurd (none-some claim has)) (λ _ i first second l has has' same. absurd (none-some second has'));
        gone = gone_more law setup entries e (unclaimed_at past).left p.directory.departing d.departing p.notes (ap (λ (o : Outcome). o.left) outcome) heard.departing was.gone;
        count = was.count;
      };
      is_verdict = heard.is_verdict ∙ sym (outcome_verdict setup longer n (unclaimed_at past) outcome);
      ends = ended_by verdict d.ended (is_ended verdict) refl ended_is ∙ ap is_ended heard.is_verdict ∙ law.ended setup longer n;
    }

not_ended : (v : LinkVerdict) (b : Bool) → (b ≡ true) ↔ (v ≡ link.Ended) → v ≡ link.Asks → b ≡ false
not_ended v true iff asks = (let never : link.Ended ≡ link.Asks = sym (iff.0 refl) ∙ asks in absurd (false≢true (sym (ap is_ended never))))
not_ended v false iff asks = refl

-- An entry that asks.
pub asks_now : Laws → (plan : Plan) (entries : List Entry) (notice : Notice) (p : Parts) (d : DirectoryKept) (verdict : LinkVerdict) (posts : List Dispatch) (out : Outlets) →
    IsSoFar plan entries p → IsHeard p.directory d entries notice (record { verdict = verdict; posts = posts }) → d.setup ≡ p.directory.setup →
    (d.ended ≡ true) ↔ (verdict ≡ link.Ended) → verdict ≡ link.Asks → out ≡ posting plan.setup.modules posts p.out →
    IsAsking plan entries notice (record { directory = d; out = out; notes = p.notes; noted = p.noted; seat = p.seat })
asks_now law plan entries notice p d verdict posts out was is_heard setup_is ended_is asks out_is =
    let setup : Setup = plan.setup in
    let past : Past = past_with setup entries (unclaimed notice) in
    let heard = heard_in setup entries notice p.directory d verdict posts was.setup is_heard in
    record {
      setup = setup_is ∙ was.setup;
      stands = heard.stands;
      asks = sym heard.is_verdict ∙ asks;
      posted = out_is ∙ ap (λ (ds : List Dispatch). posting setup.modules ds p.out) heard.are_posts ∙ ap (posting setup.modules (unclaimed_at past).posts) was.posted;
      goes_on = not_ended verdict d.ended ended_is asks;
      others = heard.others asks;
      claimed = was.claimed;
      greeted = was.greeted;
      gone = subst (λ (ds : List Departed). AreGone (left_before setup entries (length entries) ++ map departed_of (unclaimed_at past).left) ds p.notes) (sym heard.departing)
          (gone_left (left_before setup entries (length entries)) (map departed_of (unclaimed_at past).left) p.directory.departing p.notes was.gone);
      count = was.count;
    }
