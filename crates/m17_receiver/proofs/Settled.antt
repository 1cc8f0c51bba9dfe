-- A request, settled by a claim.
use Rattle.std.proofs.Common.{◌≡◌, ◌↔◌, ◌==◌, ◌&&◌, ◌||◌, ℕ, ◌+◌, ◌-◌, ◌^◌, min, Bool, true, false, cond, not, List, [], ◌∷◌, ◌++◌, length, map, take, Contains, refl, ap, sym, subst, ◌∙◌, arith, Option, None, Some, IsSome, IfSome}
use Rattle.std.specs.List.{list_any}
use Rattle.std.specs.Option.{option_map, option_map_or, option_to_list, is_some}
use Rattle.std.proofs.lemmas.Bool.{false≢true, or_parts}
use Rattle.std.proofs.lemmas.List.{append_assoc, take_all, map-append}
use Rattle.std.proofs.lemmas.Option.{none-some, same_Some}
use Rattle.m17_lists.proofs.Lengths.{one_more_is_one_longer}
use Rattle.m17_values.specs.declared.member.Member.{Member}
use Rattle.m17_values.specs.declared.peer.Peer.{Peer}
use Rattle.m17_roll.specs.Seat.{RollView}
use Rattle.m17_directory.specs.declared.asked.Asked.{Asked}
use Rattle.m17_directory.specs.declared.dispatch.Dispatch.{Dispatch}
use Rattle.m17_directory.specs.declared.known.Departed.{Departed}
use Rattle.m17_directory.specs.declared.known.Known.{Known}
use Rattle.m17_directory.specs.declared.verdict.LinkVerdict.{LinkVerdict}
use Rattle.m17_directory.specs.Entries.{Notice, Claim, Entry, Setup, notice_at, claim_at, is_peer, is_from}
use Rattle.m17_directory.specs.Known.{Past}
use Rattle.m17_directory.specs.Outcome.{Outcome, has_place}
use Rattle.m17_directory.specs.Routed.{asks_at, is_asks, unclaimed_at, others_at, settled_at, both, outcome_at, link_verdict, posts_at}
use Rattle.m17_directory.specs.StandsFor.{DirectoryKept, StandsFor, IsSettled, IsAsked, unclaimed, claimed, departed_of, must_wait, has_departing, most_members}
use Rattle.m17_directory.specs.Laws.{left_before, is_ended, is_full}
use Rattle.m17_receiver.specs.Devices.{IsCounted}
use Rattle.m17_receiver.specs.Posting.{Outlets, posted_to}
use Rattle.m17_receiver.specs.SoFar.{Laws, Plan, Parts, HasTaken, AreGone, IsAsking, IsThrough, past_with, posting, refused_by}
use Rattle.m17_receiver.proofs.Positions.{claim_end, notice_end, heard_same, others_same, asked_is}
use Rattle.m17_receiver.proofs.Posted.{posting_more, posted_more}
use Rattle.m17_receiver.proofs.Claimed.{asked_more, claimed_more}
use Rattle.m17_receiver.proofs.Greeted.{greeted_more, gone_left, left_more, each_noted}
use Rattle.m17_receiver.proofs.Entered.{outcome_posts, outcome_verdict}

-- the claim of a member, to be greeted after so many notes
abbrev pub claim_of : ℕ → Option Member → Option Claim
claim_of after taken = option_map (λ m. record { member = m; after = after }) taken

-- What is settled.
record IsSettledIn (setup : Setup) (entries : List Entry) (e : Entry) (old new : DirectoryKept) (verdict : LinkVerdict) (posts : List Dispatch) : Type 0 where
  stands : StandsFor new (entries ++ e ∷ [])
  is_verdict : verdict ≡ (settled_at (past_with setup entries e) e.claim).verdict
  are_posts : posts ≡ (settled_at (past_with setup entries e) e.claim).posts
  departing : new.departing ≡ old.departing ++ map departed_of (settled_at (past_with setup entries e) e.claim).left

settled_in : (setup : Setup) (entries : List Entry) (e : Entry) (old new : DirectoryKept) (verdict : LinkVerdict) (posts : List Dispatch) → old.setup ≡ setup →
    IsSettled old new entries e (record { verdict = verdict; posts = posts }) → IsSettledIn setup entries e old new verdict posts
settled_in setup entries e old new verdict posts is settled =
    subst (λ (s : Setup). IsSettledIn s entries e old new verdict posts) is (record {
      stands = settled.stands;
      is_verdict = settled.outcome.verdict;
      are_posts = settled.outcome.posts;
      departing = settled.outcome.departing;
    })

-- the claim and the member
member_back : (after : ℕ) (taken : Option Member) → option_map (λ (c : Claim). c.member) (claim_of after taken) ≡ taken
member_back after None = refl
member_back after (Some m) = refl

none_back : (after : ℕ) (taken : Option Member) → (claim_of after taken ≡ None) ↔ (taken ≡ None)
none_back after None = (λ _. refl, λ _. refl)
none_back after (Some m) = (λ e. absurd (none-some _ (sym e)), λ e. absurd (none-some _ (sym e)))

after_is : (after : ℕ) (taken : Option Member) (claim : Claim) → claim_of after taken ≡ Some claim → claim.after ≡ after
after_is after None claim e = absurd (none-some claim e)
after_is after (Some m) claim e = ap (λ (c : Claim). c.after) (sym (same_Some (record { member = m; after = after }) claim e))

-- the place of the claim is that of the member
place_free : (known : List Known) (after : ℕ) (taken : Option Member) → IfSome taken (λ m. list_any (has_place m.place) known ≡ false) →
    (claim : Claim) → claim_of after taken ≡ Some claim → list_any (has_place claim.member.place) known ≡ false
place_free known after None free claim e = absurd (none-some claim e)
place_free known after (Some m) free claim e =
    ap (λ (c : Claim). list_any (has_place c.member.place) known) (sym (same_Some (record { member = m; after = after }) claim e)) ∙ free

refused_full : (n after : ℕ) (taken : Option Member) → refused_by n taken ≡ cond (not (is_some (claim_of after taken))) (n ∷ []) []
refused_full n after None = refl
refused_full n after (Some m) = refl

-- whose request needs to wait no more has no member departing
nobody_departs : (k : DirectoryKept) (asked : Asked) → k.asked ≡ Some asked → must_wait k ≡ false → has_departing asked.peer k.departing ≡ false
nobody_departs k asked is free =
    let waits : Option Asked → Bool = λ o. option_map_or (λ (a : Asked). has_departing a.peer k.departing || (length k.known + length k.departing) == most_members) o false in
    let now : waits (Some asked) ≡ false = sym (ap waits is) ∙ free in
    (or_parts (has_departing asked.peer k.departing) ((length k.known + length k.departing) == most_members) now).0

who_asks : (o : Option Asked) → IsSome o → (asked : Asked) × (o ≡ Some asked)
who_asks None some = absurd (false≢true some)
who_asks (Some asked) some = (asked, refl)

-- the entry is from who asks
asker_is : (entries : List Entry) (notice : Notice) (setup : Setup) (asked : Asked) → IsAsked setup (entries ++ unclaimed notice ∷ []) asked → (x : Peer) → is_from x notice ≡ true → is_peer x asked.peer ≡ true
asker_is entries notice setup asked is x from =
    let at : asked.index ≡ length entries = omega (arith, is.last, one_more_is_one_longer entries (unclaimed notice)) in
    let says : notice ≡ Notice.Sent asked.peer is.at is.packet =
    sym (notice_end entries (unclaimed notice)) ∙ ap (notice_at (entries ++ unclaimed notice ∷ [])) (sym at) ∙ is.says in
    sym (ap (is_from x) says) ∙ from

counted_all : (noted : ℕ) (notes : List Member) → IsCounted notes → noted ≡ min (length notes) (2 ^ 64 - 1) → take noted notes ≡ notes
counted_all noted notes counted is = take_all noted notes (omega (arith, counted, is))

gone_settled : Laws → (setup : Setup) (entries : List Entry) (e : Entry) (first second : List Known) (before departing : List Departed) (notes : List Member) →
    (outcome_at setup (entries ++ e ∷ []) (length entries)).left ≡ first ++ second → departing ≡ before ++ map departed_of second →
    AreGone (left_before setup entries (length entries) ++ map departed_of first) before notes → AreGone (left_before setup (entries ++ e ∷ []) (length (entries ++ e ∷ []))) departing notes
gone_settled law setup entries e first second before departing notes left_is departing_is was =
    let old : List Departed = left_before setup entries (length entries) in
    let whole : left_before setup (entries ++ e ∷ []) (length (entries ++ e ∷ [])) ≡ (old ++ map departed_of first) ++ map departed_of second =
    left_more law setup entries e ∙ ap (λ (ks : List Known). old ++ map departed_of ks) left_is ∙ ap (λ (ds : List Departed). old ++ ds) (map-append departed_of first second)
    ∙ sym (append_assoc old (map departed_of first) (map departed_of second)) in
    subst (λ (gone : List Departed). AreGone gone departing notes) (sym whole)
    (subst (λ (ds : List Departed). AreGone ((old ++ map departed_of first) ++ map departed_of second) ds notes) (sym departing_is)
    (gone_left (old ++ map departed_of first) (map departed_of second) before notes was))

-- The entry with its claim.
pub through_asked : Laws → (plan : Plan) (entries : List Entry) (notice : Notice) (p : Parts) (d : DirectoryKept) (seat : RollView) (taken : Option Member) (verdict : LinkVerdict) (posts : List Dispatch) (out : Outlets) →
    IsAsking plan entries notice p → IsSome p.directory.asked → must_wait p.directory ≡ false →
    IsSettled p.directory d entries (claimed notice (claim_of p.noted taken)) (record { verdict = verdict; posts = posts }) → d.setup ≡ p.directory.setup → d.ended ≡ p.directory.ended →
    HasTaken plan.patient (length entries) taken p.directory.known p.seat seat →
    (plan.patient ≡ true → (taken ≡ None) ↔ (length p.directory.known ≡ plan.setup.places)) →
    out ≡ posting plan.setup.modules posts p.out →
    IsThrough plan entries notice (record { directory = d; out = out; notes = p.notes; noted = p.noted; seat = seat }) verdict
through_asked law plan entries notice p d seat taken verdict posts out was some free is_settled setup_is ended_is takes full out_is =
    let setup : Setup = plan.setup in
    let claim : Option Claim = claim_of p.noted taken in
    let e : Entry = claimed notice claim in
    let before : Entry = unclaimed notice in
    let longer : List Entry = entries ++ e ∷ [] in
    let n : ℕ = length entries in
    let past : Past = past_with setup entries e in
    let heard : Outcome = unclaimed_at past in
    let settles : Outcome = settled_at past claim in
    let settled = settled_in setup entries e p.directory d verdict posts was.setup is_settled in
    let same : heard ≡ unclaimed_at (past_with setup entries before) = heard_same law setup entries e before refl in
    let asks : asks_at past ≡ true = ap (λ (o : Outcome). is_asks o.verdict) same ∙ ap is_asks was.asks in
    let outcome : outcome_at setup longer n ≡ both heard settles = asked_is law setup entries e asks in
    let all : posts_at setup longer n ≡ heard.posts ++ settles.posts = outcome_posts setup longer n (both heard settles) outcome in
    let its_verdict : link_verdict setup longer n ≡ settles.verdict = outcome_verdict setup longer n (both heard settles) outcome in
    let its_claim : claim_at longer n ≡ claim = claim_end entries e in
    let is_full_now : is_full (link_verdict setup longer n) ≡ not (is_some claim) =
    law.askers.full setup longer n ∙ ap (λ b. b && not (is_some (claim_at longer n))) asks ∙ ap (λ (c : Option Claim). not (is_some c)) its_claim in
    let known_there : others_at past ≡ p.directory.known = others_same law setup entries e before refl ∙ sym was.others in
    let others : length (others_at past) ≡ length p.directory.known = ap length known_there in
    let asker = who_asks p.directory.asked some in
    let only : asks_at past ≡ false → claim ≡ None = λ silent. absurd (false≢true (sym silent ∙ asks)) in
    let gone : AreGone (left_before setup entries n ++ map departed_of heard.left) p.directory.departing p.notes =
    subst (λ (o : Outcome). AreGone (left_before setup entries n ++ map departed_of o.left) p.directory.departing p.notes) (sym same) was.gone in
    record {
      entry = e;
      says = refl;
      so_far = record {
        setup = setup_is ∙ was.setup;
        stands = settled.stands;
        posted = out_is ∙ ap (λ (ds : List Dispatch). posting setup.modules ds p.out) settled.are_posts
            ∙ ap (posting setup.modules settles.posts) (was.posted ∙ ap (λ (o : Outcome). posting setup.modules o.posts (posted_to setup entries plan.start)) (sym same))
            ∙ posting_more law setup.modules heard.posts settles.posts (posted_to setup entries plan.start)
            ∙ ap (λ (ds : List Dispatch). posting setup.modules ds (posted_to setup entries plan.start)) (sym all)
            ∙ posted_more law setup entries e plan.start;
        claimed = claimed_more law plan.patient setup entries e p.seat seat was.claimed (record {
          only = only;
          claims = takes.claims ∙ ap (λ (o : Option Member). p.seat.claimed ++ option_to_list o) (sym (member_back p.noted taken));
          given = takes.given;
          refused = λ impatient. takes.refused impatient ∙ ap (λ (ns : List ℕ). p.seat.refused ++ ns) (refused_full n p.noted taken ∙ ap (λ b. cond b (n ∷ []) []) (sym is_full_now));
          patient_claims = λ patience _. (
            λ none. others ∙ (full patience).0 ((none_back p.noted taken).0 (sym its_claim ∙ none)),
            λ many. its_claim ∙ (none_back p.noted taken).1 ((full patience).1 (sym others ∙ many)),
          );
          patient_places = λ patience c has. ap (list_any (has_place c.member.place)) known_there
              ∙ place_free p.directory.known p.noted taken (takes.unknown patience) c has;
        });
        greeted = greeted_more entries e p.notes was.greeted
            (λ c has. omega (arith, after_is p.noted taken c has, was.count))
            (λ counted i first second l has has' one.
            let x : Peer = one.0 in
            let peer : x ≡ asker.0.peer = law.apart.same x asker.0.peer (asker_is entries notice p.directory.setup asker.0 (was.stands.asked asker.0 asker.1) x one.2) in
            let none : has_departing x p.directory.departing ≡ false = ap (λ (y : Peer). has_departing y p.directory.departing) peer ∙ nobody_departs p.directory asker.0 asker.1 free in
            let noted : Contains p.notes first.member = each_noted law setup entries e p.directory.departing p.notes x
            (asked_more law setup entries e was.claimed.asked only) asks none gone i first l has one.1 one.2 in
            subst (λ (ms : List Member). Contains ms first.member)
            (sym (ap (λ m. take m p.notes) (after_is p.noted taken second has') ∙ counted_all p.noted p.notes counted was.count)) noted);
        gone = gone_settled law setup entries e heard.left settles.left p.directory.departing d.departing p.notes (ap (λ (o : Outcome). o.left) outcome) settled.departing gone;
        count = was.count;
      };
      is_verdict = settled.is_verdict ∙ sym its_verdict;
      ends = ended_is ∙ was.goes_on ∙ sym (sym (law.ended setup longer n) ∙ ap (λ (o : Outcome). is_ended o.verdict) same ∙ ap is_ended was.asks);
    }
