-- Who has joined a module has left it or is known in it: the sums over all entries.
use Rattle.std.proofs.Common.{◌≡◌, ℕ, zero, suc, ◌+◌, ◌<◌, ◌≤◌, Bool, true, false, cond, ◌&&◌, eqb, List, [], ◌∷◌, ◌++◌, length, map, filter, filter_map, option_map, count_by, Option, None, Some, refl, ap, sym, ◌∙◌, arith}
use Rattle.std.specs.List.{cons_option, flat_map, range_with_len}
use Rattle.std.proofs.lemmas.List.{map-append}
use Rattle.std.proofs.lemmas.List.Elements.{filter_map-append}
use Rattle.m17_values.specs.declared.member.Member.{Member}
use Rattle.m17_control.specs.declared.event.Body.{Body}
use Rattle.m17_control.specs.declared.event.Body.TheVariants.{Join, Leave, Packet, Reply, Tick, Stop}
use Rattle.m17_control.specs.declared.event.Event.{Event}
use Rattle.m17_directory.specs.declared.dispatch.Dispatch.{Dispatch}
use Rattle.m17_directory.specs.declared.dispatch.Dispatch.TheVariants.{ToModule, ToDoor}
use Rattle.m17_directory.specs.declared.known.Known.{Known}
use Rattle.m17_directory.specs.declared.known.Request.{Request}
use Rattle.m17_directory.specs.Entries.{Notice, Claim, Entry, Setup, notice_at, claim_at, peers_named}
use Rattle.m17_directory.specs.Known.{Past, now, request_in, known_at}
use Rattle.m17_directory.specs.Outcome.{Here, Outcome, has_place}
use Rattle.m17_directory.specs.Routed.{here_of, unclaimed_at, others_at, settled_by, settled_at, asks_at, both, comes_to, asked_before, past_at, posts_at, posted, event_for, routed}
use Rattle.m17_directory.specs.Laws.{EndsOnce, leaver_of, is_join, join_event, joins_by, joins_at, ClaimsAreAsked, joiner_of, joined_count, left_count, WhoJoinsLeaves}
use Rattle.m17_directory.proofs.Same.{length_asked}
use Rattle.m17_directory.proofs.LawMore.{posted_upto}
use Rattle.m17_directory.proofs.LawPosts.{seat_of, left_seat, Leaves, leaves_heard, leaves_settled}
use Rattle.m17_directory.proofs.LawJoins.{joins_of_events, joins_posted}
use Rattle.m17_directory.proofs.LawEnds.{nobody_known}
use Rattle.m17_directory.proofs.LawCounts.{count, count_is, count_append, count_map, is_such, such_heard}
use Rattle.m17_directory.proofs.LawWho.{AsksFor, asks_one, heard_count, known_next, claim_count}

abbrev pub joiner : Event → Option Member
joiner event = joiner_of event.body

abbrev pub leaver : Event → Option Member
leaver event = leaver_of event.body

-- the Leaves that a module is posted, and the rows that leave there
pulled : (read : Event → Option Member) (b : Bool) (event : Event) (xs : List Event) → filter_map read (cons_option (cond b (Some event) None) xs) ≡ cond b (cons_option (read event) (filter_map read xs)) (filter_map read xs)
pulled read true event xs = refl
pulled read false event xs = refl

pub plus_zero : (n : ℕ) → n + 0 ≡ n
plus_zero n = omega arith

pub zero_sum : (n : ℕ) → n ≡ 0 → 0 ≡ 0 + n
zero_sum n e = omega arith

pub no_more : (m n : ℕ) → m ≡ n → m ≡ n + 0
no_more m n e = omega arith

pub step_sum : (after before heard replaced left joined row : ℕ) → left ≡ heard + replaced → joined ≡ row → after + (heard + replaced) ≡ before + row → after + left ≡ before + joined
step_sum after before heard replaced left joined row l j e = omega arith

pub none_sum : (after before heard left joined : ℕ) → left ≡ heard + 0 → joined ≡ 0 → after + heard ≡ before → after + left ≡ before + joined
none_sum after before heard left joined l j e = omega arith

pub all_sum : (joins joins_before joined leaves leaves_before left after before : ℕ) → joins ≡ joins_before + joined → leaves ≡ leaves_before + left → joins_before ≡ leaves_before + before → after + left ≡ before + joined → joins ≡ leaves + after
all_sum joins joins_before joined leaves leaves_before left after before j l b s = omega arith

zero_more : (n : ℕ) → n ≡ 0 + n
zero_more n = omega arith

leaves_step : (o u : Outcome) (b : Bool) → Leaves o → Leaves u → Leaves (cond b (both o u) o)
leaves_step o u true h k =
    filter_map-append left_seat o.posts u.posts
    ∙ ap (λ xs. xs ++ filter_map left_seat u.posts) h
    ∙ ap (λ xs. map seat_of o.left ++ xs) k
    ∙ sym (map-append seat_of o.left u.left)
leaves_step o u false h k = h

pub settled_none : (past : Past) (notice : Notice) (request : Option Request) → (settled_by past None notice request).left ≡ []
settled_none past (Notice.Sent from at p) (Some request) = refl
settled_none past (Notice.Sent from at p) None = refl
settled_none past (Notice.Garbled from at refusal) request = refl
settled_none past (Notice.Quiet at) request = refl
settled_none past Notice.Fault request = refl
settled_none past Notice.End request = refl

pub none_settled : (past : Past) → (settled_at past None).left ≡ []
unfolding settled_at
none_settled past = settled_none past (notice_at past.entries (now past)) (request_in (notice_at past.entries (now past)))

pub settled_some : (past : Past) (claim : Claim) (one : AsksFor (notice_at past.entries (now past))) → (settled_at past (Some claim)).left ≡ filter (has_place claim.member.place) (others_at past)
unfolding settled_at
settled_some past claim one =
    ap (λ y. (settled_by past (Some claim) y (request_in y)).left) one.says
    ∙ ap (λ o. (settled_by past (Some claim) (Notice.Sent one.from one.at one.packet) o).left) one.wants

joins_none : (here : Here) (letter : ℕ) (notice : Notice) (request : Option Request) → joins_by here letter notice request None ≡ []
joins_none here letter (Notice.Sent from at p) (Some request) = refl
joins_none here letter (Notice.Sent from at p) None = refl
joins_none here letter (Notice.Garbled from at refusal) request = refl
joins_none here letter (Notice.Quiet at) request = refl
joins_none here letter Notice.Fault request = refl
joins_none here letter Notice.End request = refl

module _ (letter : ℕ) (test : Member → Bool) where
  abbrev pub such : Known → Bool
  such = is_such letter test

  abbrev such_seat : ℕ × Member → Bool
  such_seat s = eqb s.0 letter && test s.1

  leaver_step : (to : ℕ) (b : Bool) (o : Option Member) (zs : List Member) (ys : List (ℕ × Member)) → b ≡ eqb to letter → count test zs ≡ count such_seat ys
      → count test (cond b (cons_option o zs) zs) ≡ count such_seat (cons_option (option_map (λ (m : Member). (to, m)) o) ys)
  leaver_step to true None zs ys e h = h
  leaver_step to false None zs ys e h = h
  leaver_step to true (Some m) zs ys e h = ap (λ n. cond (test m) 1 0 + n) h ∙ ap (λ b. cond (b && test m) 1 0 + count such_seat ys) e
  leaver_step to false (Some m) zs ys e h = h ∙ zero_more (count such_seat ys) ∙ ap (λ b. cond (b && test m) 1 0 + count such_seat ys) e

  leavers_seats : (posts : List Dispatch) → count test (filter_map leaver (filter_map (event_for letter) posts)) ≡ count such_seat (filter_map left_seat posts)
  leavers_seats [] = refl
  leavers_seats (ToModule to event ∷ posts) =
      ap (count test) (pulled leaver (eqb to letter) event (filter_map (event_for letter) posts))
      ∙ leaver_step to (eqb to letter) (leaver_of event.body) (filter_map leaver (filter_map (event_for letter) posts)) (filter_map left_seat posts) refl (leavers_seats posts)
  leavers_seats (ToDoor direct ∷ posts) = leavers_seats posts

  pub left_is : (o : Outcome) → Leaves o → count test (filter_map leaver (filter_map (event_for letter) o.posts)) ≡ count such o.left
  left_is o h = leavers_seats o.posts ∙ ap (count such_seat) h ∙ count_map such_seat such seat_of o.left (λ k. refl)

  one_joins : (b : Bool) (event : Event) (k : Member) → joiner event ≡ Some k → count test (filter_map joiner (cond b (event ∷ []) [])) ≡ cond (b && test k) 1 0
  one_joins true event k e = ap (λ o. count test (cons_option o [])) e ∙ plus_zero (cond (test k) 1 0)
  one_joins false event k e = refl

  -- the Joins that a module is posted
  joiner_step : (what : Body) (event : Event) (zs us : List Member) → zs ≡ us → cons_option (joiner_of what) zs ≡ cond (is_join what) (cons_option (joiner_of what) us) us
  joiner_step (Join k x callsign listen after) event zs us h = ap (λ ys. k ∷ ys) h
  joiner_step (Leave k why) event zs us h = h
  joiner_step (Packet k p) event zs us h = h
  joiner_step (Reply k control) event zs us h = h
  joiner_step Tick event zs us h = h
  joiner_step Stop event zs us h = h

  joined_if : (b : Bool) (event : Event) (xs : List Event) → cond b (cons_option (joiner event) (filter_map joiner xs)) (filter_map joiner xs) ≡ filter_map joiner (cond b (event ∷ xs) xs)
  joined_if true event xs = refl
  joined_if false event xs = refl

  joiners_joins : (events : List Event) → filter_map joiner events ≡ filter_map joiner (filter (λ e. is_join e.body) events)
  joiners_joins [] = refl
  joiners_joins (event ∷ events) =
      joiner_step event.body event (filter_map joiner events) (filter_map joiner (filter (λ e. is_join e.body) events)) (joiners_joins events)
      ∙ joined_if (is_join event.body) event (filter (λ e. is_join e.body) events)

  module _ (setup : Setup) (entries : List Entry) where
    abbrev pub joined_at : ℕ → ℕ
    joined_at n = count test (filter_map joiner (filter_map (event_for letter) (posts_at setup entries n)))

    abbrev pub left_at : ℕ → ℕ
    left_at n = count test (filter_map leaver (filter_map (event_for letter) (posts_at setup entries n)))

    abbrev pub known_count : ℕ → ℕ
    known_count n = count such (known_at (past_at setup entries n))

    abbrev claim_joins : ℕ → Bool → Option Claim → List Event
    claim_joins n asks claim = cond asks (joins_by (here_of (past_at setup entries n)) letter (notice_at entries n) (request_in (notice_at entries n)) claim) []

    joined_is : (n : ℕ) → joined_at n ≡ count test (filter_map joiner (claim_joins n (asks_at (past_at setup entries n)) (claim_at entries n)))
    unfolding joins_at
    joined_is n =
        ap (count test) (joiners_joins (filter_map (event_for letter) (posts_at setup entries n))
        ∙ ap (filter_map joiner) (joins_of_events letter (posts_at setup entries n) ∙ joins_posted setup entries letter n))

    -- the outcome of a position, by whether it asks and by its claim
    abbrev out : ℕ → Bool → Option Claim → Outcome
    out n asks claim = cond asks (both (unclaimed_at (past_at setup entries n)) (settled_at (past_at setup entries n) claim)) (unclaimed_at (past_at setup entries n))

    left_at_is : (n : ℕ) → left_at n ≡ count such (out n (asks_at (past_at setup entries n)) (claim_at entries n)).left
    unfolding posts_at
    left_at_is n =
        let past : Past = past_at setup entries n in
        left_is (comes_to past) (leaves_step (unclaimed_at past) (settled_at past (claim_at entries (now past))) (asks_at past) (leaves_heard past) (leaves_settled past (claim_at entries (now past))))
        ∙ ap (λ m. count such (out n (asks_at past) (claim_at entries m)).left) (length_asked setup entries n)

    abbrev Step : ℕ → Bool → Option Claim → Type 0
    Step n asks claim = known_count (suc n) + count such (out n asks claim).left ≡ known_count n + count test (filter_map joiner (claim_joins n asks claim))

    none_next : (n : ℕ) → claim_at entries n ≡ None → known_count (suc n) + count such (unclaimed_at (past_at setup entries n)).left ≡ known_count n
    none_next n none =
        ap (λ ks. count such ks + count such (unclaimed_at (past_at setup entries n)).left) (known_next setup entries n none) ∙ heard_count (past_at setup entries n) such (such_heard letter test)

    step_claim : (n : ℕ) → n < length entries → (asks : asks_at (past_at setup entries n) ≡ true) (claim : Claim) → claim_at entries n ≡ Some claim → Step n true (Some claim)
    step_claim n l asks claim given =
        let past : Past = past_at setup entries n in
        let one : AsksFor (notice_at entries (now past)) = asks_one past asks in
        let len : length (asked_before setup entries n) ≡ n = length_asked setup entries n in
        let replaced : List Known = filter (has_place claim.member.place) (others_at past) in
        let left : count such ((unclaimed_at past).left ++ (settled_at past (Some claim)).left) ≡ count such (unclaimed_at past).left + count such replaced =
        count_append such (unclaimed_at past).left (settled_at past (Some claim)).left
        ∙ ap (λ ks. count such (unclaimed_at past).left + count such ks) (settled_some past claim one) in
        let joins : joins_by (here_of past) letter (notice_at entries n) (request_in (notice_at entries n)) (Some claim) ≡ cond (eqb one.request.letter letter) (join_event (here_of past) one.from one.request claim ∷ []) [] =
        ap (λ m. joins_by (here_of past) letter (notice_at entries m) (request_in (notice_at entries m)) (Some claim)) (sym len)
        ∙ ap (λ y. joins_by (here_of past) letter y (request_in y) (Some claim)) one.says
        ∙ ap (λ o. joins_by (here_of past) letter (Notice.Sent one.from one.at one.packet) o (Some claim)) one.wants in
        let joined : count test (filter_map joiner (joins_by (here_of past) letter (notice_at entries n) (request_in (notice_at entries n)) (Some claim))) ≡ cond (eqb one.request.letter letter && test claim.member) 1 0 =
        ap (λ xs. count test (filter_map joiner xs)) joins ∙ one_joins (eqb one.request.letter letter) (join_event (here_of past) one.from one.request claim) claim.member refl in
        step_sum (known_count (suc n)) (known_count n) (count such (unclaimed_at past).left) (count such replaced) _ _ _ left joined (claim_count setup entries n l asks claim given such (such_heard letter test))

    step_none : (n : ℕ) → claim_at entries n ≡ None → Step n true None
    step_none n none =
        let past : Past = past_at setup entries n in
        let left : count such ((unclaimed_at past).left ++ (settled_at past None).left) ≡ count such (unclaimed_at past).left + 0 =
        count_append such (unclaimed_at past).left (settled_at past None).left ∙ ap (λ ks. count such (unclaimed_at past).left + count such ks) (none_settled past) in
        let joined : count test (filter_map joiner (joins_by (here_of past) letter (notice_at entries n) (request_in (notice_at entries n)) None)) ≡ 0 =
        ap (λ xs. count test (filter_map joiner xs)) (joins_none (here_of past) letter (notice_at entries n) (request_in (notice_at entries n))) in
        none_sum (known_count (suc n)) (known_count n) (count such (unclaimed_at past).left) _ _ left joined (none_next n none)

    step_by : (n : ℕ) (b : Bool) (o : Option Claim) → n < length entries → asks_at (past_at setup entries n) ≡ b → claim_at entries n ≡ o → (b ≡ false → claim_at entries n ≡ None) → Step n b o
    step_by n true (Some claim) l asks given h = step_claim n l asks claim given
    step_by n true None l asks given h = step_none n given
    step_by n false o l asks given h = no_more (known_count (suc n) + count such (unclaimed_at (past_at setup entries n)).left) (known_count n) (none_next n (h refl))

    pub step : (n : ℕ) → n < length entries → ClaimsAreAsked setup entries → known_count (suc n) + left_at n ≡ known_count n + joined_at n
    step n l claims =
        let asks : Bool = asks_at (past_at setup entries n) in
        ap (λ m. known_count (suc n) + m) (left_at_is n)
        ∙ step_by n asks (claim_at entries n) l refl refl (claims n l)
        ∙ ap (λ m. known_count n + m) (sym (joined_is n))

    abbrev so_many : (Event → Option Member) → ℕ → ℕ
    so_many read n = count test (filter_map read (filter_map (event_for letter) (flat_map (posts_at setup entries) (range_with_len 0 n))))

    one_more : (read : Event → Option Member) (n : ℕ) → so_many read (suc n) ≡ so_many read n + count test (filter_map read (filter_map (event_for letter) (posts_at setup entries n)))
    one_more read n =
        let earlier : List Dispatch = flat_map (posts_at setup entries) (range_with_len 0 n) in
        ap (λ ds. count test (filter_map read (filter_map (event_for letter) ds))) (posted_upto setup entries n)
        ∙ ap (λ xs. count test (filter_map read xs)) (filter_map-append (event_for letter) earlier (posts_at setup entries n))
        ∙ ap (count test) (filter_map-append read (filter_map (event_for letter) earlier) (filter_map (event_for letter) (posts_at setup entries n)))
        ∙ count_append test (filter_map read (filter_map (event_for letter) earlier)) (filter_map read (filter_map (event_for letter) (posts_at setup entries n)))

    nobody_first : known_at (past_at setup entries zero) ≡ []
    unfolding known_at asked_before peers_named
    nobody_first = refl

    upto : (n : ℕ) → n ≤ length entries → ClaimsAreAsked setup entries → so_many joiner n ≡ so_many leaver n + known_count n
    upto zero l claims = zero_sum (known_count zero) (ap (count such) nobody_first)
    upto (suc n) l claims =
        let before : so_many joiner n ≡ so_many leaver n + known_count n = upto n (omega arith) claims in
        let here : known_count (suc n) + left_at n ≡ known_count n + joined_at n = step n (omega arith) claims in
        all_sum (so_many joiner (suc n)) (so_many joiner n) (joined_at n) (so_many leaver (suc n)) (so_many leaver n) (left_at n) (known_count (suc n)) (known_count n) (one_more joiner n) (one_more leaver n) before here

who_so_far : (setup : Setup) (entries : List Entry) (letter : ℕ) (test : Member → Bool) → ClaimsAreAsked setup entries
    → joined_count setup entries letter test ≡ left_count setup entries letter test + count_by (λ (k : Known). eqb k.letter letter && test k.member) (known_at (past_at setup entries (length entries)))
unfolding routed posted
who_so_far setup entries letter test claims =
    let n : ℕ = length entries in
    let such : Known → Bool = is_such letter test in
    let rows : List Known = known_at (past_at setup entries n) in
    let f : (Event → Option Member) → List Member = λ read. filter_map read (filter_map (event_for letter) (flat_map (posts_at setup entries) (range_with_len 0 n))) in
    count_is test (f joiner)
    ∙ upto letter test setup entries n (omega arith) claims
    ∙ ap (λ m. m + count such rows) (sym (count_is test (f leaver)))
    ∙ ap (λ m. count_by test (f leaver) + m) (sym (count_is such rows))

who_at_the_end : (setup : Setup) (entries : List Entry) (letter : ℕ) (test : Member → Bool) → ClaimsAreAsked setup entries → EndsOnce entries → joined_count setup entries letter test ≡ left_count setup entries letter test
who_at_the_end setup entries letter test claims once =
    who_so_far setup entries letter test claims
    ∙ ap (λ ks. left_count setup entries letter test + count_by (λ (k : Known). eqb k.letter letter && test k.member) ks) (nobody_known setup entries once)
    ∙ plus_zero (left_count setup entries letter test)

pub who_leaves : WhoJoinsLeaves
who_leaves = record { so_far = who_so_far; at_the_end = who_at_the_end }
