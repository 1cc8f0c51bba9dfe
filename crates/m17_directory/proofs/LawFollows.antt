-- Each Leave that a module is routed stands behind a Join of its member; and the place of one that was replaced was claimed again.
use Rattle.std.proofs.Common.{◌≡◌, ℕ, zero, suc, ◌-◌, ◌<◌, ◌≤◌, Bool, true, false, cond, eqb, List, [], ◌∷◌, ◌++◌, length, filter, filter_map, slice_get, unwrap_or, option_and_then, Option, None, Some, inl, inr, refl, ap, sym, ◌∙◌, subst, arith, length-append}
use Rattle.std.specs.List.{AllByRecursion, cons_option, flat_map, range_with_len}
use Rattle.std.proofs.lemmas.Bool.{cases_eq, cases_lt, cond-true, eq-eqb, eqb-true, and_parts}
use Rattle.std.proofs.lemmas.List.Elements.{filter_map-append}
use Rattle.std.proofs.lemmas.Option.{same_Some, none-some}
use Rattle.m17_lists.proofs.Places.{places_before_stay}
use Rattle.m17_values.specs.declared.member.Member.{Member}
use Rattle.m17_values.specs.declared.peer.Peer.{Peer}
use Rattle.m17_control.specs.declared.event.Body.{Body}
use Rattle.m17_control.specs.declared.event.Body.TheVariants as body
use Rattle.m17_control.specs.declared.event.Event.{Event}
use Rattle.m17_control.specs.declared.event.Why.{Why}
use Rattle.m17_control.specs.declared.event.Why.TheVariants as why
use Rattle.m17_control.specs.Renamed.{joiner_of, joiner_at}
use Rattle.m17_directory.specs.declared.dispatch.Dispatch.{Dispatch}
use Rattle.m17_directory.specs.declared.dispatch.Dispatch.TheVariants.{ToModule, ToDoor}
use Rattle.m17_directory.specs.declared.known.Known.{Known}
use Rattle.m17_directory.specs.declared.known.Request.{Request}
use Rattle.m17_directory.specs.Entries.{Notice, Claim, Entry, Setup, notice_at, claim_at, is_from}
use Rattle.m17_directory.specs.Known.{Past, now, request_in, row_at, known_at}
use Rattle.m17_directory.specs.Outcome.{Here, has_place}
use Rattle.m17_directory.specs.Routed.{here_of, others_at, asks_at, past_at, posts_at, posted, event_for, routed}
use Rattle.m17_directory.specs.Laws.{is_join, join_event, joins_by, joins_at, IsClaimedAgain, LeavesFollowJoins}
use Rattle.m17_directory.proofs.Same.{length_asked}
use Rattle.m17_directory.proofs.Later.{has_row}
use Rattle.m17_directory.proofs.LawJoins.{joins_of_events, joins_posted}
use Rattle.m17_directory.proofs.LawMore.{posted_upto}
use Rattle.m17_directory.proofs.AllPosts.{all_found, others_all, all_posts}
use Rattle.m17_directory.proofs.LawSent.{asked_get}
use Rattle.m17_directory.proofs.LawWho.{asks_one}

-- what is true of each Leave among what is posted: its letter, its member, and why
module _ (P : ℕ → Member → Why → Type 0) where
  abbrev OfLeave : ℕ → Body → Type 0
  OfLeave letter (body.Leave k w) = P letter k w
  OfLeave letter _ = Unit {0}

  abbrev IsSuchLeave : Dispatch → Type 0
  IsSuchLeave (ToModule letter event) = OfLeave letter event.body
  IsSuchLeave (ToDoor direct) = Unit {0}

  abbrev SuchLeaves : List Dispatch → Type 0
  SuchLeaves posts = AllByRecursion IsSuchLeave posts

  -- true of a row, for whatever reason but that it is replaced
  abbrev MayGo : Known → Type 0
  MayGo k = (w : Why) → (w ≡ why.Replaced → ⊥) → P k.letter k.member w

  -- those that are replaced
  abbrev AreReplaced : List Known → Option Claim → Type 0
  AreReplaced others claim = (c : Claim) → claim ≡ Some c → AllByRecursion (λ (k : Known). P k.letter k.member why.Replaced) (filter (has_place c.member.place) others)

  posts_go : (setup : Setup) (entries : List Entry) (n : ℕ) → AllByRecursion MayGo (known_at (past_at setup entries n)) → AreReplaced (others_at (past_at setup entries n)) (claim_at entries (now (past_at setup entries n))) → SuchLeaves (posts_at setup entries n)
  posts_go setup entries n h r = all_posts IsSuchLeave MayGo setup entries n (record {
    known = h;
    leaves = λ k w s other. s w other;
    tick = λ letter s. tt;
    stop = λ letter s e. tt;
    door = λ x reply is. tt;
    frame = λ k p s. tt;
    reply = λ k reply s. tt;
    replaced = r;
    join = λ c given x request asks wants. tt;
  })

  -- .. among the events of a module
  event_step : (letter to : ℕ) (event : Event) (rest : List Event) (b : Bool) → eqb to letter ≡ b → OfLeave to event.body → AllByRecursion (λ (e : Event). OfLeave letter e.body) rest → AllByRecursion (λ (e : Event). OfLeave letter e.body) (cons_option (cond b (Some event) None) rest)
  event_step letter to event rest true e h k = (subst (λ (l : ℕ). OfLeave l event.body) (eqb-true to letter e) h, k)
  event_step letter to event rest false e h k = k

  events_go : (letter : ℕ) (posts : List Dispatch) → SuchLeaves posts → AllByRecursion (λ (e : Event). OfLeave letter e.body) (filter_map (event_for letter) posts)
  events_go letter [] h = tt
  events_go letter (ToModule to event ∷ posts) h = event_step letter to event (filter_map (event_for letter) posts) (eqb to letter) refl h.0 (events_go letter posts h.1)
  events_go letter (ToDoor direct ∷ posts) h = events_go letter posts h.1

  leave_at : (letter : ℕ) (events : List Event) (p : ℕ) (event : Event) (k : Member) (w : Why) → AllByRecursion (λ (e : Event). OfLeave letter e.body) events → slice_get events p ≡ Some event → event.body ≡ body.Leave k w → P letter k w
  leave_at letter [] p event k w h e is = absurd (none-some event e)
  leave_at letter (x ∷ xs) zero event k w h e is = subst (OfLeave letter) (ap (λ (v : Event). v.body) (same_Some x event e) ∙ is) h.0
  leave_at letter (x ∷ xs) (suc p) event k w h e is = leave_at letter xs p event k w h.1 e is

-- The entry that gave a member its place in a module.
record IsFrom (setup : Setup) (entries : List Entry) (n letter : ℕ) (k : Member) : Type 0 where
  at : ℕ
  before : at < n
  claim : Claim
  request : Request
  asks : asks_at (past_at setup entries at) ≡ true
  given : claim_at entries at ≡ Some claim
  wants : request_in (notice_at entries at) ≡ Some request
  member : claim.member ≡ k
  letter_is : request.letter ≡ letter

row_from : (setup : Setup) (entries : List Entry) (n : ℕ) (x : Peer) (k : Known) → row_at (past_at setup entries n) x ≡ Some k → IsFrom setup entries n k.letter k.member
row_from setup entries n x k e =
    let past : Past = past_at setup entries n in
    let it = has_row past x k e in
    let len : length past.asked ≡ n = length_asked setup entries n in
    let under : it.position < length past.asked = it.below in
    let below : it.position < n = omega arith in
    let asked = and_parts (unwrap_or (slice_get past.asked it.position) false) (is_from x (notice_at entries it.position)) it.asks in
    record {
      at = it.position;
      before = below;
      claim = it.claim;
      request = it.request;
      asks = sym (ap (λ o. unwrap_or o false) (asked_get setup entries n it.position below)) ∙ asked.0;
      given = it.given;
      wants = it.wants;
      member = ap (λ (r : Known). r.member) it.is;
      letter_is = ap (λ (r : Known). r.letter) it.is;
    }

known_from : (setup : Setup) (entries : List Entry) (n : ℕ) → AllByRecursion (λ (k : Known). IsFrom setup entries n k.letter k.member) (known_at (past_at setup entries n))
unfolding known_at
known_from setup entries n = all_found (λ (k : Known). IsFrom setup entries n k.letter k.member) (row_at (past_at setup entries n)) _ (row_from setup entries n)

-- What is true of each Leave by the entry at position n.
abbrev IsSettled : Setup → List Entry → ℕ → ℕ → Member → Why → Type 0
IsSettled setup entries n letter k w = IsFrom setup entries n letter k × (w ≡ why.Replaced → IsClaimedAgain entries k)

may_go : (setup : Setup) (entries : List Entry) (n : ℕ) (rows : List Known) → AllByRecursion (λ (k : Known). IsFrom setup entries n k.letter k.member) rows → AllByRecursion (MayGo (IsSettled setup entries n)) rows
may_go setup entries n [] h = tt
may_go setup entries n (k ∷ rows) h = (λ w other. (h.0, λ e. absurd (other e)), may_go setup entries n rows h.1)

again : (setup : Setup) (entries : List Entry) (n letter : ℕ) (k : Member) (claim : Claim) → claim_at entries n ≡ Some claim → k.place ≡ claim.member.place → IsFrom setup entries n letter k → IsClaimedAgain entries k
again setup entries n letter k claim given same from = record {
  first = from.at;
  second = n;
  own = from.claim;
  other = claim;
  later = from.before;
  own_there = from.given;
  other_there = given;
  is_own = from.member;
  same_place = sym same;
}

replaced_step : (setup : Setup) (entries : List Entry) (n : ℕ) (claim : Claim) (k : Known) (rest : List Known) (b : Bool) → has_place claim.member.place k ≡ b → claim_at entries n ≡ Some claim → IsFrom setup entries n k.letter k.member
    → AllByRecursion (λ (r : Known). IsSettled setup entries n r.letter r.member why.Replaced) rest → AllByRecursion (λ (r : Known). IsSettled setup entries n r.letter r.member why.Replaced) (cond b (k ∷ rest) rest)
replaced_step setup entries n claim k rest true e given from h =
    ((from, λ w. again setup entries n k.letter k.member claim given (eqb-true k.member.place claim.member.place e) from), h)
replaced_step setup entries n claim k rest false e given from h = h

are_replaced : (setup : Setup) (entries : List Entry) (n : ℕ) (claim : Claim) (rows : List Known) → claim_at entries n ≡ Some claim → AllByRecursion (λ (k : Known). IsFrom setup entries n k.letter k.member) rows
    → AllByRecursion (λ (r : Known). IsSettled setup entries n r.letter r.member why.Replaced) (filter (has_place claim.member.place) rows)
are_replaced setup entries n claim [] given h = tt
are_replaced setup entries n claim (k ∷ rows) given h =
    replaced_step setup entries n claim k (filter (has_place claim.member.place) rows) (has_place claim.member.place k) refl given h.0 (are_replaced setup entries n claim rows given h.1)

posts_settled : (setup : Setup) (entries : List Entry) (n : ℕ) → SuchLeaves (IsSettled setup entries n) (posts_at setup entries n)
posts_settled setup entries n =
    let past : Past = past_at setup entries n in
    posts_go (IsSettled setup entries n) setup entries n (may_go setup entries n (known_at past) (known_from setup entries n))
    (λ claim given. are_replaced setup entries n claim (others_at past) (ap (claim_at entries) (sym (length_asked setup entries n)) ∙ given)
    (others_all (λ (k : Known). IsFrom setup entries n k.letter k.member) past (known_from setup entries n)))

-- a Join that is filtered out of a list stands in it
abbrev HasJoin : List Event → Member → Type 0
HasJoin events k = (i : ℕ) × (i < length events) × (joiner_at events i ≡ Some k)

has_join_step : (b : Bool) (x one : Event) (xs : List Event) (k : Member) → joiner_at (one ∷ []) 0 ≡ Some k → cond b (x ∷ filter (λ e. is_join e.body) xs) (filter (λ e. is_join e.body) xs) ≡ one ∷ [] → (filter (λ e. is_join e.body) xs ≡ one ∷ [] → HasJoin xs k) → HasJoin (x ∷ xs) k
has_join_step true x one xs k is e rest =
    let same : x ≡ one = cc in (0, omega arith, ap (λ (v : Event). joiner_at (v ∷ []) 0) same ∙ is)
has_join_step false x one xs k is e rest = let (i, l, at) = rest e in (suc i, omega arith, at)

has_join : (one : Event) (xs : List Event) (k : Member) → joiner_at (one ∷ []) 0 ≡ Some k → filter (λ e. is_join e.body) xs ≡ one ∷ [] → HasJoin xs k
has_join one [] k is e = absurd cc
has_join one (x ∷ xs) k is e = has_join_step (is_join x.body) x one xs k is e (has_join one xs k is)

joiner_before : (xs ys : List Event) (i : ℕ) (k : Member) → i < length xs → joiner_at xs i ≡ Some k → joiner_at (xs ++ ys) i ≡ Some k
joiner_before xs ys i k l e = ap (option_and_then (λ (event : Event). joiner_of event.body)) (places_before_stay xs ys i l) ∙ e

join_behind : (xs ys : List Event) (k : Member) → HasJoin ys k → HasJoin (xs ++ ys) k
join_behind [] ys k h = h
join_behind (x ∷ xs) ys k h = let (i, l, e) = join_behind xs ys k h in (suc i, omega arith, e)

join_before : (xs ys : List Event) (k : Member) → HasJoin xs k → HasJoin (xs ++ ys) k
join_before xs ys k h = let (i, l, e) = h in (i, omega (arith, length-append xs ys), joiner_before xs ys i k l e)

get_past : (xs ys : List Event) (i : ℕ) → length xs ≤ i → slice_get (xs ++ ys) i ≡ slice_get ys (i - length xs)
get_past [] ys i l = let e : i ≡ i - 0 = omega arith in ap (slice_get ys) e
get_past (x ∷ xs) ys zero l = absurd (omega arith)
get_past (x ∷ xs) ys (suc i) l = let e : i - length xs ≡ suc i - suc (length xs) = omega arith in get_past xs ys i (omega arith) ∙ ap (slice_get ys) e

module _ (setup : Setup) (entries : List Entry) (letter : ℕ) where
  -- what the module is routed by the entries before a position, and by the entry there
  abbrev so_far : ℕ → List Event
  so_far n = filter_map (event_for letter) (flat_map (posts_at setup entries) (range_with_len 0 n))

  abbrev by_entry : ℕ → List Event
  by_entry n = filter_map (event_for letter) (posts_at setup entries n)

  one_more : (n : ℕ) → so_far (suc n) ≡ so_far n ++ by_entry n
  one_more n =
      ap (filter_map (event_for letter)) (posted_upto setup entries n)
      ∙ filter_map-append (event_for letter) (flat_map (posts_at setup entries) (range_with_len 0 n)) (posts_at setup entries n)

  -- the Join of an entry that gave a place in the module
  join_posted : (n : ℕ) (k : Member) (from : IsFrom setup entries n letter k) → HasJoin (by_entry from.at) k
  unfolding joins_at
  join_posted n k from =
      let i : ℕ = from.at in
      let at : Here = here_of (past_at setup entries i) in
      let one = asks_one (past_at setup entries i) from.asks in
      let says : notice_at entries i ≡ Notice.Sent one.from one.at one.packet = ap (notice_at entries) (sym (length_asked setup entries i)) ∙ one.says in
      let event : Event = join_event at one.from from.request from.claim in
      let f : Bool → Notice → Option Request → Option Claim → List Event = λ b y r c. cond b (joins_by at letter y r c) [] in
      let joins : joins_at setup entries letter i ≡ event ∷ [] =
      ap (λ b. f b (notice_at entries i) (request_in (notice_at entries i)) (claim_at entries i)) from.asks
      ∙ ap (λ c. joins_by at letter (notice_at entries i) (request_in (notice_at entries i)) c) from.given
      ∙ ap (λ r. joins_by at letter (notice_at entries i) r (Some from.claim)) from.wants
      ∙ ap (λ y. joins_by at letter y (Some from.request) (Some from.claim)) says
      ∙ cond-true (eqb from.request.letter letter) (event ∷ []) [] (eq-eqb from.request.letter letter from.letter_is) in
      has_join event (by_entry i) k (ap Some from.member) (joins_of_events letter (posts_at setup entries i) ∙ joins_posted setup entries letter i ∙ joins)

  joined_by : (m n : ℕ) (k : Member) (from : IsFrom setup entries n letter k) → from.at < m → HasJoin (so_far m) k
  joined_by zero n k from l = absurd (omega arith)
  joined_by (suc m) n k from l =
      subst (λ (xs : List Event). HasJoin xs k) (sym (one_more m))
      (elim (cases_eq from.at m) [
        | inl same ↦ join_behind (so_far m) (by_entry m) k (subst (λ (i : ℕ). HasJoin (by_entry i) k) same (join_posted n k from))
        | inr other ↦ join_before (so_far m) (by_entry m) k (joined_by m n k from (omega arith))
      ])

  abbrev Follows : ℕ → ℕ → Member → Why → Type 0
  Follows n p k w = ((i : ℕ) × (i < p) × (joiner_at (so_far n) i ≡ Some k)) × (w ≡ why.Replaced → IsClaimedAgain entries k)

  follows_later : (n p : ℕ) (k : Member) (w : Why) → p < length (so_far n) → Follows n p k w → Follows (suc n) p k w
  follows_later n p k w inside f =
      let (i, l, e) = f.0 in
      ((i, l, ap (λ xs. joiner_at xs i) (one_more n) ∙ joiner_before (so_far n) (by_entry n) i k (omega arith) e), f.1)

  follows_now : (n p : ℕ) (k : Member) (w : Why) → length (so_far n) ≤ p → IsSettled setup entries n letter k w → Follows (suc n) p k w
  follows_now n p k w behind s =
      let (i, l, e) = joined_by n n k s.0 s.0.before in
      ((i, omega arith, ap (λ xs. joiner_at xs i) (one_more n) ∙ joiner_before (so_far n) (by_entry n) i k l e), s.1)

  follows : (n p : ℕ) (event : Event) (k : Member) (w : Why) → slice_get (so_far n) p ≡ Some event → event.body ≡ body.Leave k w → Follows n p k w
  follows zero p event k w e is = absurd (none-some event e)
  follows (suc n) p event k w e is =
      let there : slice_get (so_far n ++ by_entry n) p ≡ Some event = ap (λ xs. slice_get xs p) (sym (one_more n)) ∙ e in
      elim (cases_lt p (length (so_far n))) [
        | inl l ↦ follows_later n p k w l (follows n p event k w (sym (places_before_stay (so_far n) (by_entry n) p l) ∙ there) is)
        | inr l ↦ follows_now n p k w l
            (leave_at (IsSettled setup entries n) letter (by_entry n) (p - length (so_far n)) event k w
            (events_go (IsSettled setup entries n) letter (posts_at setup entries n) (posts_settled setup entries n))
            (sym (get_past (so_far n) (by_entry n) p l) ∙ there) is)
      ]

pub leaves_follow : LeavesFollowJoins
unfolding routed posted
leaves_follow setup entries letter n event k w e is = follows setup entries letter (length entries) n event k w e is
