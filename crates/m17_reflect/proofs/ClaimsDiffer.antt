-- The memberships of a peer on a link wait for one another: each later one is greeted behind the notes of all before it.
use Rattle.std.proofs.Common.{◌≡◌, ℕ, zero, suc, ◌+◌, ◌<◌, Bool, true, false, cond, List, [], ◌∷◌, ◌++◌, length, take, Option, None, Some, sym, subst, refl, ap, ◌∙◌, inl, inr, arith, ◌≤◌}
use Rattle.std.specs.Prelude.{◌≢◌, ◌⊎◌, AllPairs, Contains, sum_by, count_by}
use Rattle.std.specs.List.{AllByRecursion, flat_map, range_with_len, cons_option}
use Rattle.std.proofs.lemmas.List.{take-append-le}
use Rattle.std.proofs.lemmas.List.Elements.{All-from_recursion, recursion_from_All}
use Rattle.std.proofs.lemmas.List.Kept.{AllPairs-cons}
use Rattle.m17_values.specs.declared.member.Member.{Member}
use Rattle.m17_values.specs.declared.peer.Peer.{Peer}
use Rattle.m17_control.specs.declared.modules.Modules.{Modules}
use Rattle.m17_directory.specs.declared.known.Request.{Request}
use Rattle.m17_directory.specs.Entries.{Notice, Claim, Entry, Setup, notice_at, claim_at, is_peer, is_from}
use Rattle.m17_directory.specs.Known.{request_in}
use Rattle.m17_directory.specs.Routed.{past_at, asks_at}
use Rattle.m17_receiver.specs.Devices.{IsCounted}
use Rattle.m17_receiver.specs.Claims.{IsGreetedAfter}
use Rattle.m17_sender.specs.Joined.{Joined, WaitsFor}
use Rattle.m17_reflect.specs.Sendings.{number_of, joined_by, joined_at, memberships}
use Rattle.std.specs.Option.{option_map}
use Rattle.std.proofs.lemmas.Option.{same_Some, none-some}
use Rattle.m17_directory.specs.Laws.{claimed_members, joiner_of}
use Rattle.m17_roll.specs.Laws.{NoMemberIsClaimedTwice}
use Rattle.m17_roll.specs.Closing.{EndView}
use Rattle.m17_roll.specs.Run.{IsRollRun, count_at}
use Rattle.m17_reflect.specs.Links.{Link, At}
use Rattle.m17_reflect.proofs.ModuleTrails.{claims_in}
use Rattle.std.proofs.lemmas.Bool.{cases_lt, cases_order}
use Rattle.std.proofs.lemmas.List.Sums.{sum_by-cons}
use Rattle.m17_control.specs.declared.event.Body.{Body}
use Rattle.m17_control.specs.declared.event.Body.TheVariants.{Join, Leave, Packet, Reply, Tick, Stop}
use Rattle.m17_control.specs.declared.event.Event.{Event}
use Rattle.m17_floor.specs.Acts.{is_same, is_join_of}
use Rattle.m17_lane.specs.Ends.{TrailEnd}
use Rattle.m17_module.specs.Events.{kind_of}
use Rattle.m17_module.specs.Laws.{joins, JoinsOnce}
use Rattle.m17_reflect.specs.Trails.{events_of}
use Rattle.m17_reflect.specs.Places.{AreSame, joiners}
use Rattle.m17_reflect.proofs.ListPlaces.{one_counts, two_count, sum_flat, hits, count_mapped}

module _ {A : Type 0} where
  -- nothing, or one
  abbrev pub OfOne : List A → Type 0
  OfOne xs = (xs ≡ []) ⊎ ((a : A) × (xs ≡ a ∷ []))

  later_step : (R : A → A → Type 0) (a : A) (xs ys : List A) → OfOne xs → ((b : A) → xs ≡ b ∷ [] → R a b) → AllByRecursion (R a) ys → AllByRecursion (R a) (xs ++ ys)
  later_step R a xs ys (inl none) h rest = subst (λ (zs : List A). AllByRecursion (R a) (zs ++ ys)) (sym none) rest
  later_step R a xs ys (inr one) h rest = subst (λ (zs : List A). AllByRecursion (R a) (zs ++ ys)) (sym one.1) (h one.0 one.1, rest)

  later_all : (R : A → A → Type 0) (f : ℕ → List A) (a : A) (i k n : ℕ) → i < k → ((j : ℕ) → OfOne (f j)) → ((j : ℕ) (b : A) → i < j → f j ≡ b ∷ [] → R a b) → AllByRecursion (R a) (flat_map f (range_with_len k n))
  later_all R f a i k zero lt one h = tt
  later_all R f a i k (suc n) lt one h =
      later_step R a (f k) (flat_map f (range_with_len (k + 1) n)) (one k) (λ b e. h k b lt e) (later_all R f a i (k + 1) n (omega arith) one h)

  pairs_step : (R : A → A → Type 0) (xs ys : List A) → OfOne xs → ((a : A) → xs ≡ a ∷ [] → AllByRecursion (R a) ys) → AllPairs R ys → AllPairs R (xs ++ ys)
  pairs_step R xs ys (inl none) h rest = subst (λ (zs : List A). AllPairs R (zs ++ ys)) (sym none) rest
  pairs_step R xs ys (inr one) h rest =
      subst (λ (zs : List A). AllPairs R (zs ++ ys)) (sym one.1) (AllPairs-cons R one.0 ys (All-from_recursion (R one.0) ys (h one.0 one.1)) rest)

  pub pairs_flat : (R : A → A → Type 0) (f : ℕ → List A) (k n : ℕ) → ((j : ℕ) → OfOne (f j)) → ((i j : ℕ) (a b : A) → i < j → f i ≡ a ∷ [] → f j ≡ b ∷ [] → R a b) → AllPairs R (flat_map f (range_with_len k n))
  pairs_flat R f k zero one h = λ i j d lt less. absurd (omega arith)
  pairs_flat R f k (suc n) one h =
      pairs_step R (f k) (flat_map f (range_with_len (k + 1) n)) (one k)
      (λ a e. later_all R f a k (k + 1) n (omega arith) one (λ j b lt eb. h k j a b lt e eb)) (pairs_flat R f (k + 1) n one h)

if_facts : (b : Bool) (x from : Peer) (it one : Joined) → is_peer x from ≡ b → cond b (it ∷ []) [] ≡ one ∷ [] → (it ≡ one) × (is_peer x from ≡ true)
if_facts true x from it one e h = let same : it ≡ one = cc in (same, e)
if_facts false x from it one e h = absurd cc

-- What a membership of a peer is of: a claim of an entry of the peer.
pub record IsOf (x : Peer) (notice : Notice) (claim : Option Claim) (one : Joined) : Type 0 where
  pub claimed : Claim
  pub is_claim : claim ≡ Some claimed
  pub member : one.member ≡ claimed.member
  pub after : one.after ≡ claimed.after
  pub from : is_from x notice ≡ true

by_facts : (modules : Modules) (x : Peer) (notice : Notice) (request : Option Request) (claim : Option Claim) (one : Joined) → joined_by modules x notice request claim ≡ one ∷ [] → IsOf x notice claim one
by_facts modules x (Notice.Sent from at p) (Some request) (Some claim) one e =
    let (same, is) = if_facts (is_peer x from) x from (record { m = number_of modules request.letter; member = claim.member; after = claim.after }) one refl e in record {
      claimed = claim;
      is_claim = refl;
      member = ap (λ (j : Joined). j.member) (sym same);
      after = ap (λ (j : Joined). j.after) (sym same);
      from = is;
    }
by_facts modules x (Notice.Sent from at p) (Some request) None one e = absurd cc
by_facts modules x (Notice.Sent from at p) None claim one e = absurd cc
by_facts modules x (Notice.Garbled from at refusal) request claim one e = absurd cc
by_facts modules x (Notice.Quiet at) request claim one e = absurd cc
by_facts modules x Notice.Fault request claim one e = absurd cc
by_facts modules x Notice.End request claim one e = absurd cc

asked_facts : (b : Bool) (js : List Joined) (one : Joined) → cond b js [] ≡ one ∷ [] → js ≡ one ∷ []
asked_facts true js one e = e
asked_facts false js one e = absurd cc

-- a membership is of the claim of its entry
pub joined_facts : (setup : Setup) (entries : List Entry) (x : Peer) (n : ℕ) (one : Joined) → joined_at setup entries x n ≡ one ∷ [] → IsOf x (notice_at entries n) (claim_at entries n) one
joined_facts setup entries x n one e =
    by_facts setup.modules x (notice_at entries n) (request_in (notice_at entries n)) (claim_at entries n) one
    (asked_facts (asks_at (past_at setup entries n)) (joined_by setup.modules x (notice_at entries n) (request_in (notice_at entries n)) (claim_at entries n)) one e)

if_one : (b : Bool) (it : Joined) → OfOne (cond b (it ∷ []) [])
if_one true it = inr (it, refl)
if_one false it = inl refl

by_one : (modules : Modules) (x : Peer) (notice : Notice) (request : Option Request) (claim : Option Claim) → OfOne (joined_by modules x notice request claim)
by_one modules x (Notice.Sent from at p) (Some request) (Some claim) =
    if_one (is_peer x from) (record { m = number_of modules request.letter; member = claim.member; after = claim.after })
by_one modules x (Notice.Sent from at p) (Some request) None = inl refl
by_one modules x (Notice.Sent from at p) None claim = inl refl
by_one modules x (Notice.Garbled from at refusal) request claim = inl refl
by_one modules x (Notice.Quiet at) request claim = inl refl
by_one modules x Notice.Fault request claim = inl refl
by_one modules x Notice.End request claim = inl refl

asked_one : (b : Bool) (js : List Joined) → OfOne js → OfOne (cond b js [])
asked_one true js h = h
asked_one false js h = inl refl

joined_one : (setup : Setup) (entries : List Entry) (x : Peer) (n : ℕ) → OfOne (joined_at setup entries x n)
joined_one setup entries x n =
    asked_one (asks_at (past_at setup entries n)) (joined_by setup.modules x (notice_at entries n) (request_in (notice_at entries n)) (claim_at entries n))
    (by_one setup.modules x (notice_at entries n) (request_in (notice_at entries n)) (claim_at entries n))

-- No two claims of a link's entries are of one member.
abbrev pub ClaimsDiffer : List Entry → Type 0
ClaimsDiffer entries = (i n : ℕ) (a b : Claim) → i < n → claim_at entries i ≡ Some a → claim_at entries n ≡ Some b → a.member ≢ b.member

waits_at : (entries : List Entry) (x : Peer) (popped rest notes : List Member) (i n : ℕ) (a b : Joined) → notes ≡ popped ++ rest → IsCounted popped → IsGreetedAfter entries popped → ClaimsDiffer entries → i < n → IsOf x (notice_at entries i) (claim_at entries i) a → IsOf x (notice_at entries n) (claim_at entries n) b → WaitsFor notes a b
waits_at entries x popped rest notes i n a b whole counted greeted differ lt of_a of_b =
    let first = greeted.enough n of_b.claimed of_b.is_claim in
    let at : take of_b.claimed.after notes ≡ take of_b.claimed.after popped = ap (take of_b.claimed.after) whole ∙ take-append-le of_b.claimed.after popped rest first in
    let stands = greeted.earlier counted i n of_a.claimed of_b.claimed lt of_a.is_claim of_b.is_claim (x, of_a.from, of_b.from) in (
      λ same. differ i n of_a.claimed of_b.claimed lt of_a.is_claim of_b.is_claim (sym of_a.member ∙ same ∙ of_b.member),
      subst (λ (m : ℕ). Contains (take m notes) a.member) (sym of_b.after)
          (subst (λ (ms : List Member). Contains ms a.member) (sym at)
          (subst (Contains (take of_b.claimed.after popped)) (sym of_a.member) stands)),
    )

-- The memberships wait for one another.
pub memberships_wait : (setup : Setup) (entries : List Entry) (x : Peer) (popped rest notes : List Member) → notes ≡ popped ++ rest → IsCounted popped → IsGreetedAfter entries popped → ClaimsDiffer entries → AllPairs (WaitsFor notes) (memberships setup entries x)
unfolding memberships
memberships_wait setup entries x popped rest notes whole counted greeted differ =
    pairs_flat (WaitsFor notes) (joined_at setup entries x) 0 (length entries) (joined_one setup entries x)
    (λ i n a b lt ea eb. waits_at entries x popped rest notes i n a b whole counted greeted differ lt
    (joined_facts setup entries x i a ea) (joined_facts setup entries x n b eb))

-- No two claims of a link are of one member, since the roll claims none twice.

module _ {A : Type 0} where
  pub pairs_head : (R : A → A → Type 0) (x : A) (xs : List A) → AllPairs R (x ∷ xs) → AllByRecursion (R x) xs
  pairs_head R x xs h = recursion_from_All (R x) xs (λ k d lt. h 0 (suc k) d (omega arith) (omega arith))

  pub pairs_tail : (R : A → A → Type 0) (x : A) (xs : List A) → AllPairs R (x ∷ xs) → AllPairs R xs
  pairs_tail R x xs h = λ i j d lt less. h (suc i) (suc j) d (omega arith) (omega arith)

  pub pairs_back : (R : A → A → Type 0) (xs ys : List A) → AllPairs R (xs ++ ys) → AllPairs R ys
  pairs_back R [] ys h = h
  pairs_back R (x ∷ xs) ys h = pairs_back R xs ys (pairs_tail R x (xs ++ ys) h)

  all_front : (P : A → Type 0) (xs ys : List A) → AllByRecursion P (xs ++ ys) → AllByRecursion P xs
  all_front P [] ys h = tt
  all_front P (x ∷ xs) ys h = (h.0, all_front P xs ys h.1)

  pub pairs_front : (R : A → A → Type 0) (xs ys : List A) → AllPairs R (xs ++ ys) → AllPairs R xs
  pairs_front R [] ys h = λ i j d lt less. absurd (omega arith)
  pairs_front R (x ∷ xs) ys h =
      AllPairs-cons R x xs (All-from_recursion (R x) xs (all_front (R x) xs ys (pairs_head R x (xs ++ ys) h)))
      (pairs_front R xs ys (pairs_tail R x (xs ++ ys) h))

abbrev member_of_claim : Option Claim → Option Member
member_of_claim o = option_map (λ (claim : Claim). claim.member) o

rest_all : (P : Member → Type 0) (o : Option Member) (rest : List Member) → AllByRecursion P (cons_option o rest) → AllByRecursion P rest
rest_all P None rest h = h
rest_all P (Some k) rest h = h.1

rest_pairs : (R : Member → Member → Type 0) (o : Option Member) (rest : List Member) → AllPairs R (cons_option o rest) → AllPairs R rest
rest_pairs R None rest h = h
rest_pairs R (Some k) rest h = pairs_tail R k rest h

-- what holds of all members of claims holds of each claim's
pub claim_in : (P : Member → Type 0) (entries : List Entry) → AllByRecursion P (claimed_members entries) → (n : ℕ) (claim : Claim) → claim_at entries n ≡ Some claim → P claim.member
claim_in P [] h n claim e = absurd (none-some claim e)
claim_in P (entry ∷ entries) h zero claim e =
    (subst (λ (o : Option Claim). AllByRecursion P (cons_option (member_of_claim o) (claimed_members entries))) e h).0
claim_in P (entry ∷ entries) h (suc n) claim e =
    claim_in P entries (rest_all P (member_of_claim entry.claim) (claimed_members entries) h) n claim e

pub claims_differ : (entries : List Entry) → AllPairs (λ a b. a ≢ b) (claimed_members entries) → ClaimsDiffer entries
claims_differ [] h i n a b lt ea eb = absurd (none-some a ea)
claims_differ (entry ∷ entries) h zero zero a b lt ea eb = absurd (omega arith)
claims_differ (entry ∷ entries) h zero (suc n) a b lt ea eb =
    claim_in (λ k. a.member ≢ k) entries
    (pairs_head (λ a b. a ≢ b) a.member (claimed_members entries)
    (subst (λ (o : Option Claim). AllPairs (λ a b. a ≢ b) (cons_option (member_of_claim o) (claimed_members entries))) ea h)) n b eb
claims_differ (entry ∷ entries) h (suc i) zero a b lt ea eb = absurd (omega arith)
claims_differ (entry ∷ entries) h (suc i) (suc n) a b lt ea eb =
    claims_differ entries (rest_pairs (λ a b. a ≢ b) (member_of_claim entry.claim) (claimed_members entries) h) i n a b (omega arith) ea eb

link_pairs : (links : List Link) → AllPairs (λ a b. a ≢ b) (claims_in links) → (i : ℕ) (link : Link) → At links i link → AllPairs (λ a b. a ≢ b) (claimed_members link.entries)
link_pairs [] h i link e = absurd (none-some link e)
link_pairs (l ∷ links) h zero link e =
    subst (λ (m : Link). AllPairs (λ a b. a ≢ b) (claimed_members m.entries)) (same_Some l link e)
    (pairs_front (λ a b. a ≢ b) (claimed_members l.entries) (claims_in links) h)
link_pairs (l ∷ links) h (suc i) link e = link_pairs links (pairs_back (λ a b. a ≢ b) (claimed_members l.entries) (claims_in links) h) i link e

-- the claims of each link of a run
pub links_differ : NoMemberIsClaimedTwice → (roll : EndView) (links : List Link) → IsRollRun roll.words roll.claimed roll.given → roll.claimed ≡ claims_in links → (i : ℕ) (link : Link) → At links i link → ClaimsDiffer link.entries
links_differ law roll links run is i link e =
    claims_differ link.entries (link_pairs links (subst (AllPairs (λ a b. a ≢ b)) is (law roll.words roll.claimed roll.given run)) i link e)

-- A member that is claimed joins once, over the trails of all modules.

-- the two are one membership
abbrev pub mine : Member → Member → Bool
mine k m = is_same m k

-- In a run of the roll a member at one of its places is claimed once at the most.
once_by : (ws : List ℕ) (claimed given : List Member) (k : Member) → IsRollRun ws claimed given → k.place < length ws → (k.generation < count_at k.place claimed) ⊎ (count_at k.place claimed ≤ k.generation) → count_by (mine k) claimed ≤ 1
once_by ws claimed given k run lt (inl less) = let one = run.each_once k.place k.generation lt less in omega arith
once_by ws claimed given k run lt (inr past) = let none = run.no_other k.place k.generation lt past in omega arith

pub claimed_once : (ws : List ℕ) (claimed given : List Member) (k : Member) → IsRollRun ws claimed given → k.place < length ws → count_by (mine k) claimed ≤ 1
claimed_once ws claimed given k run lt =
    once_by ws claimed given k run lt (cases_lt k.generation (count_at k.place claimed))

-- what an event counts, where it is a Join of the member
abbrev weight : Member → Event → ℕ
weight k event = hits (mine k) (joiner_of event.body)

weighs : (k : Member) (body : Body) → is_join_of k (kind_of body) ≡ true → hits (mine k) (joiner_of body) ≡ 1
weighs k (Join m peer callsign listens after) e = ap (λ (b : Bool). cond b 1 0) e
weighs k (Leave m why) e = absurd cc
weighs k (Packet m p) e = absurd cc
weighs k (Reply m control) e = absurd cc
weighs k Tick e = absurd cc
weighs k Stop e = absurd cc

pub join_counts : (k : Member) (events : List Event) (p : ℕ) → joins events k p ≡ true → 1 ≤ sum_by (weight k) events
join_counts k [] p e = absurd cc
join_counts k (x ∷ events) zero e =
    let s = sum_by-cons (weight k) x events in let one = weighs k x.body e in omega arith
join_counts k (x ∷ events) (suc p) e =
    let s = sum_by-cons (weight k) x events in let r = join_counts k events p e in omega arith

once_in : (k : Member) (events : List Event) → sum_by (weight k) events ≤ 1 → (i j : ℕ) → joins events k i ≡ true → joins events k j ≡ true → i ≡ j
once_in k [] few i j ei ej = absurd cc
once_in k (x ∷ events) few zero zero ei ej = refl
once_in k (x ∷ events) few zero (suc j) ei ej =
    let s = sum_by-cons (weight k) x events in let one = weighs k x.body ei in
    let r = join_counts k events j ej in absurd (omega arith)
once_in k (x ∷ events) few (suc i) zero ei ej =
    let s = sum_by-cons (weight k) x events in let one = weighs k x.body ej in
    let r = join_counts k events i ei in absurd (omega arith)
once_in k (x ∷ events) few (suc i) (suc j) ei ej =
    let s = sum_by-cons (weight k) x events in ap suc (once_in k events (omega arith) i j ei ej)

-- how often the member joins by a trail
abbrev pub joined_in : Member → TrailEnd Event → ℕ
joined_in k trail = sum_by (weight k) (events_of trail)

-- The Joins of all trails have the member once at the most.
pub record JoinsOnceIn (trails : List (TrailEnd Event)) (k : Member) : Type 0 where
  pub once : (m : ℕ) (trail : TrailEnd Event) → At trails m trail → JoinsOnce (events_of trail) k
  pub alone : (m n p q : ℕ) (trail other : TrailEnd Event) → At trails m trail → At trails n other →
      joins (events_of trail) k p ≡ true → joins (events_of other) k q ≡ true → m ≡ n

pub sums_are : (k : Member) (trails : List (TrailEnd Event)) → sum_by (joined_in k) trails ≡ sum_by (λ (trail : TrailEnd Event). count_by (mine k) (joiners (events_of trail))) trails
sums_are k [] = refl
sums_are k (t ∷ trails) =
    let a = sum_by-cons (joined_in k) t trails in
    let b = sum_by-cons (λ (trail : TrailEnd Event). count_by (mine k) (joiners (events_of trail))) t trails in
    let c = count_mapped (mine k) (λ (event : Event). joiner_of event.body) (events_of t) in
    let d = sums_are k trails in omega arith

not_two : (k : Member) (trails : List (TrailEnd Event)) (m n p q : ℕ) (trail other : TrailEnd Event) → sum_by (joined_in k) trails ≤ 1 → At trails m trail → At trails n other → joins (events_of trail) k p ≡ true → joins (events_of other) k q ≡ true → (m ≡ n) ⊎ ((m < n) ⊎ (n < m)) → m ≡ n
not_two k trails m n p q trail other few at an jp jq (inl same) = same
not_two k trails m n p q trail other few at an jp jq (inr (inl less)) =
    let two = two_count (joined_in k) trails m n trail other less at an in
    let a = join_counts k (events_of trail) p jp in let b = join_counts k (events_of other) q jq in absurd (omega arith)
not_two k trails m n p q trail other few at an jp jq (inr (inr less)) =
    let two = two_count (joined_in k) trails n m other trail less an at in
    let a = join_counts k (events_of trail) p jp in let b = join_counts k (events_of other) q jq in absurd (omega arith)

-- Where the members that join are those that were claimed, each joins once.
pub joins_once : (trails : List (TrailEnd Event)) (claimed : List Member) (k : Member) → AreSame (flat_map (λ trail. joiners (events_of trail)) trails) claimed → count_by (mine k) claimed ≤ 1 → JoinsOnceIn trails k
joins_once trails claimed k same few =
    let all : sum_by (joined_in k) trails ≡ count_by (mine k) claimed =
    sums_are k trails
    ∙ sym (sum_flat (λ (m : Member). cond (mine k m) 1 0) (λ (trail : TrailEnd Event). joiners (events_of trail)) trails)
    ∙ same (mine k) in
    let few_in : sum_by (joined_in k) trails ≤ 1 = omega arith in record {
      once = λ m trail at.
          let part = one_counts (joined_in k) trails m trail at in once_in k (events_of trail) (omega arith);
      alone = λ m n p q trail other at an jp jq. not_two k trails m n p q trail other few_in at an jp jq (cases_order m n);
    }
