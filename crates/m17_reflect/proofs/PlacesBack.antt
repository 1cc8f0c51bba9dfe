-- No membership ends by a Leave with the cause Replaced: what is claimed again was given back, and no worker gives
-- back at such a Leave, whose Bye would be its member's only one.
use Rattle.m17_reflect.proofs.GivenBack.{BackLaws, IsGift, AreSettled, joins_of, joiner_there, is_routed, in_route, given_back, places_back, worker_seat, GaveNone, gifts_given, given_is_gift, of_link}
use Rattle.std.proofs.Common.{◌≡◌, ℕ, zero, suc, ◌+◌, ◌<◌, ◌≤◌, Bool, true, false, cond, not, List, [], ◌∷◌, length, Option, None, Some, inl, inr, sym, subst, refl, ap, ◌∙◌, arith, ◌++◌, map}
use Rattle.std.specs.Prelude.{slice_get, filter, sum_by, count_by, Contains, All}
use Rattle.std.specs.List.{flat_map, filter_map, cons_option, range_with_len, AllByRecursion}
use Rattle.std.specs.Option.{option_map}
use Rattle.std.proofs.lemmas.Bool.{cases_order, false≢true, cases_lt}
use Rattle.std.proofs.lemmas.Option.{same_Some, none-some}
use Rattle.std.proofs.lemmas.List.Elements.{All-contains, All-from_recursion}
use Rattle.std.proofs.lemmas.List.Sums.{sum_by-cons}
use Rattle.m17_values.specs.declared.member.Member.{Member}
use Rattle.m17_control.specs.declared.event.Body.TheVariants.{Leave}
use Rattle.m17_control.specs.declared.event.Event.{Event}
use Rattle.m17_control.specs.declared.event.Why.{Why}
use Rattle.m17_control.specs.declared.event.Why.TheVariants.{Replaced}
use Rattle.m17_control.specs.declared.item.Item.{Item}
use Rattle.m17_control.specs.declared.item.Said.{Said}
use Rattle.m17_control.specs.declared.item.Said.TheVariants as said
use Rattle.m17_floor.specs.Acts.{is_same, settles, kind_at}
use Rattle.m17_module.specs.Events.{kind_of, acts_of}
use Rattle.m17_module.specs.Items.{Setup, items_at, items_given, is_for, items_for}
use Rattle.m17_module.specs.Laws.{is_bye, joins, JoinsOnce, HasBye, ShareIsALife, FollowsJoin, ItemsFollowTheirJoins, InFromJoinToEnd}
use Rattle.m17_lane.specs.Ends.{TrailEnd, PushEnd}
use Rattle.m17_directory.specs.Routed.{routed}
use Rattle.m17_roll.specs.Closing.{EndView, gifts_of}
use Rattle.m17_worker.specs.Gifts.{why_left, left_by, leaves_replaced, is_replacing, gifts_by, gifts_at, gifts}
use Rattle.m17_plan.specs.declared.plan.Plan.{Plan}
use Rattle.m17_reflect.specs.Links.{Link, At, link_setup, letter_of, setup_at}
use Rattle.m17_reflect.specs.Places.{NobodyIsReplaced, ArePlacesBack, AreClaims, AreSame, joiners}
use Rattle.m17_reflect.specs.Trails.{events_of, AreTrails}
use Rattle.m17_reflect.proofs.LinkNotes.{says_bye, one_bye_only, all_in}
use Rattle.m17_reflect.proofs.ListPlaces.{contains_at, sum_at, sum_two, picked_from, IsIn, stands, contained, from_flat, in_range, from_range, sum_flat}
use Rattle.m17_reflect.proofs.MemberLives.{is_same_self, kind_there, joins_there}
use Rattle.m17_reflect.proofs.ClaimsDiffer.{JoinsOnceIn, claimed_once, joins_once, claim_in, links_differ, ClaimsDiffer}
use Rattle.m17_reflect.proofs.ModuleTrails.{link_of, joins_are_claims, claims_in, is_at}
use Rattle.m17_reflect.proofs.RollSeats.{claim_contained, link_contained, seat_of, IsRollOf, roll_claims, placed, claims_placed}
use Rattle.m17_reflect.proofs.PlaceByPlace.{below_at, AllZip3}
use Rattle.m17_ports.specs.Book.{BookTold}
use Rattle.m17_ports.specs.Ear.{EarTold}
use Rattle.m17_directory.specs.Laws.{JoinsOfAllModules, EachClaimJoins, ClaimsAreAsked}
use Rattle.m17_receiver.specs.declared.receiver.Receiver.{Receiver}
use Rattle.m17_roll.specs.Run.{IsRollRun}
use Rattle.m17_roll.specs.Seat.{RollView}
use Rattle.m17_roll.specs.Sightings.{RisesAtPlaces}
use Rattle.m17_worker.specs.declared.worker.Worker.{Worker}
use Rattle.m17_worker.specs.WorkerDid.{HasServed}
use Rattle.m17_reflect.specs.Jobs.{AreReceivers}
use Rattle.m17_reflect.proofs.LinksHeard.{Came}
use Rattle.m17_reflect.proofs.ModulesWorked.{HaveWorked}
use Rattle.m17_directory.specs.Entries.{Claim, Entry, claim_at}
use Rattle.m17_lane.specs.Rows.{IsNewPusher, IsNewRow}
use Rattle.m17_roll.specs.Laws.{NoMemberIsClaimedTwice}
use Rattle.m17_reflect.specs.Queues.{QueuesCarry}
use Rattle.m17_reflect.specs.Run.{Run}
use Rattle.m17_reflect.proofs.LinkMembers.{AreMembers}

-- what is kept of a list was made of one of its items
kept_step : {A B : Type 0} (g : A → Option B) (x : A) (xs : List A) (o : Option B) (y : B) (i : ℕ) → g x ≡ o → slice_get (cons_option o (filter_map g xs)) i ≡ Some y → ((j : ℕ) → slice_get (filter_map g xs) j ≡ Some y → (z : A) × IsIn xs z × (g z ≡ Some y)) → (z : A) × IsIn (x ∷ xs) z × (g z ≡ Some y)
kept_step g x xs None y i e at later = let (z, there, is) = later i at in (z, (suc there.0, there.1), is)
kept_step g x xs (Some w) y zero e at later = (x, (0, refl), e ∙ ap Some (same_Some w y at))
kept_step g x xs (Some w) y (suc i) e at later = let (z, there, is) = later i at in (z, (suc there.0, there.1), is)

from_kept : {A B : Type 0} (g : A → Option B) (xs : List A) (y : B) (i : ℕ) → slice_get (filter_map g xs) i ≡ Some y → (z : A) × IsIn xs z × (g z ≡ Some y)
from_kept g [] y i at = absurd (none-some y at)
from_kept g (x ∷ xs) y i at = kept_step g x xs (g x) y i refl at (λ j later. from_kept g xs y j later)

-- who is given back by an item is told a Bye by it
left_is : (item : Item) (body : Said) (k : Member) → item.body ≡ body → option_map (λ (w : Why). item.member) (why_left body) ≡ Some k → (item.member ≡ k) × (is_bye item.body ≡ true)
left_is item (said.Bye w) k e h = (same_Some item.member k h, ap is_bye e)
left_is item (said.Hello n) k e h = absurd (none-some k h)
left_is item (said.Frame n p) k e h = absurd (none-some k h)
left_is item (said.Echo n p) k e h = absurd (none-some k h)
left_is item (said.Reply control) k e h = absurd (none-some k h)
left_is item said.Ping k e h = absurd (none-some k h)

-- The position at which events give a member back: it tells the member a Bye, and is no Leave of one that is replaced.
record IsGiftAt (setup : Setup) (events : List Event) (k : Member) : Type 0 where
  position : ℕ
  within : position < length events
  gives : is_replacing (slice_get events position) ≡ false
  bye : HasBye (items_at setup events position) k

given_by : (b : Bool) (items : List Item) (k : Member) (i : ℕ) → slice_get (gifts_by (not b) items) i ≡ Some k → (b ≡ false) × HasBye items k
given_by true items k i e = absurd (none-some k e)
given_by false items k i e =
    let (item, there, is) = from_kept left_by items k i e in
    let (to, says) = left_is item item.body k refl is in
    (refl, record { bye = item; there = contained items item there; to_it = to; says_bye = says })

gift_at : (setup : Setup) (events : List Event) (k : Member) (n : ℕ) → n < length events → IsIn (gifts_at setup events n) k → IsGiftAt setup events k
unfolding gifts_at
gift_at setup events k n within h =
    let (gives, bye) = given_by (is_replacing (slice_get events n)) (items_at setup events n) k h.0 h.1 in
    record { position = n; within = within; gives = gives; bye = bye }

gift_from : (setup : Setup) (events : List Event) (k : Member) → Contains (gifts setup events) k → IsGiftAt setup events k
unfolding gifts
gift_from setup events k h =
    let one = from_flat (gifts_at setup events) (range_with_len 0 (length events)) k (stands (flat_map (gifts_at setup events) (range_with_len 0 (length events))) k h) in
    gift_at setup events k one.item (from_range (length events) one.item one.there) one.its

-- what an item counts, where it is a Bye to the member
abbrev bye_to : Member → Item → ℕ
bye_to k item = cond (is_for k item) (cond (says_bye item) 1 0) 0

byes_step : (k : Member) (item : Item) (kept : List Item) (b : Bool) (n : ℕ) → is_for k item ≡ b → count_by says_bye kept ≡ n → count_by says_bye (cond b (item ∷ kept) kept) ≡ cond b (cond (says_bye item) 1 0) 0 + n
byes_step k item kept true n e h =
    let all = sum_by-cons (λ (i : Item). cond (says_bye i) 1 0) item kept in omega arith
byes_step k item kept false n e h = omega arith

byes_in : (k : Member) (items : List Item) → count_by says_bye (filter (is_for k) items) ≡ sum_by (bye_to k) items
byes_in k [] = refl
byes_in k (item ∷ items) =
    byes_step k item (filter (is_for k) items) (is_for k item) (sum_by (bye_to k) items) refl (byes_in k items)
    ∙ sym (sum_by-cons (bye_to k) item items)

has_one : (k : Member) (items : List Item) → HasBye items k → 1 ≤ sum_by (bye_to k) items
has_one k items bye =
    let (p, at) = contains_at items bye.bye bye.there in
    let all = sum_at (bye_to k) items p bye.bye at in
    let mine : is_for k bye.bye ≡ true = ap (λ (m : Member). is_same m k) bye.to_it ∙ is_same_self k in
    let one : bye_to k bye.bye ≡ 1 = ap (λ b. cond b (cond (says_bye bye.bye) 1 0) 0) mine ∙ ap (λ b. cond b 1 0) bye.says_bye in
    omega arith

-- two positions that tell a member a Bye are one
one_bye : ShareIsALife → (setup : Setup) (events : List Event) (k : Member) (j : ℕ) → JoinsOnce events k → joins events k j ≡ true → k.place < setup.places → sum_by (λ n. sum_by (bye_to k) (items_at setup events n)) (range_with_len 0 (length events)) ≤ 1
unfolding items_for items_given
one_bye share setup events k j once join placed =
    let life = share setup events k j once join placed in
    let few : count_by says_bye (filter (is_for k) (items_given setup events)) ≤ 1 =
    one_bye_only (items_for setup events k) (λ front rest bye why e body. life.bye_is_last front rest bye e (ap is_bye body)) in
    let all : count_by says_bye (filter (is_for k) (items_given setup events)) ≡ sum_by (λ n. sum_by (bye_to k) (items_at setup events n)) (range_with_len 0 (length events)) =
    byes_in k (items_given setup events) ∙ sum_flat (bye_to k) (items_at setup events) (range_with_len 0 (length events)) in
    subst (λ (n : ℕ). n ≤ 1) all few

not_two : (setup : Setup) (events : List Event) (k : Member) (n i : ℕ) → sum_by (λ m. sum_by (bye_to k) (items_at setup events m)) (range_with_len 0 (length events)) ≤ 1 → n < i → n < length events → i < length events → HasBye (items_at setup events n) k → HasBye (items_at setup events i) k → ⊥
not_two setup events k n i few less in_n in_i first second =
    let two = sum_two (λ m. sum_by (bye_to k) (items_at setup events m)) (range_with_len 0 (length events)) n i n i less
    (in_range (length events) n in_n) (in_range (length events) i in_i) in
    let a = has_one k (items_at setup events n) first in
    let b = has_one k (items_at setup events i) second in omega arith

same_position : (setup : Setup) (events : List Event) (k : Member) (n i : ℕ) → sum_by (λ m. sum_by (bye_to k) (items_at setup events m)) (range_with_len 0 (length events)) ≤ 1 → n < length events → i < length events → HasBye (items_at setup events n) k → HasBye (items_at setup events i) k → n ≡ i
same_position setup events k n i few in_n in_i first second =
    elim (cases_order n i) [
      | inl same ↦ same
      | inr other ↦ absurd (elim other [
        | inl less ↦ not_two setup events k n i few less in_n in_i first second
        | inr more ↦ not_two setup events k i n few more in_i in_n second first
      ])
    ]

-- The laws that this rests on, beside those on what is given back.
pub record StayLaws : Type 0 where
  pub share : ShareIsALife
  pub between : InFromJoinToEnd
  pub items : ItemsFollowTheirJoins

module _ (laws : StayLaws) (below : BackLaws) (plan : Plan) (links : List Link) (trails : List (TrailEnd Event)) (roll : EndView) (h : AreSettled plan links trails roll) where
  -- each member that was claimed joins once, in one trail
  joins_in : (k : Member) → Contains roll.claimed k → JoinsOnceIn trails k
  joins_in k c =
      joins_once trails roll.claimed k (λ test. h.joins test ∙ ap (count_by test) (sym h.claims))
      (claimed_once roll.words roll.claimed roll.given k h.run (h.run.within k c))

  -- what gives it back is in the trail that it joins
  gift_here : (k : Member) → Contains roll.claimed k → (m : ℕ) (trail : TrailEnd Event) (a : ℕ) → At trails m trail → joins (events_of trail) k a ≡ true → IsGift plan trails k → IsGiftAt (setup_at plan m) (events_of trail) k
  gift_here k c m trail a there join g =
      let p = gift_from (setup_at plan g.m) (events_of g.trail) k g.its in
      let f = All-contains (FollowsJoin (events_of g.trail)) (items_at (setup_at plan g.m) (events_of g.trail) p.position) p.bye.bye (laws.items.at (setup_at plan g.m) (events_of g.trail) p.position) p.bye.there in
      let its = subst (λ (x : Member). joins (events_of g.trail) x f.position ≡ true) p.bye.to_it
      (joins_there (events_of g.trail) p.bye.bye.member f.position f.event p.bye.bye.peer f.callsign f.listens f.after f.there f.body) in
      let same_m : g.m ≡ m = (joins_in k c).alone g.m m f.position a g.trail trail g.there there its join in
      let same : g.trail ≡ trail = same_Some g.trail trail (sym g.there ∙ ap (slice_get trails) same_m ∙ there) in
      gift_from (setup_at plan m) (events_of trail) k
      (subst (λ (t : TrailEnd Event). Contains (gifts (setup_at plan m) (events_of t)) k) same
      (subst (λ (x : ℕ). Contains (gifts (setup_at plan x) (events_of g.trail)) k) same_m g.its))

  -- its Join, where a Leave says that it is replaced, and that it was claimed
  record WasIn (k : Member) (trail : TrailEnd Event) : Type 0 where
    claimed : Contains roll.claimed k
    position : ℕ
    join : joins (events_of trail) k position ≡ true

  was_in : (m n : ℕ) (trail : TrailEnd Event) (event : Event) (k : Member) → At trails m trail → At (events_of trail) n event → event.body ≡ Leave k Replaced → WasIn k trail
  was_in m n trail event k there at body =
      let i = event.tag.link in
      let r = is_routed below plan links trails roll h m trail n event there at in
      let route : List Event = routed (link_setup plan i) r.link.entries (letter_of plan m) in
      let (q, in_it) = in_route below plan links trails roll h m trail n event r at in
      let both = below.follow (link_setup plan i) r.link.entries (letter_of plan m) q event k Replaced in_it body in
      let again = both.1 refl in
      let (before, less, joiner) = both.0 in
      let (other, at_other, its) = joiner_there route k before joiner in
      let (a, here) = picked_from link_of i (events_of trail) before other (ap (λ (xs : List Event). slice_get xs before) (sym r.route) ∙ at_other) in
      let own : Contains roll.claimed again.own.member =
      subst (λ (ms : List Member). Contains ms again.own.member) (sym h.claims)
      (link_contained links i r.link again.own.member r.there (claim_contained r.link.entries again.first again.own again.own_there)) in record {
        claimed = subst (Contains roll.claimed) again.is_own own;
        position = a;
        join = joins_of (events_of trail) k a other here its;
      }

  -- Nobody is replaced while it is in.
  pub nobody_is_replaced : ((k : Member) → Contains roll.given k → IsGift plan trails k) → NobodyIsReplaced plan.places trails
  nobody_is_replaced gift m n trail event k there at body is_in =
      let events = events_of trail in
      let setup = setup_at plan m in
      let w = was_in m n trail event k there at body in
      let c = w.claimed in
      let within = h.run.within k c in
      let once = (joins_in k c).once m trail there in
      let stayed = (laws.between plan.places events k w.position n once w.join (omega (arith, within, h.count))).0 is_in in
      let settled : settles k (kind_at (acts_of events) n) ≡ true = ap (settles k) (kind_there events n event at ∙ ap kind_of body) ∙ is_same_self k in
      let bye = below.byes setup events k w.position n once w.join (omega (arith, within, h.count)) stayed.0 stayed.1 settled in
      let g = gift_here k c m trail w.position there w.join (gift k (given_back below plan links trails roll h k c)) in
      let few = one_bye laws.share setup events k w.position once w.join (omega (arith, within, h.count)) in
      let same : g.position ≡ n = same_position setup events k g.position n few g.within (below_at events n event at) g.bye bye in
      false≢true (sym g.gives ∙ ap (λ (p : ℕ). is_replacing (slice_get events p)) same ∙ ap is_replacing at ∙ ap leaves_replaced body)

-- The places of a run: each that a link claimed is free again when the receivers and workers have come back and the roll is closed.

-- The roll is that of these receivers' and workers' seats, and what they gave back and how they claimed is known.
pub record IsClosed {E B : Type 0} (plan : Plan) (ks : List (Receiver E B)) (vs : List (Worker B)) (roll : EndView)
    : Type 0 where
  pub of_seats : IsRollOf ks (map worker_seat vs) roll
  pub given : roll.given ≡ gifts_of (map seat_of ks ++ map worker_seat vs)
  pub rises : All (λ (s : RollView). RisesAtPlaces s.claimed) (map seat_of ks ++ map worker_seat vs)
  pub run : IsRollRun roll.words roll.claimed roll.given
  pub places : length roll.words ≡ plan.places

-- The laws that this rests on.
pub record PlaceLaws : Type 0 where
  pub settled : BackLaws
  pub stays : StayLaws
  pub joins : JoinsOfAllModules
  pub each : EachClaimJoins

module _ {E B : Type 0} where
  pub all_places : {EL BL : Type 0} → PlaceLaws → (hears : E → EarTold EL) (writes : B → BookTold BL) (plan : Plan) (js ks : List (Receiver E B)) (ws vs : List (Worker B)) (links : List Link) (trails : List (TrailEnd Event)) (roll : EndView)
      → AreReceivers plan js → AllZip3 (Came hears writes) js ks links → HaveWorked writes plan (length links) ws vs
      → ((m : ℕ) (j k : Worker B) (t : TrailEnd Event) → slice_get ws m ≡ Some j → slice_get vs m ≡ Some k → At trails m t → HasServed writes (events_of t) j k)
      → AreTrails plan links trails → AllByRecursion GaveNone (map worker_seat ws) → IsClosed plan ks vs roll → ArePlacesBack plan.places trails roll
  all_places laws hears writes plan js ks ws vs links trails roll receivers came worked did are new closed =
      let each = of_link hears writes plan js ks links (map worker_seat vs) receivers came closed.rises in
      let h : AreSettled plan links trails roll = record {
        count = closed.places;
        run = closed.run;
        claims = roll_claims hears writes js ks links (map worker_seat vs) roll came closed.of_seats;
        joins = joins_are_claims laws.joins laws.each plan links trails are (λ i link e. (each i link e).asked);
        trails_are = are;
        links_are = each;
        gifts_are = gifts_given writes plan (length links) ws vs trails (map seat_of ks) roll worked did are.count closed.given;
      } in
      places_back laws.settled plan links trails roll h
      (nobody_is_replaced laws.stays laws.settled plan links trails roll h
      (given_is_gift hears writes plan links js ks ws vs trails roll came worked did are.count new closed.given))

-- The members of a run, from what the closed roll shows: each place claimed is there, and each member claimed joins once.

-- What the roll of a run shows: its claims are the links', and their members are those of the Joins of all trails.
pub record IsRollOfRun {EL ML BL : Type 0} (run : Run EL ML BL) (links : List Link) : Type 0 where
  pub roll : IsRollRun run.handed.roll.words run.handed.roll.claimed run.handed.roll.given
  pub count : length run.handed.roll.words ≡ run.plan.places
  pub claims : run.handed.roll.claimed ≡ claims_in links
  pub joins : AreSame (flat_map (λ trail. joiners (events_of trail)) run.handed.trails) run.handed.roll.claimed

module _ {EL ML BL : Type 0} where
  -- The members of a run.
  pub are_members : (run : Run EL ML BL) (links : List Link) → AreTrails run.plan links run.handed.trails → QueuesCarry run → IsRollOfRun run links → AreMembers run links
  are_members run links trails queues is =
      let roll = run.handed.roll in record {
        carried = record { trails = trails; queues = queues };
        placed = claims_placed roll run.plan.places links is.roll is.count is.claims;
        once = λ k lt. joins_once run.handed.trails roll.claimed k is.joins
            (claimed_once roll.words roll.claimed roll.given k is.roll (let count = is.count in omega arith));
      }

  -- No two claims of a link are of one member.
  pub members_differ : NoMemberIsClaimedTwice → (run : Run EL ML BL) (links : List Link) → IsRollOfRun run links → (i : ℕ) (link : Link) → At links i link → ClaimsDiffer link.entries
  members_differ law run links is = links_differ law run.handed.roll links is.roll is.claims

-- Claims of which no two are of one member.
claimed_apart : (entries : List Entry) → ClaimsDiffer entries → (i j : ℕ) (a b : Claim) → claim_at entries i ≡ Some a → claim_at entries j ≡ Some b → a.member ≡ b.member → i ≡ j
claimed_apart entries differ i j a b ea eb same = elim (cases_lt i j) [
  | inl less ↦ absurd (differ i j a b less ea eb same)
  | inr not_less ↦ elim (cases_lt j i) [
    | inl more ↦ absurd (differ j i b a more eb ea (sym same))
    | inr not_more ↦ omega arith
  ]
]

-- What each link claims.
pub are_claims : {EL ML BL : Type 0} → NoMemberIsClaimedTwice → (run : Run EL ML BL) (links : List Link) → IsRollOfRun run links → ((i : ℕ) (link : Link) → At links i link → ClaimsAreAsked (link_setup run.plan i) link.entries) → (i : ℕ) (link : Link) → At links i link → AreClaims (link_setup run.plan i) link.entries
are_claims law run links is asked i link at = record {
  asked = asked i link at;
  placed = placed run.plan.places (link_setup run.plan i) link.entries refl
      (claim_in (λ k. is_at run.plan.places k ≡ true) link.entries (claims_placed run.handed.roll run.plan.places links is.roll is.count is.claims i link at));
  once = claimed_apart link.entries (members_differ law run links is i link at);
}

-- A row of new pushers, one by one.
pub new_row : {T : Type 0} (qs : List (PushEnd T)) → ((i : ℕ) (q : PushEnd T) → slice_get qs i ≡ Some q → IsNewPusher q) → IsNewRow qs
new_row qs h = All-from_recursion IsNewPusher qs (all_in IsNewPusher qs h)
