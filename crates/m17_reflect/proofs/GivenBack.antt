-- What the seats of a run's workers and receivers say of the closed roll: what was given back and by which module, and in
-- what order a link claimed.
use Rattle.std.proofs.Common.{◌≡◌, ℕ, zero, suc, List, [], ◌∷◌, ◌++◌, map, length, Some, inl, inr, sym, subst, refl, ap, ◌∙◌, arith, ◌+◌, ◌-◌, ◌<◌, ◌≤◌, Bool, true, false, cond, not, Option, None}
use Rattle.std.specs.Prelude.{◌⊎◌, slice_get, Contains, All, AllPairs, sum_by, count_by}
use Rattle.std.specs.List.{AllByRecursion, flat_map, cons_option, range_with_len}
use Rattle.std.proofs.lemmas.Option.{same_Some, none-some}
use Rattle.std.proofs.lemmas.List.Elements.{recursion_from_All}
use Rattle.m17_values.specs.declared.member.Member.{Member}
use Rattle.m17_ports.specs.Book.{BookTold}
use Rattle.m17_ports.specs.Ear.{EarTold}
use Rattle.m17_control.specs.declared.event.Event.{Event}
use Rattle.m17_module.specs.Items as module_items
use Rattle.m17_lane.specs.Ends.{TrailEnd}
use Rattle.m17_directory.specs.Entries.{Setup, Claim, Entry, claim_at}
use Rattle.m17_directory.specs.Laws.{ClaimsAreAsked, claimed_members, WhoJoinsLeaves, IsClaimedAgain, LeavesFollowJoins, joined_count, left_count}
use Rattle.m17_receiver.specs.declared.receiver.Receiver.{Receiver}
use Rattle.m17_roll.specs.Closing.{EndView, gifts_of}
use Rattle.m17_roll.specs.Seat.{RollView}
use Rattle.m17_roll.specs.Sightings.{RisesAtPlaces}
use Rattle.m17_worker.specs.declared.worker.Worker.{Worker}
use Rattle.m17_worker.specs.Gifts.{gifts, why_left, left_by, is_replaced, leaves_replaced, is_replacing, gifts_by, gifts_at}
use Rattle.m17_worker.specs.WorkerDid.{HasServed}
use Rattle.m17_plan.specs.declared.plan.Plan.{Plan}
use Rattle.m17_reflect.specs.Links.{Link, IsLink, At, link_setup, setup_at, letter_of, routes, route_of}
use Rattle.m17_reflect.specs.Run.{module_count}
use Rattle.m17_reflect.specs.Trails.{events_of, AreTrails}
use Rattle.m17_reflect.specs.Jobs.{AreReceivers}
use Rattle.m17_reflect.proofs.LinksHeard.{Came, all_at}
use Rattle.m17_reflect.proofs.ListPlaces.{get_front, IsIn, contained, stands, either_in, contains_at, sum_at, sum_two, heavy, flat_at, filter_map_at, range_at, picked_has, picked_order, first, sum_flat, hits, count_mapped}
use Rattle.m17_reflect.proofs.ModulesWorked.{HaveWorked, worker_count}
use Rattle.m17_reflect.proofs.RollSeats.{contains_front, contains_back, seat_of, claim_contained, link_contained, contained_at}
use Rattle.m17_reflect.proofs.PlaceByPlace.{at_below, below_at, AllZip3, zip3_at, zip3_length, mapped_at, unmapped, numbered_length, routes_at}
use Rattle.std.specs.Option.{option_map}
use Rattle.std.proofs.lemmas.Bool.{cases_eq, cases_lt}
use Rattle.m17_control.specs.declared.event.Body.{Body}
use Rattle.m17_control.specs.declared.event.Body.TheVariants.{Join, Leave, Packet, Reply, Tick, Stop}
use Rattle.m17_control.specs.declared.event.Why.{Why}
use Rattle.m17_control.specs.declared.event.Why.TheVariants as why
use Rattle.m17_control.specs.declared.item.Item.{Item}
use Rattle.m17_control.specs.declared.item.Said.{Said}
use Rattle.m17_control.specs.declared.item.Said.TheVariants as said
use Rattle.m17_control.specs.Renamed.{joiner_of, leaver_of, joiner_at}
use Rattle.m17_floor.specs.Acts.{is_same, is_join_of, settles, kind_at}
use Rattle.m17_module.specs.Events.{kind_of, acts_of}
use Rattle.m17_module.specs.Items.{items_at}
use Rattle.m17_module.specs.Laws as module_law
use Rattle.m17_module.specs.Laws.{joins, JoinsOnce, HasBye, WhoIsSettledIsToldABye}
use Rattle.m17_lane.specs.Orders.{picked}
use Rattle.m17_directory.specs.Routed.{routed}
use Rattle.m17_roll.specs.Laws.{GivenBackIsFree}
use Rattle.m17_roll.specs.Run.{IsRollRun, count_at}
use Rattle.m17_reflect.specs.Places.{AreSame, joiners, NobodyIsReplaced, ArePlacesBack}
use Rattle.m17_reflect.proofs.ClaimsDiffer.{pairs_head, pairs_tail, claim_in}
use Rattle.m17_reflect.proofs.ModuleTrails.{claims_in, link_of}
use Rattle.m17_reflect.proofs.MemberLives.{is_same_self, same_member, kind_there}

abbrev pub worker_seat : {B : Type 0} → Worker B → RollView
worker_seat k = k.seat

-- what one of the seats gave back
seat_gift : (seats : List RollView) (m : ℕ) (s : RollView) (k : Member) → slice_get seats m ≡ Some s → Contains s.given k → Contains (gifts_of seats) k
seat_gift [] m s k e h = absurd (none-some s e)
seat_gift (x ∷ seats) zero s k e h =
    contains_front x.given (gifts_of seats) k (subst (λ (y : RollView). Contains y.given k) (sym (same_Some x s e)) h)
seat_gift (x ∷ seats) (suc m) s k e h = contains_back x.given (gifts_of seats) k (seat_gift seats m s k e h)

-- .. behind other seats
gift_behind : (front seats : List RollView) (k : Member) → Contains (gifts_of seats) k → Contains (gifts_of (front ++ seats)) k
gift_behind [] seats k h = h
gift_behind (x ∷ front) seats k h = contains_back x.given (gifts_of (front ++ seats)) k (gift_behind front seats k h)

module _ {B : Type 0} where
  -- what the events of a module give back
  pub gifts_given : {BL : Type 0} (writes : B → BookTold BL) (plan : Plan) (links : ℕ) (js ks : List (Worker B)) (trails : List (TrailEnd Event)) (front : List RollView) (roll : EndView) → HaveWorked writes plan links js ks
      → ((m : ℕ) (j k : Worker B) (t : TrailEnd Event) → slice_get js m ≡ Some j → slice_get ks m ≡ Some k → At trails m t → HasServed writes (events_of t) j k) → length trails ≡ module_count plan → roll.given ≡ gifts_of (front ++ map worker_seat ks)
      → (m : ℕ) (t : TrailEnd Event) (who : Member) → At trails m t → Contains (gifts (setup_at plan m) (events_of t)) who → Contains roll.given who
  gifts_given writes plan links js ks trails front roll h did count given m t who e gift =
      let inside = below_at trails m t e in
      let many = worker_count writes plan links js ks h in
      let (j, at_j) = at_below js m (omega (arith, h.count)) in
      let (k, at_k) = at_below ks m (omega arith) in
      let gave = (did m j k t at_j at_k e).gave_back.lists.1 in
      let mine : Contains (gifts j.module.setup (events_of t)) who =
      subst (λ (s : module_items.Setup). Contains (gifts s (events_of t)) who) (sym (h.are m j at_j).setup) gift in
      let here : Contains k.seat.given who =
      subst (λ (ms : List Member). Contains ms who) (sym gave) (contains_back j.seat.given (gifts j.module.setup (events_of t)) who mine) in
      subst (λ (ms : List Member). Contains ms who) (sym given)
      (gift_behind front (map worker_seat ks) who (seat_gift (map worker_seat ks) m k.seat who (mapped_at worker_seat ks m k at_k) here))

-- the seat gave nothing back
abbrev pub GaveNone : RollView → Type 0
GaveNone s = s.given ≡ []

-- behind seats that gave nothing back
none_in_front : (front seats : List RollView) → AllByRecursion GaveNone front → gifts_of (front ++ seats) ≡ gifts_of seats
none_in_front [] seats h = refl
none_in_front (x ∷ front) seats h =
    ap (λ (l : List Member). l ++ gifts_of (front ++ seats)) h.0 ∙ none_in_front front seats h.1

-- the seat that gave the member back
abbrev IsOfSeat : List RollView → Member → Type 0
IsOfSeat seats k = (m : ℕ) × (s : RollView) × (slice_get seats m ≡ Some s) × IsIn s.given k

seat_step : (x : RollView) (seats : List RollView) (k : Member) → IsIn x.given k ⊎ IsIn (gifts_of seats) k → (IsIn (gifts_of seats) k → IsOfSeat seats k) → IsOfSeat (x ∷ seats) k
seat_step x seats k (inl h) later = (0, x, refl, h)
seat_step x seats k (inr h) later = let (m, s, at, its) = later h in (suc m, s, at, its)

of_seat : (seats : List RollView) (k : Member) → IsIn (gifts_of seats) k → IsOfSeat seats k
of_seat [] k h = absurd (none-some k h.1)
of_seat (x ∷ seats) k h = seat_step x seats k (either_in x.given (gifts_of seats) k h.0 h.1) (of_seat seats k)

-- The module whose events give the member back.
pub record IsGift (plan : Plan) (trails : List (TrailEnd Event)) (k : Member) : Type 0 where
  pub m : ℕ
  pub trail : TrailEnd Event
  pub there : At trails m trail
  pub its : Contains (gifts (setup_at plan m) (events_of trail)) k

-- a worker that had given nothing back gives back what its module's events do
worker_gave : {B BL : Type 0} (writes : B → BookTold BL) (plan : Plan) (m : ℕ) (j k : Worker B) (events : List Event) → j.module.setup ≡ setup_at plan m → HasServed writes events j k → j.seat.given ≡ [] → k.seat.given ≡ gifts (setup_at plan m) events
worker_gave writes plan m j k events made did none =
    did.gave_back.lists.1 ∙ ap (λ (l : List Member). l ++ gifts j.module.setup events) none
    ∙ ap (λ (v : module_items.Setup). gifts v events) made

module _ {E B : Type 0} where
  -- receivers give nothing back
  links_gave_none : {EL BL : Type 0} (hears : E → EarTold EL) (writes : B → BookTold BL) (js ks : List (Receiver E B)) (links : List Link) → AllZip3 (Came hears writes) js ks links → AllByRecursion GaveNone (map seat_of ks)
  links_gave_none hears writes [] [] [] h = tt
  links_gave_none hears writes [] [] (z ∷ zs) h = absurd h
  links_gave_none hears writes [] (y ∷ ys) zs h = absurd h
  links_gave_none hears writes (x ∷ xs) [] zs h = absurd h
  links_gave_none hears writes (x ∷ xs) (y ∷ ys) [] h = absurd h
  links_gave_none hears writes (x ∷ xs) (y ∷ ys) (z ∷ zs) h = (h.0.claimed.given, links_gave_none hears writes xs ys zs h.1)

  -- Who was given back is given back by the events of some module.
  pub given_is_gift : {EL BL : Type 0} (hears : E → EarTold EL) (writes : B → BookTold BL) (plan : Plan) (links : List Link) (rs cs : List (Receiver E B)) (js ks : List (Worker B)) (trails : List (TrailEnd Event)) (roll : EndView) → AllZip3 (Came hears writes) rs cs links → HaveWorked writes plan (length links) js ks
      → ((m : ℕ) (j k : Worker B) (t : TrailEnd Event) → slice_get js m ≡ Some j → slice_get ks m ≡ Some k → At trails m t → HasServed writes (events_of t) j k) → length trails ≡ module_count plan → AllByRecursion GaveNone (map worker_seat js) → roll.given ≡ gifts_of (map seat_of cs ++ map worker_seat ks)
      → (who : Member) → Contains roll.given who → IsGift plan trails who
  given_is_gift hears writes plan links rs cs js ks trails roll came h did count new given who gave =
      let all : roll.given ≡ gifts_of (map worker_seat ks) =
      given ∙ none_in_front (map seat_of cs) (map worker_seat ks) (links_gave_none hears writes rs cs links came) in
      let (m, s, at_s, its) = of_seat (map worker_seat ks) who (stands (gifts_of (map worker_seat ks)) who (subst (λ (ms : List Member). Contains ms who) all gave)) in
      let (k, at_k, is_s) = unmapped worker_seat ks m s at_s in
      let inside = below_at ks m k at_k in
      let many = worker_count writes plan (length links) js ks h in
      let (j, at_j) = at_below js m (omega (arith, many, h.count)) in
      let (t, at_t) = at_below trails m (omega (arith, many, count)) in
      let none : j.seat.given ≡ [] = all_at GaveNone (map worker_seat js) new m j.seat (mapped_at worker_seat js m j at_j) in
      let mine : Contains k.seat.given who = subst (λ (v : RollView). Contains v.given who) (sym is_s) (contained s.given who its) in record {
        m = m;
        trail = t;
        there = at_t;
        its = subst (λ (ms : List Member). Contains ms who) (worker_gave writes plan m j k (events_of t) (h.are m j at_j).setup (did m j k t at_j at_k at_t) none) mine;
      }

-- What is known of each link.
pub record OfLink (plan : Plan) (i : ℕ) (link : Link) : Type 0 where
  pub is_link : IsLink link
  pub asked : ClaimsAreAsked (link_setup plan i) link.entries
  pub rises : RisesAtPlaces (claimed_members link.entries)

module _ {E B : Type 0} where
  pub of_link : {EL BL : Type 0} (hears : E → EarTold EL) (writes : B → BookTold BL) (plan : Plan) (js ks : List (Receiver E B)) (links : List Link) (others : List RollView) → AreReceivers plan js → AllZip3 (Came hears writes) js ks links → All (λ (s : RollView). RisesAtPlaces s.claimed) (map seat_of ks ++ others)
      → (i : ℕ) (link : Link) → At links i link → OfLink plan i link
  of_link hears writes plan js ks links others are came rise i link e =
      let lens = zip3_length (Came hears writes) js ks links came in
      let inside = below_at links i link e in
      let (j, at_j) = at_below js i (omega (arith, lens.1)) in
      let (k, at_k) = at_below ks i (omega (arith, lens.0, lens.1)) in
      let c = zip3_at (Came hears writes) js ks links came i j k link at_j at_k e in
      let P : RollView → Type 0 = λ s. RisesAtPlaces s.claimed in record {
        is_link = c.is_link;
        asked = subst (λ (s : Setup). ClaimsAreAsked s link.entries) (are i j at_j).setup c.claimed.asked;
        rises = subst RisesAtPlaces c.claimed.claims
            (all_at P (map seat_of ks ++ others) (recursion_from_All P (map seat_of ks ++ others) rise) i k.seat
            (get_front (map seat_of ks) others i k.seat (mapped_at seat_of ks i k at_k)));
      }

-- Each member that some link claimed was given back to the roll, by the worker of the module that it joined, or since its place was claimed again.

-- the member is this one
abbrev is_it : Member → Member → Bool
is_it k m = is_same m k

hit_by : (k m : Member) (b : Bool) → is_it k m ≡ b → 0 < cond b 1 0 → m ≡ k
hit_by k m true e h = same_member m k e
hit_by k m false e h = absurd (omega arith)

hit_is : (k : Member) (o : Option Member) → 0 < hits (is_it k) o → o ≡ Some k
hit_is k None h = absurd (omega arith)
hit_is k (Some m) h = ap Some (hit_by k m (is_it k m) refl h)

hits_one : (k : Member) (o : Option Member) → o ≡ Some k → hits (is_it k) o ≡ 1
hits_one k o e = ap (hits (is_it k)) e ∙ ap (λ b. cond b 1 0) (is_same_self k)

-- what an event weighs, by the member that it joins, and by the one that leaves
abbrev joined : Member → Event → ℕ
joined k event = hits (is_it k) (joiner_of event.body)

abbrev left : Member → Event → ℕ
left k event = hits (is_it k) (leaver_of event.body)

-- an event that is a Join of the member; a Leave; and one that settles it
join_body : (k : Member) (body : Body) → is_join_of k (kind_of body) ≡ true → joiner_of body ≡ Some k
join_body k (Join m peer callsign listens after) e = ap Some (same_member m k e)
join_body k (Leave m why) e = absurd cc
join_body k (Packet m p) e = absurd cc
join_body k (Reply m control) e = absurd cc
join_body k Tick e = absurd cc
join_body k Stop e = absurd cc

body_joins : (k : Member) (body : Body) → joiner_of body ≡ Some k → is_join_of k (kind_of body) ≡ true
body_joins k (Join m peer callsign listens after) e = ap (λ x. is_same x k) (same_Some m k e) ∙ is_same_self k
body_joins k (Leave m why) e = absurd cc
body_joins k (Packet m p) e = absurd cc
body_joins k (Reply m control) e = absurd cc
body_joins k Tick e = absurd cc
body_joins k Stop e = absurd cc

leave_body : (k : Member) (body : Body) → leaver_of body ≡ Some k → (w : Why) × (body ≡ Leave k w)
leave_body k (Leave m w) e = (w, ap (λ x. Leave x w) (same_Some m k e))
leave_body k (Join m peer callsign listens after) e = absurd cc
leave_body k (Packet m p) e = absurd cc
leave_body k (Reply m control) e = absurd cc
leave_body k Tick e = absurd cc
leave_body k Stop e = absurd cc

is_replaced_why : (w : Why) → is_replaced w ≡ true → w ≡ why.Replaced
is_replaced_why why.Replaced e = refl
is_replaced_why w e = absurd cc

replaced_body : (k : Member) (body : Body) → settles k (kind_of body) ≡ true → leaves_replaced body ≡ true → body ≡ Leave k why.Replaced
replaced_body k (Leave m w) settled e =
    ap (λ x. Leave x w) (same_member m k settled) ∙ ap (Leave k) (is_replaced_why w e)
replaced_body k (Join m peer callsign listens after) settled e = absurd cc
replaced_body k (Packet m p) settled e = absurd cc
replaced_body k (Reply m control) settled e = absurd cc
replaced_body k Tick settled e = absurd cc
replaced_body k Stop settled e = absurd cc

joins_from : (events : List Event) (k : Member) (i : ℕ) → joins events k i ≡ true → (x : Event) × (slice_get events i ≡ Some x) × (joiner_of x.body ≡ Some k)
joins_from [] k i e = absurd cc
joins_from (x ∷ events) k zero e = (x, refl, join_body k x.body e)
joins_from (x ∷ events) k (suc i) e = joins_from events k i e

pub joins_of : (events : List Event) (k : Member) (i : ℕ) (x : Event) → slice_get events i ≡ Some x → joiner_of x.body ≡ Some k → joins events k i ≡ true
joins_of events k i x at e = ap (is_join_of k) (kind_there events i x at) ∙ body_joins k x.body e

pub joiner_there : (events : List Event) (k : Member) (i : ℕ) → joiner_at events i ≡ Some k → (x : Event) × (slice_get events i ≡ Some x) × (joiner_of x.body ≡ Some k)
joiner_there [] k i e = absurd cc
joiner_there (x ∷ events) k zero e = (x, refl, e)
joiner_there (x ∷ events) k (suc i) e = joiner_there events k i e

settles_there : (events : List Event) (k : Member) (i : ℕ) → settles k (kind_at (acts_of events) i) ≡ true → (x : Event) × (slice_get events i ≡ Some x) × (settles k (kind_of x.body) ≡ true)
settles_there [] k i e = absurd cc
settles_there (x ∷ events) k zero e = (x, refl, e)
settles_there (x ∷ events) k (suc i) e = settles_there events k i e

-- the position gives back whom it tells a Bye, unless a member is replaced by its own link there
bye_left : (k : Member) (body : Said) (item : Item) → item.body ≡ body → item.member ≡ k → module_law.is_bye body ≡ true → left_by item ≡ Some k
bye_left k (said.Bye w) item e to is = ap (λ b. option_map (λ (v : Why). item.member) (why_left b)) e ∙ ap Some to
bye_left k (said.Hello n) item e to is = absurd cc
bye_left k (said.Frame n p) item e to is = absurd cc
bye_left k (said.Echo n p) item e to is = absurd cc
bye_left k (said.Reply control) item e to is = absurd cc
bye_left k said.Ping item e to is = absurd cc

gift_there : (setup : module_items.Setup) (events : List Event) (k : Member) (n : ℕ) → n < length events → is_replacing (slice_get events n) ≡ false → HasBye (items_at setup events n) k → Contains (gifts setup events) k
unfolding gifts gifts_at
gift_there setup events k n within gives bye =
    let (p, at) = contains_at (items_at setup events n) bye.bye bye.there in
    let (q, kept) = filter_map_at left_by (items_at setup events n) p bye.bye k at (bye_left k bye.bye.body bye.bye refl bye.to_it bye.says_bye) in
    let given : slice_get (gifts_at setup events n) q ≡ Some k = ap (λ b. slice_get (gifts_by (not b) (items_at setup events n)) q) gives ∙ kept in
    let zero_more : 0 + n ≡ n = omega arith in
    let (r, there) = flat_at (gifts_at setup events) (range_with_len 0 (length events)) n q n k (range_at 0 (length events) n within ∙ ap Some zero_more) given in
    contained_at (flat_map (gifts_at setup events) (range_with_len 0 (length events))) r k there

-- of two claims of a link the earlier and the later
abbrev member_of_claim : Option Claim → Option Member
member_of_claim o = option_map (λ (claim : Claim). claim.member) o

pairs_rest : (R : Member → Member → Type 0) (o : Option Member) (rest : List Member) → AllPairs R (cons_option o rest) → AllPairs R rest
pairs_rest R None rest h = h
pairs_rest R (Some k) rest h = pairs_tail R k rest h

claims_pair : (R : Member → Member → Type 0) (entries : List Entry) → AllPairs R (claimed_members entries) → (i n : ℕ) (a b : Claim) → i < n → claim_at entries i ≡ Some a → claim_at entries n ≡ Some b → R a.member b.member
claims_pair R [] h i n a b lt ea eb = absurd (none-some a ea)
claims_pair R (entry ∷ entries) h i zero a b lt ea eb = absurd (omega arith)
claims_pair R (entry ∷ entries) h zero (suc n) a b lt ea eb =
    claim_in (R a.member) entries
    (pairs_head R a.member (claimed_members entries)
    (subst (λ (o : Option Claim). AllPairs R (cons_option (member_of_claim o) (claimed_members entries))) ea h)) n b eb
claims_pair R (entry ∷ entries) h (suc i) (suc n) a b lt ea eb =
    claims_pair R entries (pairs_rest R (member_of_claim entry.claim) (claimed_members entries) h) i n a b (omega arith) ea eb

-- The laws that this rests on.
pub record BackLaws : Type 0 where
  pub leaves : WhoJoinsLeaves
  pub follow : LeavesFollowJoins
  pub byes : WhoIsSettledIsToldABye
  pub free : GivenBackIsFree

-- The links of a run with their claims, its trails, and its roll: all that the trails join are the claims, of which those
-- of a link rise at each place; and what the modules give back is given back.
pub record AreSettled (plan : Plan) (links : List Link) (trails : List (TrailEnd Event)) (roll : EndView)
    : Type 0 where
  pub count : length roll.words ≡ plan.places
  pub run : IsRollRun roll.words roll.claimed roll.given
  pub claims : roll.claimed ≡ claims_in links
  pub joins : AreSame (flat_map (λ trail. joiners (events_of trail)) trails) (claims_in links)
  pub trails_are : AreTrails plan links trails
  pub links_are : (i : ℕ) (link : Link) → At links i link → OfLink plan i link
  pub gifts_are : (m : ℕ) (trail : TrailEnd Event) (k : Member) → At trails m trail →
      Contains (gifts (setup_at plan m) (events_of trail)) k → Contains roll.given k

module _ (laws : BackLaws) (plan : Plan) (links : List Link) (trails : List (TrailEnd Event)) (roll : EndView) (h : AreSettled plan links trails roll) where
  abbrev joiners_in : TrailEnd Event → List Member
  joiners_in trail = joiners (events_of trail)

  -- how often the trails join a member
  abbrev in_trail : Member → TrailEnd Event → ℕ
  in_trail k trail = count_by (is_it k) (joiners_in trail)

  all_joins : (k : Member) → sum_by (in_trail k) trails ≡ count_by (is_it k) roll.claimed
  all_joins k =
      sym (sum_flat (λ (m : Member). cond (is_it k m) 1 0) joiners_in trails) ∙ h.joins (is_it k) ∙ ap (count_by (is_it k)) (sym h.claims)

  one_trail : (k : Member) (trail : TrailEnd Event) → in_trail k trail ≡ sum_by (joined k) (events_of trail)
  one_trail k trail = count_mapped (is_it k) (λ (event : Event). joiner_of event.body) (events_of trail)

  claimed_once : (k : Member) → Contains roll.claimed k → count_by (is_it k) roll.claimed ≤ 1
  claimed_once k c =
      let within = h.run.within k c in
      elim (cases_lt k.generation (count_at k.place roll.claimed)) [
        | inl l ↦ omega (arith, h.run.each_once k.place k.generation within l)
        | inr l ↦ omega (arith, h.run.no_other k.place k.generation within l)
      ]

  -- the Join of a member that was claimed
  record HasJoined (k : Member) : Type 0 where
    m : ℕ
    trail : TrailEnd Event
    there : At trails m trail
    position : ℕ
    event : Event
    at : slice_get (events_of trail) position ≡ Some event
    its : joiner_of event.body ≡ Some k

  has_joined : (k : Member) → Contains roll.claimed k → HasJoined k
  has_joined k c =
      let (i, e) = contains_at roll.claimed k c in
      let one = sum_at (λ (m : Member). cond (is_it k m) 1 0) roll.claimed i k e in
      let me : cond (is_it k k) 1 0 ≡ 1 = hits_one k (Some k) refl in
      let (m, trail, there, some) = heavy (in_trail k) trails (omega (arith, all_joins k, one, me)) in
      let (p, event, at, hit) = heavy (joined k) (events_of trail) (omega (arith, one_trail k trail, some)) in
      record { m = m; trail = trail; there = there; position = p; event = event; at = at; its = hit_is k (joiner_of event.body) hit }

  not_twice : (k : Member) (m : ℕ) (trail : TrailEnd Event) (i j : ℕ) → Contains roll.claimed k → At trails m trail → i < j → joins (events_of trail) k i ≡ true → joins (events_of trail) k j ≡ true → ⊥
  not_twice k m trail i j c there lt ei ej =
      let (x, at_x, its_x) = joins_from (events_of trail) k i ei in
      let (y, at_y, its_y) = joins_from (events_of trail) k j ej in
      let two = sum_two (joined k) (events_of trail) i j x y lt at_x at_y in
      let part = sum_at (in_trail k) trails m trail there in
      omega (arith, two, part, hits_one k (joiner_of x.body) its_x, hits_one k (joiner_of y.body) its_y, one_trail k trail, all_joins k, claimed_once k c)

  joins_once : (k : Member) (m : ℕ) (trail : TrailEnd Event) → Contains roll.claimed k → At trails m trail → JoinsOnce (events_of trail) k
  joins_once k m trail c there i j ei ej =
      elim (cases_eq i j) [
        | inl same ↦ same
        | inr other ↦ absurd (elim (cases_lt i j) [
          | inl less ↦ not_twice k m trail i j c there less ei ej
          | inr more ↦ not_twice k m trail j i c there (omega arith) ej ei
        ])
      ]

  -- The link of an event, and what it routes to the event's module.
  pub record IsRouted (m : ℕ) (trail : TrailEnd Event) (x : Event) : Type 0 where
    pub link : Link
    pub there : At links x.tag.link link
    pub route : routed (link_setup plan x.tag.link) link.entries (letter_of plan m) ≡ picked link_of x.tag.link (events_of trail)

  pub is_routed : (m : ℕ) (trail : TrailEnd Event) (p : ℕ) (x : Event) → At trails m trail → slice_get (events_of trail) p ≡ Some x → IsRouted m trail x
  is_routed m trail p x there at =
      let letter = letter_of plan m in
      let order = (h.trails_are.each m trail there).order in
      let count : length (routes plan links letter) ≡ length links = numbered_length (route_of plan letter) 0 links in
      let below = all_at (λ (y : Event). link_of y < length (routes plan links letter)) (events_of trail)
      (recursion_from_All (λ (y : Event). link_of y < length (routes plan links letter)) (events_of trail) order.known) p x at in
      let (link, is) = at_below links x.tag.link (omega (arith, count, below)) in
      record { link = link; there = is; route = order.parts x.tag.link (routed (link_setup plan x.tag.link) link.entries letter) (routes_at plan links letter x.tag.link link is) }

  -- it stands in the route
  pub in_route : (m : ℕ) (trail : TrailEnd Event) (p : ℕ) (x : Event) (r : IsRouted m trail x) → slice_get (events_of trail) p ≡ Some x
      → (q : ℕ) × (slice_get (routed (link_setup plan x.tag.link) r.link.entries (letter_of plan m)) q ≡ Some x)
  in_route m trail p x r at =
      let (q, there) = picked_has link_of x.tag.link (events_of trail) p x at refl in
      (q, ap (λ (xs : List Event). slice_get xs q) r.route ∙ there)

  -- a Leave of the member stands behind its Join
  leave_behind : (k : Member) (c : Contains roll.claimed k) (j : HasJoined k) → (n : ℕ) × (j.position < n) × (settles k (kind_at (acts_of (events_of j.trail)) n) ≡ true)
  leave_behind k c j =
      let events = events_of j.trail in
      let letter = letter_of plan j.m in
      let i = j.event.tag.link in
      let setup = link_setup plan i in
      let r = is_routed j.m j.trail j.position j.event j.there j.at in
      let route : List Event = routed setup r.link.entries letter in
      let (p, there) = in_route j.m j.trail j.position j.event r j.at in
      let one = sum_at (joined k) route p j.event there in
      let some_join = count_mapped (is_it k) (λ (event : Event). joiner_of event.body) route in
      let some_leave = count_mapped (is_it k) (λ (event : Event). leaver_of event.body) route in
      let both : joined_count setup r.link.entries letter (is_it k) ≡ left_count setup r.link.entries letter (is_it k) =
      laws.leaves.at_the_end setup r.link.entries letter (is_it k) (h.links_are i r.link r.there).asked (h.links_are i r.link r.there).is_link.ends in
      let (q, leave, at_leave, hit) = heavy (left k) route (omega (arith, one, some_join, some_leave, both, hits_one k (joiner_of j.event.body) j.its)) in
      let (w, body) = leave_body k leave.body (hit_is k (leaver_of leave.body) hit) in
      let (before, less, join) = (laws.follow setup r.link.entries letter q leave k w at_leave body).0 in
      let (other, at_other, its) = joiner_there route k before join in
      let (a, b, order, at_a, at_b) = picked_order link_of i events before q other leave less
      (ap (λ (xs : List Event). slice_get xs before) (sym r.route) ∙ at_other) (ap (λ (xs : List Event). slice_get xs q) (sym r.route) ∙ at_leave) in
      let same : a ≡ j.position = joins_once k j.m j.trail c j.there a j.position (joins_of events k a other at_a its) (joins_of events k j.position j.event j.at j.its) in
      (b, omega arith, ap (settles k) (kind_there events b leave at_b ∙ ap kind_of body) ∙ is_same_self k)

  -- where its own link claims its place again, its generation has passed
  claimed_again : (k : Member) (i : ℕ) (link : Link) → At links i link → IsClaimedAgain link.entries k → Contains roll.claimed k → Contains roll.given k
  claimed_again k i link there again c =
      let next : Contains roll.claimed again.other.member =
      subst (λ (ms : List Member). Contains ms again.other.member) (sym h.claims)
      (link_contained links i link again.other.member there (claim_contained link.entries again.second again.other again.other_there)) in
      let own_place : again.own.member.place ≡ k.place = ap (λ (x : Member). x.place) again.is_own in
      let own_generation : again.own.member.generation ≡ k.generation = ap (λ (x : Member). x.generation) again.is_own in
      let rising = claims_pair (λ a b. a.place ≡ b.place → a.generation < b.generation) link.entries (h.links_are i link there).rises again.first again.second again.own again.other again.later again.own_there again.other_there
      (own_place ∙ sym again.same_place) in
      h.run.given_before k again.other.member c next (sym again.same_place) (omega arith)

  by_event : (k : Member) (c : Contains roll.claimed k) (m : ℕ) (trail : TrailEnd Event) (n : ℕ) (b : Bool) → At trails m trail → is_replacing (slice_get (events_of trail) n) ≡ b → settles k (kind_at (acts_of (events_of trail)) n) ≡ true → HasBye (items_at (setup_at plan m) (events_of trail) n) k → Contains roll.given k
  by_event k c m trail n false there e settled bye =
      let (x, at, here) = settles_there (events_of trail) k n settled in
      h.gifts_are m trail k there (gift_there (setup_at plan m) (events_of trail) k n (below_at (events_of trail) n x at) e bye)
  by_event k c m trail n true there e settled bye =
      let (x, at, here) = settles_there (events_of trail) k n settled in
      let r = is_routed m trail n x there at in
      let (q, in_it) = in_route m trail n x r at in
      let body = replaced_body k x.body here (sym (ap is_replacing at) ∙ e) in
      claimed_again k x.tag.link r.link r.there
      ((laws.follow (link_setup plan x.tag.link) r.link.entries (letter_of plan m) q x k why.Replaced in_it body).1 refl) c

  -- Each member that was claimed was given back.
  pub given_back : (k : Member) → Contains roll.claimed k → Contains roll.given k
  given_back k c =
      let j = has_joined k c in
      let events = events_of j.trail in
      let within = h.run.within k c in
      let once = joins_once k j.m j.trail c j.there in
      let (n, less, settled) = leave_behind k c j in
      let found = first (λ i. settles k (kind_at (acts_of events) i)) j.position (n - suc j.position) n (omega arith) settled in
      let bye = laws.byes (setup_at plan j.m) events k j.position found.at once (joins_of events k j.position j.event j.at j.its) (omega (arith, within, h.count)) found.behind found.none found.passes in
      by_event k c j.m j.trail found.at (is_replacing (slice_get events found.at)) j.there refl found.passes bye

  -- What became of the places, where nobody was replaced.
  pub places_back : NobodyIsReplaced plan.places trails → ArePlacesBack plan.places trails roll
  places_back stays = record {
    count = h.count;
    run = h.run;
    joins = λ test. h.joins test ∙ ap (count_by test) (sym h.claims);
    given = given_back;
    free = laws.free roll.words roll.claimed roll.given h.run given_back;
    stays = stays;
  }
