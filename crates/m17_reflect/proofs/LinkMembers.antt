-- Each membership on a link is of a member that joins once, by its link and for its peer: what its queue has for it is a
-- life, no other queue has anything for it, and what goes to the peer by the link is what is for its memberships.
use Rattle.m17_reflect.proofs.MemberLives.{LifeLaws, IsOnlyJoin, carried_by, carried_life, AreCarried, OfModule, of_module, module_queues, IsOfRun, is_of_run, carried_at, joins_there, item_has_asker, is_same_self, same_member, of_its_join}
use Rattle.std.proofs.Common.{◌≡◌, ℕ, ◌<◌, true, List, [], ◌∷◌, Some, sym, subst, refl, ap, ◌∙◌, arith, Bool, false, zero, suc, ◌+◌, cond, ◌++◌, Option, None}
use Rattle.std.specs.Prelude.{filter, All, ◌==◌, Contains, ◌||◌, ◌≢◌, slice_get, count_by, AllPairs}
use Rattle.std.specs.List.{AllByRecursion, flat_map}
use Rattle.std.proofs.lemmas.Bool.{ltb-true, and_parts, and_from, eqb-true, eq-eqb, false≢true}
use Rattle.std.proofs.lemmas.List.Elements.{All-from_recursion, filter-append}
use Rattle.m17_values.specs.declared.member.Member.{Member}
use Rattle.m17_values.specs.declared.peer.Peer.{Peer}
use Rattle.m17_control.specs.declared.event.Event.{Event}
use Rattle.m17_control.specs.declared.item.Item.{Item}
use Rattle.m17_control.specs.Modules.{serves}
use Rattle.m17_directory.specs.declared.known.Request.{Request}
use Rattle.m17_directory.specs.Entries.{Claim, is_peer}
use Rattle.m17_directory.specs.Routed.{routed}
use Rattle.m17_directory.specs.Laws.{JoinsAreTheClaims, AskersAskForServedModules, claimed_members}
use Rattle.m17_lane.specs.Orders.{picked}
use Rattle.m17_lane.specs.Orders as lane
use Rattle.m17_module.specs.Laws.{joins, FollowsJoin}
use Rattle.m17_sender.specs.Joined.{IsJoined, is_to, IsLifeFrom, Joined, is_to_any, goes_to, items_of}
use Rattle.m17_reflect.specs.Links.{Link, At, link_setup, letter_of}
use Rattle.m17_reflect.specs.Queues.{carried, all_carried}
use Rattle.m17_reflect.specs.Run.{Run, module_count}
use Rattle.m17_reflect.specs.Sendings.{number_of, memberships}
use Rattle.m17_reflect.specs.Trails.{events_of}
use Rattle.m17_reflect.proofs.Askers.{IsAsker, its_event, asker_is_routed, begun, number_there, asker_begins, has_begun}
use Rattle.m17_reflect.proofs.ClaimsDiffer.{claim_in, JoinsOnceIn, pairs_head, pairs_tail}
use Rattle.m17_reflect.proofs.ModuleTrails.{link_of, is_at}
use Rattle.m17_reflect.proofs.PlaceByPlace.{at_below, routes_at}
use Rattle.m17_reflect.proofs.ListPlaces.{IsIn, from_picked, stands, contained, from_flat}
use Rattle.m17_floor.specs.Acts.{is_same}
use Rattle.m17_lane.specs.Ends.{TrailEnd}
use Rattle.m17_reflect.proofs.ModulesWorked.{any_at, at_any}
use Rattle.std.specs.Option.{option_map_or}
use Rattle.std.proofs.lemmas.List.{append-nil}
use Rattle.std.proofs.lemmas.List.Sums.{sum_by-cons, sum_by-append}
use Rattle.m17_reflect.specs.Places.{AreSame}
use Rattle.m17_reflect.proofs.LinksHeard.{all_at}

-- The laws that this rests on.
pub record MemberLaws : Type 0 where
  pub joins : JoinsAreTheClaims
  pub served : AskersAskForServedModules
  pub carried : LifeLaws

-- The members that the links claimed are at places that are there, and each joins once.
pub record AreMembers {EL ML BL : Type 0} (run : Run EL ML BL) (links : List Link) : Type 0 where
  pub carried : AreCarried run links
  pub placed : (i : ℕ) (link : Link) → At links i link →
      AllByRecursion (λ k. is_at run.plan.places k ≡ true) (claimed_members link.entries)
  pub once : (k : Member) → k.place < run.plan.places → JoinsOnceIn run.handed.trails k

by_links : (i : ℕ) (from : Peer) (items : List Item) → AllByRecursion (λ item. (item.link ≡ i) × (item.peer ≡ from)) items → AllByRecursion (λ item. item.link ≡ i) items
by_links i from [] h = tt
by_links i from (item ∷ items) h = (h.0.0, by_links i from items h.1)

module _ {EL ML BL : Type 0} where
  -- the place of a claim is there
  claim_placed : (run : Run EL ML BL) (links : List Link) (i : ℕ) (link : Link) (letter n : ℕ) (from : Peer) (claim : Claim) → AreMembers run links → At links i link → IsAsker (link_setup run.plan i) link.entries letter n from claim → claim.member.place < run.plan.places
  claim_placed run links i link letter n from claim h at a =
      ltb-true claim.member.place run.plan.places
      (claim_in (λ k. is_at run.plan.places k ≡ true) link.entries (h.placed i link at) n claim a.is_claim)

  -- the letter of an asker is served
  asker_served : AskersAskForServedModules → (run : Run EL ML BL) (i : ℕ) (link : Link) (letter n : ℕ) (from : Peer) (claim : Claim) → IsAsker (link_setup run.plan i) link.entries letter n from claim → serves run.plan.modules letter ≡ true
  asker_served law run i link letter n from claim a =
      let (request, is, served) = law (link_setup run.plan i) link.entries n a.asks in
      let both : Some request ≡ Some a.request = sym is ∙ a.requests in
      let same : request ≡ a.request = cc in
      subst (λ (l : ℕ). serves run.plan.modules l ≡ true) (ap (λ (r : Request). r.letter) same ∙ a.same_letter) served

  -- The Join of an asker, in the trail of its module.
  pub record HasJoined (run : Run EL ML BL) (i letter : ℕ) (from : Peer) (claim : Claim) : Type 0 where
    pub there : number_of run.plan.modules letter < module_count run.plan
    pub its : OfModule run (number_of run.plan.modules letter)
    pub join : IsOnlyJoin (events_of its.trail) claim.member from i claim.after

  joined_at : MemberLaws → (run : Run EL ML BL) (links : List Link) (i : ℕ) (link : Link) (letter n : ℕ) (from : Peer) (claim : Claim) → AreMembers run links → At links i link → (a : IsAsker (link_setup run.plan i) link.entries letter n from claim) → (m : ℕ) → letter_of run.plan m ≡ letter → (o : OfModule run m) → IsOnlyJoin (events_of o.trail) claim.member from i claim.after
  joined_at laws run links i link letter n from claim h at a m e o =
      let setup = link_setup run.plan i in let event = its_event setup link.entries n from a.request claim in
      let part : routed setup link.entries (letter_of run.plan m) ≡ picked link_of i (events_of o.trail) =
      (h.carried.trails.each m o.trail o.trail_there).order.parts i (routed setup link.entries (letter_of run.plan m)) (routes_at run.plan links (letter_of run.plan m) i link at) in
      let routed_there : IsIn (routed setup link.entries (letter_of run.plan m)) event = subst (λ (l : ℕ). IsIn (routed setup link.entries l) event) (sym e) (asker_is_routed laws.joins setup link.entries letter n from claim a) in
      let (there, by) = from_picked link_of i (events_of o.trail) event (subst (λ (l : List Event). IsIn l event) part routed_there) in record {
        position = there.0;
        event = event;
        callsign = a.request.callsign;
        listens = a.request.listen;
        there = there.1;
        body = refl;
        its_link = by;
        once = (h.once claim.member (claim_placed run links i link letter n from claim h at a)).once m o.trail o.trail_there;
      }

  pub has_joined : MemberLaws → (run : Run EL ML BL) (links : List Link) (i : ℕ) (link : Link) (letter n : ℕ) (from : Peer) (claim : Claim) → AreMembers run links → At links i link → IsAsker (link_setup run.plan i) link.entries letter n from claim → HasJoined run i letter from claim
  has_joined laws run links i link letter n from claim h at a =
      let (lt, e) = number_there run.plan letter (asker_served laws.served run i link letter n from claim a) in
      let o = of_module run links (number_of run.plan.modules letter) h.carried lt in
      record { there = lt; its = o; join = joined_at laws run links i link letter n from claim h at a (number_of run.plan.modules letter) e o }

  -- no other queue has an item for its member
  pub stands_alone : MemberLaws → (run : Run EL ML BL) (links : List Link) (i : ℕ) (link : Link) (letter n : ℕ) (from : Peer) (claim : Claim) → AreMembers run links → At links i link → IsAsker (link_setup run.plan i) link.entries letter n from claim → (j : HasJoined run i letter from claim) → (m q : ℕ) (item : Item) → IsOfRun run m q item → item.member ≡ claim.member → m ≡ number_of run.plan.modules letter
  stands_alone laws run links i link letter n from claim h at a j m q item is same =
      let k = claim.member in let o = j.its in let f = is.follows in
      (h.once k (claim_placed run links i link letter n from claim h at a)).alone m (number_of run.plan.modules letter) f.position j.join.position is.trail o.trail is.trail_there o.trail_there
      (subst (λ (k : Member). joins (events_of is.trail) k f.position ≡ true) same
      (joins_there (events_of is.trail) item.member f.position f.event item.peer f.callsign f.listens f.after f.there f.body))
      (joins_there (events_of o.trail) k j.join.position j.join.event from j.join.callsign j.join.listens claim.after j.join.there j.join.body)

  -- The membership that an asker began.
  pub is_joined : MemberLaws → (run : Run EL ML BL) (links : List Link) (i : ℕ) (link : Link) (letter n : ℕ) (from : Peer) (claim : Claim) → AreMembers run links → At links i link → IsAsker (link_setup run.plan i) link.entries letter n from claim → IsJoined (carried run.handed.queues) i (begun run.plan.modules letter claim)
  is_joined laws run links i link letter n from claim h at a =
      let k = claim.member in let m = number_of run.plan.modules letter in let j = has_joined laws run links i link letter n from claim h at a in
      let o = j.its in let c = module_queues run m o.row o.missed in let lt = claim_placed run links i link letter n from claim h at a in
      let (queue, at_q) = at_below o.row k.place (omega (arith, o.carry.count)) in
      let is : carried run.handed.queues m k.place ≡ lane.items_of queue.order = carried_at run.handed.queues m k.place o.row queue o.row_there at_q in record {
        life = subst (λ (items : List Item). IsLifeFrom claim.after (filter (is_to k) items)) (sym is)
            (carried_life laws.carried (events_of o.trail) c k from i claim.after queue o.carry at_q lt j.join);
        its_link = subst (λ (items : List Item). All (λ item. item.link ≡ i) (filter (is_to k) items)) (sym is)
            (All-from_recursion (λ item. item.link ≡ i) (filter (is_to k) (lane.items_of queue.order))
            (by_links i from (filter (is_to k) (lane.items_of queue.order)) (carried_by laws.carried (events_of o.trail) c k from i claim.after k.place queue o.carry at_q j.join)));
        alone = λ m q item there same.
            let of = is_of_run laws.carried run links m q item h.carried (stands (carried run.handed.queues m q) item there) in
            (stands_alone laws run links i link letter n from claim h at a j m q item of same, sym of.place ∙ ap (λ (k : Member). k.place) same);
      }

-- What goes to a peer by a link is what is for its memberships there.

pub same_answer : (a b : Bool) → (a ≡ true → b ≡ true) → (b ≡ true → a ≡ true) → a ≡ b
same_answer true true f g = refl
same_answer true false f g = sym (f refl)
same_answer false true f g = g refl
same_answer false false f g = refl

moved : (trails : List (TrailEnd Event)) (m n : ℕ) (trail other : TrailEnd Event) (item : Item) → m ≡ n → At trails m trail → At trails n other → FollowsJoin (events_of trail) item → FollowsJoin (events_of other) item
moved trails m n trail other item e at an f =
    let both : Some trail ≡ Some other = sym (subst (λ (k : ℕ). At trails k trail) e at) ∙ an in
    let same : trail ≡ other = cc in subst (λ (t : TrailEnd Event). FollowsJoin (events_of t) item) same f

module _ {EL ML BL : Type 0} where
  -- what goes to the peer is for one of its memberships
  to_one : MemberLaws → (run : Run EL ML BL) (links : List Link) (i : ℕ) (link : Link) (x : Peer) (m q : ℕ) (item : Item) → AreMembers run links → At links i link → IsOfRun run m q item → goes_to i (is_peer x) item ≡ true → is_to_any (memberships (link_setup run.plan i) link.entries x) item ≡ true
  to_one laws run links i link x m q item h at is goes =
      let setup = link_setup run.plan i in
      let (by, to) = and_parts (i == item.link) (is_peer x item.peer) goes in
      let a = item_has_asker laws.joins run links m q item i link h.carried is at (sym (eqb-true i item.link by)) in
      let begins = asker_begins setup link.entries (letter_of run.plan m) a.position item.peer a.claim x a.asker to in
      at_any (λ (j : Joined). is_to j.member item) (memberships setup link.entries x) begins.0 (begun setup.modules (letter_of run.plan m) a.claim) begins.1
      (subst (λ (k : Member). is_same item.member k ≡ true) (sym a.member) (is_same_self item.member))

  by_asker : MemberLaws → (run : Run EL ML BL) (links : List Link) (i : ℕ) (link : Link) (letter n : ℕ) (from : Peer) (claim : Claim) (m q : ℕ) (item : Item) → AreMembers run links → At links i link → IsAsker (link_setup run.plan i) link.entries letter n from claim → IsOfRun run m q item → item.member ≡ claim.member → (item.link ≡ i) × (item.peer ≡ from)
  by_asker laws run links i link letter n from claim m q item h at a is same =
      let j = has_joined laws run links i link letter n from claim h at a in
      let f = moved run.handed.trails m (number_of run.plan.modules letter) is.trail j.its.trail item (stands_alone laws run links i link letter n from claim h at a j m q item is same) is.trail_there j.its.trail_there is.follows in
      let of = of_its_join (events_of j.its.trail) claim.member j.join.position j.join.event from j.join.callsign j.join.listens claim.after j.join.once j.join.there j.join.body item same f in
      (of.by_link ∙ j.join.its_link, of.to_peer)

  -- and what is for one goes to it
  from_one : MemberLaws → (run : Run EL ML BL) (links : List Link) (i : ℕ) (link : Link) (x : Peer) (m q : ℕ) (item : Item) → AreMembers run links → At links i link → IsOfRun run m q item → is_to_any (memberships (link_setup run.plan i) link.entries x) item ≡ true → goes_to i (is_peer x) item ≡ true
  from_one laws run links i link x m q item h at is to =
      let setup = link_setup run.plan i in
      let (k, one, there, mine) = any_at (λ (j : Joined). is_to j.member item) (memberships setup link.entries x) to in
      let (n, b) = has_begun setup link.entries x one (k, there) in
      let (by, peer) = by_asker laws run links i link b.letter n b.from b.claim m q item h at b.asker is (same_member item.member one.member mine ∙ ap (λ (j : Joined). j.member) (sym b.joined)) in
      and_from (i == item.link) (is_peer x item.peer) (eq-eqb i item.link (sym by))
      (subst (λ (p : Peer). is_peer x p ≡ true) (sym peer) b.is)

  -- The items to a peer by a link are those of its memberships.
  pub to_memberships : MemberLaws → (run : Run EL ML BL) (links : List Link) (i : ℕ) (link : Link) (x : Peer) → AreMembers run links → At links i link → (m q : ℕ) (item : Item) → Contains (carried run.handed.queues m q) item → goes_to i (is_peer x) item ≡ is_to_any (memberships (link_setup run.plan i) link.entries x) item
  to_memberships laws run links i link x h at m q item there =
      let is = is_of_run laws.carried run links m q item h.carried (stands (carried run.handed.queues m q) item there) in
      same_answer (goes_to i (is_peer x) item) (is_to_any (memberships (link_setup run.plan i) link.entries x) item)
      (to_one laws run links i link x m q item h at is) (from_one laws run links i link x m q item h at is)

-- All that the queues carry for a peer of a link is for its memberships there, each item once.

module _ {A : Type 0} where
  none_step : (b : Bool) (x : A) (kept : List A) → (b ≡ true → ⊥) → kept ≡ [] → cond b (x ∷ kept) kept ≡ []
  none_step true x kept never e = absurd (never refl)
  none_step false x kept never e = e

  none_kept : (p : A → Bool) (xs : List A) → ((x : A) → IsIn xs x → p x ≡ true → ⊥) → filter p xs ≡ []
  none_kept p [] h = refl
  none_kept p (x ∷ xs) h = none_step (p x) x (filter p xs) (h x (0, refl)) (none_kept p xs (λ y there. h y (suc there.0, there.1)))

  -- tests that agree on a list keep the same of it
  same_kept : (p r : A → Bool) (xs : List A) → ((x : A) → IsIn xs x → p x ≡ r x) → filter p xs ≡ filter r xs
  same_kept p r [] h = refl
  same_kept p r (x ∷ xs) h =
      ap (λ b. cond b (x ∷ filter p xs) (filter p xs)) (h x (0, refl))
      ∙ ap (λ kept. cond (r x) (x ∷ kept) kept) (same_kept p r xs (λ y there. h y (suc there.0, there.1)))

  count_append : (test : A → Bool) (xs ys : List A) → count_by test (xs ++ ys) ≡ count_by test xs + count_by test ys
  count_append test xs ys = sum_by-append (λ (x : A). cond (test x) 1 0) xs ys

  apart_step : (test : A → Bool) (x : A) (b c : Bool) (ps rs both : List A) → (b ≡ true → c ≡ true → ⊥) → count_by test both ≡ count_by test ps + count_by test rs → count_by test (cond (b || c) (x ∷ both) both) ≡ count_by test (cond b (x ∷ ps) ps) + count_by test (cond c (x ∷ rs) rs)
  apart_step test x true true ps rs both never e = absurd (never refl refl)
  apart_step test x true false ps rs both never e =
      omega (arith, e, sum_by-cons (λ (y : A). cond (test y) 1 0) x both, sum_by-cons (λ (y : A). cond (test y) 1 0) x ps)
  apart_step test x false true ps rs both never e =
      omega (arith, e, sum_by-cons (λ (y : A). cond (test y) 1 0) x both, sum_by-cons (λ (y : A). cond (test y) 1 0) x rs)
  apart_step test x false false ps rs both never e = e

  -- what passes one of two tests, of which no item passes both
  apart_counts : (test p r : A → Bool) → ((x : A) → p x ≡ true → r x ≡ true → ⊥) → (xs : List A) → count_by test (filter (λ x. p x || r x) xs) ≡ count_by test (filter p xs) + count_by test (filter r xs)
  apart_counts test p r never [] = refl
  apart_counts test p r never (x ∷ xs) =
      apart_step test x (p x) (r x) (filter p xs) (filter r xs) (filter (λ x. p x || r x) xs) (never x) (apart_counts test p r never xs)

module _ {X : Type 0} (f : X → List Item) (p : Item → Bool) where
  -- of several lists one alone has what passes
  only_one : (xs : List X) (q : ℕ) → ((j : ℕ) (x : X) (item : Item) → slice_get xs j ≡ Some x → IsIn (f x) item → p item ≡ true → j ≡ q) → filter p (flat_map f xs) ≡ filter p (option_map_or f (slice_get xs q) [])
  only_one [] q h = refl
  only_one (x ∷ xs) zero h =
      filter-append p (f x) (flat_map f xs)
      ∙ ap (λ (l : List Item). filter p (f x) ++ l) (none_kept p (flat_map f xs) (λ item there passes.
      let at = from_flat f xs item there in
      omega (arith, h (suc at.there.0) at.item item at.there.1 at.its passes)))
      ∙ append-nil (filter p (f x))
  only_one (x ∷ xs) (suc q) h =
      filter-append p (f x) (flat_map f xs)
      ∙ ap (λ (l : List Item). l ++ filter p (flat_map f xs)) (none_kept p (f x) (λ item there passes. omega (arith, h 0 x item refl there passes)))
      ∙ only_one xs q (λ j y item at there passes. omega (arith, h (suc j) y item at there passes))

abbrev of_queue : TrailEnd Item → List Item
of_queue queue = lane.items_of queue.order

abbrev of_row : List (TrailEnd Item) → List Item
of_row row = flat_map of_queue row

module _ (queues : List (List (TrailEnd Item))) where
  -- an item that is carried is in some queue
  record IsCarried (item : Item) : Type 0 where
    m : ℕ
    q : ℕ
    there : IsIn (carried queues m q) item

  is_carried : (item : Item) → IsIn (all_carried queues) item → IsCarried item
  is_carried item there =
      let row = from_flat of_row queues item there in
      let queue = from_flat of_queue row.item item row.its in record {
        m = row.there.0;
        q = queue.there.0;
        there = subst (λ (l : List Item). IsIn l item) (sym (carried_at queues row.there.0 queue.there.0 row.item queue.item row.there.1 queue.there.1)) queue.its;
      }

  module _ (p : Item → Bool) (m q : ℕ) (h : (n o : ℕ) (item : Item) → IsIn (carried queues n o) item → p item ≡ true → (n ≡ m) × (o ≡ q)) where
    in_module : (o : Option (List (TrailEnd Item))) → slice_get queues m ≡ o → filter p (option_map_or of_row o []) ≡ filter p (option_map_or of_queue (slice_get (option_map_or (λ row. row) o []) q) [])
    in_module None e = refl
    in_module (Some row) e =
        only_one of_queue p row q (λ j queue item at there passes.
        (h m j item (subst (λ (l : List Item). IsIn l item) (sym (carried_at queues m j row queue e at)) there) passes).1)

    -- where one queue alone has what passes
    alone_carried : filter p (all_carried queues) ≡ filter p (carried queues m q)
    alone_carried =
        only_one of_row p queues m (λ j row item at there passes.
        let queue = from_flat of_queue row item there in
        (h j queue.there.0 item (subst (λ (l : List Item). IsIn l item) (sym (carried_at queues j queue.there.0 row queue.item at queue.there.1)) queue.its) passes).0)
        ∙ in_module (slice_get queues m) refl

  -- what is for several members, of whom each has its items in its own queue
  shared : (joins : List Joined) → AllPairs (λ (a b : Joined). a.member ≢ b.member) joins
      → AllByRecursion (λ j. filter (is_to j.member) (all_carried queues) ≡ items_of (carried queues) j) joins
      → AreSame (filter (is_to_any joins) (all_carried queues)) (flat_map (items_of (carried queues)) joins)
  shared [] apart own test = ap (count_by test) (none_kept (is_to_any []) (all_carried queues) (λ item there e. false≢true e))
  shared (j ∷ joins) apart own test =
      let rest = shared joins (pairs_tail (λ (a b : Joined). a.member ≢ b.member) j joins apart) own.1 test in
      let others = pairs_head (λ (a b : Joined). a.member ≢ b.member) j joins apart in
      let both = apart_counts test (is_to j.member) (is_to_any joins) (λ item is any.
      let (i, other, at, too) = any_at (λ (o : Joined). is_to o.member item) joins any in
      all_at (λ (o : Joined). j.member ≢ o.member) joins others i other at
      (sym (same_member item.member j.member is) ∙ same_member item.member other.member too)) (all_carried queues) in
      let one = ap (count_by test) own.0 in
      let joined = count_append test (items_of (carried queues) j) (flat_map (items_of (carried queues)) joins) in
      omega (arith, both, rest, one, joined)

-- each has its items in its own queue
abbrev pub StandsAlone : List (List (TrailEnd Item)) → Joined → Type 0
StandsAlone queues j = (m q : ℕ) (item : Item) → Contains (carried queues m q) item → item.member ≡ j.member → (m ≡ j.m) × (q ≡ j.member.place)

own_of : (queues : List (List (TrailEnd Item))) (js : List Joined) → AllByRecursion (StandsAlone queues) js → AllByRecursion (λ j. filter (is_to j.member) (all_carried queues) ≡ items_of (carried queues) j) js
own_of queues [] h = tt
own_of queues (j ∷ js) h = (
  alone_carried queues (is_to j.member) j.m j.member.place (λ n o item there passes.
      h.0 n o item (contained (carried queues n o) item there) (same_member item.member j.member passes)),
  own_of queues js h.1,
)

-- What goes to a peer by a link is for its memberships there.
pub its_share : (queues : List (List (TrailEnd Item))) (joins : List Joined) (goes : Item → Bool) → AllPairs (λ (a b : Joined). a.member ≢ b.member) joins
    → AllByRecursion (StandsAlone queues) joins
    → ((m q : ℕ) (item : Item) → Contains (carried queues m q) item → goes item ≡ is_to_any joins item)
    → AreSame (filter goes (all_carried queues)) (flat_map (items_of (carried queues)) joins)
its_share queues joins goes apart alone same test =
    ap (count_by test) (same_kept goes (is_to_any joins) (all_carried queues) (λ item there.
    let c = is_carried queues item there in same c.m c.q item (contained (carried queues c.m c.q) item c.there)))
    ∙ shared queues joins apart (own_of queues joins alone) test
