-- The devices that come back of a run are those that were handed in, in their order.
use Rattle.std.proofs.Common.{◌≡◌, length, sym, ap, ◌∙◌, arith, ◌==◌, ℕ, Bool, true, false, List, ◌++◌, map, subst, ◌<◌, ◌≤◌, cond, [], ◌∷◌, Option, None, Some, inl, inr, refl}
use Rattle.std.proofs.lemmas.List.{length-map}
use Rattle.m17_reflect.specs.Headline.{Headline}
use Rattle.m17_reflect.specs.Laws.{AreSameDevices}
use Rattle.m17_reflect.specs.Links.{Link, At, setup_at}
use Rattle.m17_reflect.specs.Run.{Run, module_count}
use Rattle.m17_reflect.proofs.OrdersObeyed.{same_parts}
use Rattle.m17_reflect.proofs.PlaceByPlace.{at_below, below_at}
use Rattle.std.specs.Prelude.{filter, All, AllPairs, Contains, slice_get, sum_by, count_by}
use Rattle.std.specs.List.{AllByRecursion, flat_map}
use Rattle.std.proofs.lemmas.Bool.{and_parts, and_from, eqb-true, eq-eqb, cases_lt}
use Rattle.std.proofs.lemmas.List.Elements.{recursion_from_All, All-from_recursion}
use Rattle.m17_values.specs.declared.member.Member.{Member}
use Rattle.m17_values.specs.declared.peer.Peer.{Peer}
use Rattle.m17_control.specs.declared.event.Event.{Event}
use Rattle.m17_control.specs.declared.item.Item.{Item}
use Rattle.m17_module.specs.Items.{Setup, items_given, items_for}
use Rattle.m17_module.specs.Laws.{joins, JoinsOnce, ShareIsALife, FollowsJoin, ItemsFollowTheirJoins, ItemsAreAtPlaces}
use Rattle.m17_worker.specs.Offers.{Try, may_be_missed, queued_for}
use Rattle.m17_sender.specs.Acts.{Act, answers_of, notes_of, sayings}
use Rattle.m17_sender.specs.Joined.{Queues, SayAll, Joined, is_to, items_of, IsLifeFrom, IsJoined, AreInTurn, WaitsFor, items_said, is_to_any, goes_to, replies_to, packets_to, packets_of}
use Rattle.m17_sender.specs.Laws.{IsHello, LessOfALifeIsALife, TurnsKeepEachMemberInOrder, PeersAreToldInOrder}
use Rattle.m17_sender.specs.Orders.{IsShuffle}
use Rattle.m17_reflect.specs.Turns.{HoldTrails, JoinsBy, IsOfPeer, AreMemberships, HoldsTrail, trail_in}
use Rattle.m17_reflect.proofs.ModulesWorked.{any_at, at_any, given_placed}
use Rattle.m17_reflect.proofs.AllSaid.{all_also}
use Rattle.m17_reflect.proofs.LinksHeard.{all_at}
use Rattle.m17_reflect.proofs.MemberLives.{queued_all, filter_all, hello_stays, placed, is_same_self, same_member, joins_there, of_its_join, share_from, queue_life, each_try, in_queue, row_in, carried_at, module_queues}
use Rattle.m17_reflect.proofs.LinkMembers.{same_answer}
use Rattle.m17_reflect.proofs.ListPlaces.{stands, IsIn, contained, one_counts, sum_flat}
use Rattle.std.specs.Option.{option_map_or}
use Rattle.std.proofs.lemmas.Option.{same_Some, none-some, slice_get_past}
use Rattle.m17_lane.specs.Ends.{TrailEnd}
use Rattle.m17_reflect.specs.Places.{AreSame, joiners}
use Rattle.m17_reflect.specs.Queues.{Carry, QueuesCarry, carried}
use Rattle.m17_reflect.specs.Trails.{events_of}
use Rattle.m17_reflect.proofs.LinkNotes.{counted_in}
use Rattle.m17_reflect.proofs.ClaimsDiffer.{mine, joined_in, join_counts, sums_are, JoinsOnceIn, claimed_once, joins_once}

module _ {EL ML BL : Type 0} where
  -- as many links as ears
  links_long : (run : Run EL ML BL) (headline : Headline run) → length headline.carried_out.links ≡ length run.before.ears
  links_long run h =
      sym (length-map h.carried_out.links (λ (link : Link). link.heard)) ∙ ap length h.carried_out.of_heard ∙ h.ears.count

  pub devices_stay : (run : Run EL ML BL) → Headline run → length run.before.mouths ≡ length run.before.ears → length run.before.traces ≡ length run.before.ears → length run.before.books ≡ module_count run.plan → AreSameDevices run.before run.after
  devices_stay run h mouths traces books =
      let out = h.carried_out in let links = links_long run h in let written = out.judged.written in record {
        ears = same_parts (λ ear. ear.device) run.before.ears run.after.ears h.ears.same_count (λ i a b at_a at_b.
            let inside = below_at run.before.ears i a at_a in
            let (entries, at) = at_below h.heard i (omega (arith, h.ears.count)) in
            (h.ears.each i entries a b at at_a at_b).heard.same_device);
        mouths = same_parts (λ mouth. mouth.device) run.before.mouths run.after.mouths (out.mouths.count ∙ links ∙ sym mouths) (λ i a b at_a at_b.
            let inside = below_at run.before.mouths i a at_a in
            let (link, at) = at_below out.links i (omega (arith, links, mouths)) in
            (out.mouths.each i link a b at at_a at_b).said.same_device);
        traces = same_parts (λ trace. trace.device) run.before.traces run.after.traces (written.trace_count ∙ links ∙ sym traces) (λ i a b at_a at_b.
            let inside = below_at run.before.traces i a at_a in
            let (link, at) = at_below out.links i (omega (arith, links, traces)) in
            (written.traces i link a b at at_a at_b).1.same_device);
        books = same_parts (λ book. book.device) run.before.books run.after.books (written.book_count ∙ sym books) (λ m a b at_a at_b.
            let inside = below_at run.before.books m a at_a in
            let (trail, at) = at_below run.handed.trails m (omega (arith, out.trails.count, books)) in
            (written.books m trail a b at at_a at_b).1.same_device);
      }

-- The law on turns, of trails: a membership whose Join stands in a trail is told a life, by its link, and by its own queue.

-- The laws that this rests on.
pub record TurnLaws : Type 0 where
  pub share : ShareIsALife
  pub follow : ItemsFollowTheirJoins
  pub less : LessOfALifeIsALife
  pub order : TurnsKeepEachMemberInOrder
  pub peers : PeersAreToldInOrder

-- where frames, echoes and pings alone were left out no Hello was
hellos_stay : (tries : List Try) → All (λ (t : Try). t.queued ≡ false → may_be_missed t.item.body ≡ true) tries → All (λ (t : Try). t.queued ≡ false → IsHello t.item.body → ⊥) tries
hellos_stay tries h =
    All-from_recursion (λ (t : Try). t.queued ≡ false → IsHello t.item.body → ⊥) tries
    (all_also (λ (t : Try). t.queued ≡ false → may_be_missed t.item.body ≡ true) (λ (t : Try). t.queued ≡ false → IsHello t.item.body → ⊥)
    (λ t missed not_queued. hello_stays t.item.body (missed not_queued)) tries
    (recursion_from_All (λ (t : Try). t.queued ≡ false → may_be_missed t.item.body ≡ true) tries h))

module _ (laws : TurnLaws) (setups : ℕ → Setup) (trails : ℕ → List Event) (queues : Queues) (h : HoldTrails setups trails queues) where
  -- each item of a queue follows a Join of its member
  all_follow : (m q : ℕ) → AllByRecursion (FollowsJoin (trails m)) (queues m q)
  all_follow m q =
      let held = h.each m in
      subst (AllByRecursion (FollowsJoin (trails m))) (sym (held.each q))
      (queued_all (FollowsJoin (trails m)) held.tries q
      (subst (AllByRecursion (FollowsJoin (trails m))) (sym held.all_items)
      (recursion_from_All (FollowsJoin (trails m)) (items_given (setups m) (trails m)) (laws.follow.given (setups m) (trails m)))))

  its_join : (m q : ℕ) (item : Item) → Contains (queues m q) item → FollowsJoin (trails m) item
  its_join m q item there =
      let in_it = stands (queues m q) item there in
      all_at (FollowsJoin (trails m)) (queues m q) (all_follow m q) in_it.0 item in_it.1

  module _ (link : ℕ) (j : Joined) (by : JoinsBy trails link j) where
    join_there : joins (trails j.m) j.member by.position ≡ true
    join_there = joins_there (trails j.m) j.member by.position by.event by.peer by.callsign by.listens j.after by.there by.body

    joins_once_here : JoinsOnce (trails j.m) j.member
    joins_once_here a b ea eb = (h.once j.member j.m j.m a b ea eb).1

    life : IsLifeFrom j.after (items_of queues j)
    unfolding items_for
    life =
        let held = h.each j.m in let k = j.member in
        let whole : IsLifeFrom j.after (filter (is_to k) (map (λ (t : Try). t.item) held.tries)) =
        subst (λ (items : List Item). IsLifeFrom j.after (filter (is_to k) items)) (sym held.all_items)
        (share_from (setups j.m) (trails j.m) k by.position by.event by.peer by.callsign by.listens j.after laws.share laws.follow joins_once_here by.there by.body (h.placed k j.m by.position join_there)) in
        subst (λ (items : List Item). IsLifeFrom j.after (filter (is_to k) items)) (sym (held.each k.place))
        (queue_life laws.less j.after k held.tries whole (hellos_stay held.tries held.left_out))

    its_link : AllByRecursion (λ item. item.link ≡ link) (items_of queues j)
    its_link =
        filter_all (λ item. item.link ≡ link) (is_to j.member) (queues j.m j.member.place)
        (all_also (FollowsJoin (trails j.m)) (λ item. is_to j.member item ≡ true → item.link ≡ link)
        (λ item f mine.
        (of_its_join (trails j.m) j.member by.position by.event by.peer by.callsign by.listens j.after joins_once_here by.there by.body item (same_member item.member j.member mine) f).by_link ∙ by.by_link)
        (queues j.m j.member.place) (all_follow j.m j.member.place))

    alone : (m q : ℕ) (item : Item) → Contains (queues m q) item → item.member ≡ j.member → (m ≡ j.m) × (q ≡ j.member.place)
    alone m q item there same =
        let f = its_join m q item there in
        let join = subst (λ (k : Member). joins (trails m) k f.position ≡ true) same
        (joins_there (trails m) item.member f.position f.event item.peer f.callsign f.listens f.after f.there f.body) in
        let held = h.each m in
        let place = placed held.tries q item (stands (queued_for held.tries q) item (subst (λ (l : List Item). Contains l item) (held.each q) there)) in
        ((h.once j.member m j.m f.position by.position join join_there).0, sym place ∙ ap (λ (k : Member). k.place) same)

    is_joined : IsJoined queues link j
    is_joined = record {
      life = life;
      its_link = All-from_recursion (λ item. item.link ≡ link) (items_of queues j) its_link;
      alone = alone;
    }

  in_turn : (link : ℕ) (notes : List Member) (joined : List Joined) → AllByRecursion (JoinsBy trails link) joined → AllPairs (WaitsFor notes) joined → AreInTurn queues link notes joined
  in_turn link notes joined each waits = record {
    each = All-from_recursion (IsJoined queues link) joined (all_also (JoinsBy trails link) (IsJoined queues link) (is_joined link) joined each);
    waits = waits;
  }

  -- What is said to memberships is theirs, one after another.
  pub told_in_order : (acts more : List Act) (link : ℕ) (joined : List Joined) → SayAll acts more queues → All (JoinsBy trails link) joined → AllPairs (WaitsFor (notes_of link acts)) joined
      → filter (is_to_any joined) (items_said (acts ++ more)) ≡ flat_map (items_of queues) joined
  told_in_order acts more link joined say each waits =
      laws.order acts more queues link joined say
      (in_turn link (notes_of link acts) joined (recursion_from_All (JoinsBy trails link) joined each) waits)

  module _ (link : ℕ) (x : Peer → Bool) (joined : List Joined) (are : AreMemberships trails link x joined) where
    -- what goes to the peer is for one of its memberships
    to_one : (m q : ℕ) (item : Item) → Contains (queues m q) item → goes_to link x item ≡ true → is_to_any joined item ≡ true
    to_one m q item there goes =
        let (by, to) = and_parts (link == item.link) (x item.peer) goes in
        let f = its_join m q item there in
        let j : Joined = record { m = m; member = item.member; after = f.after } in
        let its : JoinsBy trails link j = record {
          position = f.position;
          event = f.event;
          peer = item.peer;
          callsign = f.callsign;
          listens = f.listens;
          there = f.there;
          by_link = f.link ∙ sym (eqb-true link item.link by);
          body = f.body;
        } in
        let (i, at) = stands joined j (are.all j (its, to)) in
        at_any (λ (o : Joined). is_to o.member item) joined i j at (is_same_self item.member)

    -- and what is for one goes to it
    from_one : (m q : ℕ) (item : Item) → Contains (queues m q) item → is_to_any joined item ≡ true → goes_to link x item ≡ true
    from_one m q item there to =
        let (i, j, at, mine) = any_at (λ (o : Joined). is_to o.member item) joined to in
        let (by, is_its) = all_at (IsOfPeer trails link x) joined (recursion_from_All (IsOfPeer trails link x) joined are.each) i j at in
        let same = same_member item.member j.member mine in
        let own : FollowsJoin (trails j.m) item =
        subst (λ (n : ℕ). FollowsJoin (trails n) item) (alone link j by m q item there same).0 (its_join m q item there) in
        let of = of_its_join (trails j.m) j.member by.position by.event by.peer by.callsign by.listens j.after (joins_once_here link j by) by.there by.body item same own in
        and_from (link == item.link) (x item.peer) (eq-eqb link item.link (sym (of.by_link ∙ by.by_link)))
        (ap x of.to_peer ∙ is_its)

    -- What goes to the peer is the replies to it and what its memberships are told.
    pub peer_told_in_order : (acts more : List Act) (name : ℕ) → SayAll acts more queues → AllPairs (WaitsFor (notes_of link acts)) joined
        → IsShuffle (replies_to link x (answers_of (acts ++ more))) (packets_of name (flat_map (items_of queues) joined)) (packets_to x (sayings name link (acts ++ more)))
    peer_told_in_order acts more name say waits =
        let each = all_also (IsOfPeer trails link x) (JoinsBy trails link) (λ j h. h.0) joined (recursion_from_All (IsOfPeer trails link x) joined are.each) in
        laws.peers acts more queues link joined say (in_turn link (notes_of link acts) joined each waits) name x
        (λ m q item there. same_answer (goes_to link x item) (is_to_any joined item) (to_one m q item there) (from_one m q item there))

-- The queues of a run hold what its trails give, and each member that joins does so once, at a place that is there.

module _ {A : Type 0} where
  empty_by : (xs : List A) → ((x : A) → IsIn xs x → ⊥) → xs ≡ []
  empty_by [] h = refl
  empty_by (x ∷ xs) h = absurd (h x (0, refl))

  past_none : (xs : List A) (i : ℕ) → slice_get xs i ≡ None → length xs ≤ i
  past_none xs i e =
      elim (cases_lt i (length xs)) [
        | inl less ↦ (let (x, at) = at_below xs i less in absurd (none-some x (sym e ∙ at)))
        | inr past ↦ past
      ]

module _ {EL ML BL : Type 0} where
  -- a module that is not there has no queue
  no_queue : (run : Run EL ML BL) (m q : ℕ) → slice_get run.handed.queues m ≡ None → carried run.handed.queues m q ≡ []
  no_queue run m q e = ap (λ (o : Option (List (TrailEnd Item))). in_queue (slice_get (row_in o) q)) e

  without_trail : (run : Run EL ML BL) (m : ℕ) → length run.handed.queues ≤ m → HoldsTrail (setup_at run.plan m) [] (carried run.handed.queues m)
  unfolding items_given
  without_trail run m past = record {
    tries = [];
    all_items = refl;
    each = λ q. no_queue run m q (slice_get_past run.handed.queues m past);
    left_out = λ i d lt. absurd (omega arith);
  }

  -- the queue of a place, and none at a place that is not there
  queue_of : ItemsAreAtPlaces → (run : Run EL ML BL) (m : ℕ) (events : List Event) (row : List (TrailEnd Item)) (missed : ℕ) (c : Carry events (module_queues run m row missed)) → At run.handed.queues m row → (q : ℕ) (o : Option (TrailEnd Item)) → slice_get row q ≡ o → carried run.handed.queues m q ≡ queued_for c.tries q
  queue_of law run m events row missed c at q None e =
      let P : Item → Type 0 = λ item. item.member.place < run.plan.places in
      let all : AllByRecursion P (queued_for c.tries q) =
      queued_all P c.tries q (subst (AllByRecursion P) (sym c.all_items) (given_placed law (setup_at run.plan m) events)) in
      let past = past_none row q e in
      ap (λ (o : Option (List (TrailEnd Item))). in_queue (slice_get (row_in o) q)) at ∙ ap in_queue e
      ∙ sym (empty_by (queued_for c.tries q) (λ item there.
      let here = placed c.tries q item there in
      let less = all_at P (queued_for c.tries q) all there.0 item there.1 in omega (arith, c.count)))
  queue_of law run m events row missed c at q (Some queue) e =
      carried_at run.handed.queues m q row queue at e ∙ (c.each q queue e).order

  with_trail : ItemsAreAtPlaces → (run : Run EL ML BL) → QueuesCarry run → length run.handed.trails ≡ module_count run.plan → (m : ℕ) (trail : TrailEnd Event) → At run.handed.trails m trail → HoldsTrail (setup_at run.plan m) (events_of trail) (carried run.handed.queues m)
  with_trail law run h count m trail at =
      let inside = below_at run.handed.trails m trail at in
      let (row, at_r) = at_below run.handed.queues m (omega (arith, h.count, count)) in
      let (missed, at_m) = at_below run.handed.missed m (omega (arith, h.missed_count, count)) in
      let c = h.each m trail row missed at at_r at_m in record {
        tries = c.tries;
        all_items = c.all_items;
        each = λ q. queue_of law run m (events_of trail) row missed c at_r q (slice_get row q) refl;
        left_out = All-from_recursion (λ (t : Try). t.queued ≡ false → may_be_missed t.item.body ≡ true) c.tries
            (each_try (λ (t : Try). t.queued ≡ false → may_be_missed t.item.body ≡ true) c.tries
            (λ n t there not_queued. (c.left_out n t there not_queued).may_be));
      }

  holds_at : ItemsAreAtPlaces → (run : Run EL ML BL) → QueuesCarry run → length run.handed.trails ≡ module_count run.plan → (m : ℕ) (o : Option (TrailEnd Event)) → slice_get run.handed.trails m ≡ o → HoldsTrail (setup_at run.plan m) (option_map_or events_of o []) (carried run.handed.queues m)
  holds_at law run h count m None e =
      let past = past_none run.handed.trails m e in without_trail run m (omega (arith, h.count, count))
  holds_at law run h count m (Some trail) e = with_trail law run h count m trail e

-- the trail of a Join
trail_of : (trails : List (TrailEnd Event)) (k : Member) (m i : ℕ) (o : Option (TrailEnd Event)) → slice_get trails m ≡ o → joins (option_map_or events_of o []) k i ≡ true → (t : TrailEnd Event) × (slice_get trails m ≡ Some t) × (joins (events_of t) k i ≡ true)
trail_of trails k m i None e j = absurd cc
trail_of trails k m i (Some t) e j = (t, e, j)

-- who joins was claimed
joined_claimed : (trails : List (TrailEnd Event)) (claimed : List Member) (k : Member) → AreSame (flat_map (λ trail. joiners (events_of trail)) trails) claimed → (m p : ℕ) (t : TrailEnd Event) → At trails m t → joins (events_of t) k p ≡ true → Contains claimed k
joined_claimed trails claimed k same m p t at j =
    let part = one_counts (joined_in k) trails m t at in
    let some = join_counts k (events_of t) p j in
    let all : sum_by (joined_in k) trails ≡ count_by (mine k) claimed =
    sums_are k trails
    ∙ sym (sum_flat (λ (m : Member). cond (mine k m) 1 0) (λ (trail : TrailEnd Event). joiners (events_of trail)) trails)
    ∙ same (mine k) in
    let (y, there, is) = counted_in (mine k) claimed (omega arith) in
    subst (Contains claimed) (same_member y k is) (contained claimed y there)

module _ {EL ML BL : Type 0} where
  -- The queues of a run hold what its trails give.
  pub runs_hold : ItemsAreAtPlaces → (run : Run EL ML BL) → Headline run → HoldTrails (setup_at run.plan) (trail_in run) (carried run.handed.queues)
  runs_hold law run headline =
      let c = headline.carried_out in
      let p = c.places in
      let trails = run.handed.trails in let roll = run.handed.roll in
      let claimed : (k : Member) (m i : ℕ) (t : TrailEnd Event) → At trails m t → joins (events_of t) k i ≡ true → Contains roll.claimed k =
      λ k m i t at j. joined_claimed trails roll.claimed k p.joins m i t at j in record {
        each = λ m. holds_at law run c.queues c.trails.count m (slice_get trails m) refl;
        once = λ k m n i j a b.
            let (t, at_t, first) = trail_of trails k m i (slice_get trails m) refl a in
            let (u, at_u, second) = trail_of trails k n j (slice_get trails n) refl b in
            let own : JoinsOnceIn trails k =
            joins_once trails roll.claimed k p.joins (claimed_once roll.words roll.claimed roll.given k p.run (p.run.within k (claimed k m i t at_t first))) in
            let same : m ≡ n = own.alone m n i j t u at_t at_u first second in
            let one : u ≡ t = same_Some u t (sym at_u ∙ ap (slice_get trails) (sym same) ∙ at_t) in
            (same, own.once m t at_t i j first (subst (λ (v : TrailEnd Event). joins (events_of v) k j ≡ true) one second));
        placed = λ k m i a.
            let (t, at_t, first) = trail_of trails k m i (slice_get trails m) refl a in
            let within = p.run.within k (claimed k m i t at_t first) in omega (arith, p.count);
      }
