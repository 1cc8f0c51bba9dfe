-- A member's share is a life that begins with the Hello of its Join.
use Rattle.std.proofs.Common.{◌≡◌, ℕ, ◌<◌, Bool, true, List, [], ◌∷◌, Some, slice_get, get_or, eqb, zero, suc, refl, ap, sym, ◌∙◌, subst, All, ◌==◌, ◌&&◌, false, cond, map, length, Option, None, arith}
use Rattle.std.specs.List.{filter, AllByRecursion}
use Rattle.std.proofs.lemmas.Bool.{eqb-true, eq-eqb, and_parts, and_from, cond-true, cond-false}
use Rattle.std.proofs.lemmas.List.Elements.{All-head, All-same, All-filter, filter_passes, All-map, recursion_from_All, All-from_recursion}
use Rattle.m17_values.specs.declared.member.Member.{Member}
use Rattle.m17_values.specs.declared.peer.Peer.{Peer}
use Rattle.m17_control.specs.declared.event.Body.TheVariants.{Join}
use Rattle.m17_control.specs.declared.event.Event.{Event}
use Rattle.m17_control.specs.declared.item.Item.{Item}
use Rattle.m17_control.specs.declared.item.Said.{Said}
use Rattle.m17_control.specs.declared.item.Said.TheVariants as said
use Rattle.m17_floor.specs.Acts.{is_same, is_join_of, kind_at}
use Rattle.m17_module.specs.Events.{kind_of, acts_of}
use Rattle.m17_module.specs.Items.{Setup, items_given, is_for, items_for}
use Rattle.m17_module.specs.Laws.{is_hello, is_bye, joins, JoinsOnce, IsLife, ShareIsALife, FollowsJoin, ItemsFollowTheirJoins}
use Rattle.m17_sender.specs.Joined.{IsLifeFrom, is_to}
use Rattle.m17_sender.specs.Laws.{IsHello, LessOfALifeIsALife}
use Rattle.m17_worker.specs.Offers.{Try, queued_for, may_be_missed}
use Rattle.m17_lane.specs.Ends.{TrailEnd}
use Rattle.m17_lane.specs.Orders as lane
use Rattle.m17_reflect.specs.Links.{At, Link, link_setup, letter_of, setup_at, routes, route_of}
use Rattle.m17_reflect.specs.Queues.{Carriers, Carry, QueuesCarry, carried}
use Rattle.std.specs.Option.{option_map_or}
use Rattle.std.proofs.lemmas.Option.{none-some}
use Rattle.m17_directory.specs.Laws.{JoinsAreTheClaims}
use Rattle.m17_directory.specs.Routed.{routed}
use Rattle.m17_lane.specs.Orders.{items_of, picked}
use Rattle.m17_reflect.specs.Run.{Run, module_count}
use Rattle.m17_reflect.specs.Trails.{events_of, AreTrails}
use Rattle.m17_reflect.proofs.Askers.{HasAsker, routed_has_asker}
use Rattle.m17_reflect.proofs.LinksHeard.{all_at}
use Rattle.m17_reflect.proofs.ModuleTrails.{link_of}
use Rattle.m17_reflect.proofs.PlaceByPlace.{at_below, below_at, numbered_length, routes_at, unmapped}
use Rattle.m17_reflect.proofs.ListPlaces.{IsIn, from_filter, in_picked}

is_a_hello : (what : Said) → is_hello what ≡ true → (n : ℕ) × (what ≡ said.Hello n)
is_a_hello (said.Hello n) e = (n, refl)
is_a_hello (said.Frame n p) e = cc
is_a_hello (said.Echo n p) e = cc
is_a_hello (said.Reply control) e = cc
is_a_hello said.Ping e = cc
is_a_hello (said.Bye why) e = cc

abbrev pub WaitsFrom : ℕ → Item → Type 0
WaitsFrom after item = (n : ℕ) → item.body ≡ said.Hello n → n ≡ after

life_from : (items : List Item) (after : ℕ) → IsLife items → All (WaitsFrom after) items → IsLifeFrom after items
life_from items after life by = record {
  begins = λ first rest e.
      let at : life.first ∷ life.rest ≡ first ∷ rest = sym life.items_are ∙ e in
      let same : life.first ≡ first = cc in
      let hello = is_a_hello first.body (subst (λ (item : Item). is_hello item.body ≡ true) same life.hello) in
      let waits : WaitsFrom after first = All-head (WaitsFrom after) first rest (All-same (WaitsFrom after) (first ∷ rest) items (sym e) by) in
      hello.1 ∙ ap said.Hello (waits hello.0 hello.1);
  ends = λ front rest bye why e body. life.bye_is_last front rest bye e (ap is_bye body);
}

pub is_same_self : (k : Member) → is_same k k ≡ true
is_same_self k = and_from _ _ (eq-eqb k.place k.place refl) (eq-eqb k.generation k.generation refl)

pub same_member : (a b : Member) → is_same a b ≡ true → a ≡ b
same_member a b h =
    let parts = and_parts (eqb a.place b.place) (eqb a.generation b.generation) h in
    let place : a.place ≡ b.place = eqb-true _ _ parts.0 in
    let generation : a.generation ≡ b.generation = eqb-true _ _ parts.1 in
    let make : ℕ → ℕ → Member = λ x y. record { place = x; generation = y } in
    ap (λ x. make x a.generation) place ∙ ap (make b.place) generation

pub kind_there : (events : List Event) (p : ℕ) (event : Event) → slice_get events p ≡ Some event → kind_at (acts_of events) p ≡ kind_of event.body
kind_there [] p event e = cc
kind_there (x ∷ events) zero event e = let same : x ≡ event = cc in ap (λ (v : Event). kind_of v.body) same
kind_there (x ∷ events) (suc p) event e = kind_there events p event e

pub joins_there : (events : List Event) (k : Member) (p : ℕ) (event : Event) (peer : Peer) (callsign : ℕ) (listens : Bool) (after : ℕ) → slice_get events p ≡ Some event → event.body ≡ Join k peer callsign listens after → joins events k p ≡ true
joins_there events k p event peer callsign listens after e body =
    ap (is_join_of k) (kind_there events p event e ∙ ap kind_of body) ∙ is_same_self k

pub record OfItsJoin (link after : ℕ) (peer : Peer) (item : Item) : Type 0 where
  pub by_link : item.link ≡ link
  pub to_peer : item.peer ≡ peer
  pub waits : WaitsFrom after item

pub of_its_join : (events : List Event) (k : Member) (j : ℕ) (event : Event) (peer : Peer) (callsign : ℕ) (listens : Bool) (after : ℕ) → JoinsOnce events k → slice_get events j ≡ Some event → event.body ≡ Join k peer callsign listens after → (item : Item) → item.member ≡ k → FollowsJoin events item → OfItsJoin event.tag.link after peer item
of_its_join events k j event peer callsign listens after once e body item mine f =
    let theirs : f.event.body ≡ Join k item.peer f.callsign f.listens f.after = f.body ∙ ap (λ m. Join m item.peer f.callsign f.listens f.after) mine in
    let at : f.position ≡ j = once f.position j (joins_there events k f.position f.event item.peer f.callsign f.listens f.after f.there theirs) (joins_there events k j event peer callsign listens after e body) in
    let found : Some f.event ≡ Some event = sym f.there ∙ ap (slice_get events) at ∙ e in
    let same : f.event ≡ event = cc in
    let bodies : Join k item.peer f.callsign f.listens f.after ≡ Join k peer callsign listens after = sym theirs ∙ ap (λ (v : Event). v.body) same ∙ body in
    let afters : f.after ≡ after = cc in
    let peers : item.peer ≡ peer = cc in
    record {
      by_link = sym f.link ∙ ap (λ (v : Event). v.tag.link) same;
      to_peer = peers;
      waits = λ n hello. f.waits n hello ∙ afters;
    }

pub all_of_join : (setup : Setup) (events : List Event) (k : Member) (j : ℕ) (event : Event) (peer : Peer) (callsign : ℕ) (listens : Bool) (after : ℕ) → ItemsFollowTheirJoins → JoinsOnce events k → slice_get events j ≡ Some event → event.body ≡ Join k peer callsign listens after → All (OfItsJoin event.tag.link after peer) (items_for setup events k)
unfolding items_for
all_of_join setup events k j event peer callsign listens after law once e body = λ i d h.
    of_its_join events k j event peer callsign listens after once e body (get_or (filter (is_for k) (items_given setup events)) i d)
    (same_member _ k (filter_passes (is_for k) (items_given setup events) i d h))
    (All-filter (is_for k) (FollowsJoin events) (items_given setup events) (law.given setup events) i d h)

pub share_from : (setup : Setup) (events : List Event) (k : Member) (j : ℕ) (event : Event) (peer : Peer) (callsign : ℕ) (listens : Bool) (after : ℕ) → ShareIsALife → ItemsFollowTheirJoins → JoinsOnce events k → slice_get events j ≡ Some event → event.body ≡ Join k peer callsign listens after → k.place < setup.places → IsLifeFrom after (items_for setup events k)
share_from setup events k j event peer callsign listens after share law once e body below =
    life_from (items_for setup events k) after (share setup events k j once (joins_there events k j event peer callsign listens after e body) below)
    (λ i d h. (all_of_join setup events k j event peer callsign listens after law once e body i d h).waits)

-- What a queue took for a member is less of its share, and a life too.

abbrev pair : Try → Item × Bool
pair t = (t.item, t.queued)

abbrev mine : Member → List Try → List Try
mine k tries = filter (λ (t : Try). is_to k t.item) tries

-- the share of the member
share_step : (t : Try) (ts : List Try) (items : List Item) (b : Bool) → map (λ (p : Item × Bool). p.0) (map pair ts) ≡ items → map (λ (p : Item × Bool). p.0) (map pair (cond b (t ∷ ts) ts)) ≡ cond b (t.item ∷ items) items
share_step t ts items true e = ap (λ ws. t.item ∷ ws) e
share_step t ts items false e = e

share_is : (k : Member) (tries : List Try) → map (λ (p : Item × Bool). p.0) (map pair (mine k tries)) ≡ filter (is_to k) (map (λ (t : Try). t.item) tries)
share_is k [] = refl
share_is k (t ∷ ts) = share_step t (mine k ts) (filter (is_to k) (map (λ (t : Try). t.item) ts)) (is_to k t.item) (share_is k ts)

-- what its queue took for it
took_step : (k : Member) (t : Try) (mine_of : List Try) (queue : List Item) (queued here is : Bool) → t.queued ≡ queued → (k.place == t.item.member.place) ≡ here → is_to k t.item ≡ is → (is ≡ true → here ≡ true) → map (λ (p : Item × Bool). p.0) (filter (λ (p : Item × Bool). p.1) (map pair mine_of)) ≡ filter (is_to k) queue → map (λ (p : Item × Bool). p.0) (filter (λ (p : Item × Bool). p.1) (map pair (cond is (t ∷ mine_of) mine_of))) ≡ filter (is_to k) (cond (queued && here) (t.item ∷ queue) queue)
took_step k t mine_of queue true true true q h i same e =
    ap (λ b. map (λ (p : Item × Bool). p.0) (cond b (pair t ∷ filter (λ (p : Item × Bool). p.1) (map pair mine_of)) (filter (λ (p : Item × Bool). p.1) (map pair mine_of)))) q
    ∙ ap (λ ws. t.item ∷ ws) e
    ∙ sym (cond-true (is_to k t.item) (t.item ∷ filter (is_to k) queue) (filter (is_to k) queue) i)
took_step k t mine_of queue false true true q h i same e =
    ap (λ b. map (λ (p : Item × Bool). p.0) (cond b (pair t ∷ filter (λ (p : Item × Bool). p.1) (map pair mine_of)) (filter (λ (p : Item × Bool). p.1) (map pair mine_of)))) q
    ∙ e
took_step k t mine_of queue queued false true q h i same e = absurd (let wrong : false ≡ true = same refl in cc)
took_step k t mine_of queue true true false q h i same e = e ∙ sym (cond-false (is_to k t.item) (t.item ∷ filter (is_to k) queue) (filter (is_to k) queue) i)
took_step k t mine_of queue false true false q h i same e = e
took_step k t mine_of queue true false false q h i same e = e
took_step k t mine_of queue false false false q h i same e = e

took_cond : (b : Bool) (t : Try) (ts : List Try) → cond b (t.item ∷ map (λ (t : Try). t.item) ts) (map (λ (t : Try). t.item) ts) ≡ map (λ (t : Try). t.item) (cond b (t ∷ ts) ts)
took_cond true t ts = refl
took_cond false t ts = refl

took_is : (k : Member) (tries : List Try) → map (λ (p : Item × Bool). p.0) (filter (λ (p : Item × Bool). p.1) (map pair (mine k tries))) ≡ filter (is_to k) (queued_for tries k.place)
took_is k [] = refl
took_is k (t ∷ ts) =
    took_step k t (mine k ts) (queued_for ts k.place) t.queued (k.place == t.item.member.place) (is_to k t.item) refl refl refl
    (λ is. eq-eqb k.place t.item.member.place (ap (λ (m : Member). m.place) (sym (same_member t.item.member k is)))) (took_is k ts)
    ∙ ap (filter (is_to k)) (took_cond (t.queued && (k.place == t.item.member.place)) t (filter (λ (t : Try). t.queued && (k.place == t.item.member.place)) ts))

-- with the law of the crate: its queue's items for it are a life
pub queue_life : (law : LessOfALifeIsALife) (after : ℕ) (k : Member) (tries : List Try) → IsLifeFrom after (filter (is_to k) (map (λ (t : Try). t.item) tries)) → All (λ (t : Try). t.queued ≡ false → IsHello t.item.body → ⊥) tries → IsLifeFrom after (filter (is_to k) (queued_for tries k.place))
queue_life law after k tries life keeps =
    subst (IsLifeFrom after) (took_is k tries)
    (law after (map pair (mine k tries)) (subst (IsLifeFrom after) (sym (share_is k tries)) life)
    (All-map (λ (p : Item × Bool). p.1 ≡ false → IsHello p.0.body → ⊥) pair (mine k tries)
    (All-filter (λ (t : Try). is_to k t.item) (λ (t : Try). t.queued ≡ false → IsHello t.item.body → ⊥) tries keeps)))

-- What a queue carries for a member: a life, from the Hello of its Join to its Bye, by the link of that Join.

queued_step : (P : Item → Type 0) (b : Bool) (t : Try) (tries : List Try) → P t.item → AllByRecursion P (map (λ (t : Try). t.item) tries) → AllByRecursion P (map (λ (t : Try). t.item) (cond b (t ∷ tries) tries))
queued_step P true t tries h rest = (h, rest)
queued_step P false t tries h rest = rest

-- what a queue took is of what was tried
pub queued_all : (P : Item → Type 0) (tries : List Try) (q : ℕ) → AllByRecursion P (map (λ (t : Try). t.item) tries) → AllByRecursion P (queued_for tries q)
queued_all P [] q h = tt
queued_all P (t ∷ tries) q h =
    queued_step P (t.queued && (q == t.item.member.place)) t (filter (λ (t : Try). t.queued && (q == t.item.member.place)) tries) h.0 (queued_all P tries q h.1)

filter_step : (P : Item → Type 0) (p : Item → Bool) (b : Bool) (item : Item) (kept : List Item) → p item ≡ b → (p item ≡ true → P item) → AllByRecursion P kept → AllByRecursion P (cond b (item ∷ kept) kept)
filter_step P p true item kept e h rest = (h e, rest)
filter_step P p false item kept e h rest = rest

-- what holds of each item that passes holds of those that are kept
pub filter_all : (P : Item → Type 0) (p : Item → Bool) (items : List Item) → AllByRecursion (λ item. p item ≡ true → P item) items → AllByRecursion P (filter p items)
filter_all P p [] h = tt
filter_all P p (item ∷ items) h =
    filter_step P p (p item) item (filter p items) refl h.0 (filter_all P p items h.1)

weaker : (P Q : Item → Type 0) → ((item : Item) → P item → Q item) → (items : List Item) → AllByRecursion P items → AllByRecursion Q items
weaker P Q f [] h = tt
weaker P Q f (item ∷ items) h = (f item h.0, weaker P Q f items h.1)

pub each_try : (P : Try → Type 0) (tries : List Try) → ((n : ℕ) (t : Try) → slice_get tries n ≡ Some t → P t) → AllByRecursion P tries
each_try P [] h = tt
each_try P (t ∷ tries) h = (h 0 t refl, each_try P tries (λ n u e. h (suc n) u e))

pub hello_stays : (body : Said) → may_be_missed body ≡ true → IsHello body → ⊥
hello_stays body missed (n, is) = let wrong : false ≡ true = sym (ap may_be_missed is) ∙ missed in cc

-- The laws that this rests on.
pub record LifeLaws : Type 0 where
  pub follow : ItemsFollowTheirJoins
  pub share : ShareIsALife
  pub less : LessOfALifeIsALife

-- Each item that a module's queue carries follows a Join of its member.
pub carried_follow : LifeLaws → (events : List Event) (c : Carriers) (q : ℕ) (queue : TrailEnd Item) → Carry events c → At c.queues q queue → AllByRecursion (FollowsJoin events) (lane.items_of queue.order)
carried_follow laws events c q queue h e =
    subst (AllByRecursion (FollowsJoin events)) (sym (h.each q queue e).order)
    (queued_all (FollowsJoin events) h.tries q
    (subst (AllByRecursion (FollowsJoin events)) (sym h.all_items)
    (recursion_from_All (FollowsJoin events) (items_given c.setup events) (laws.follow.given c.setup events))))

-- The Join of a member, the only one, at its position.
pub record IsOnlyJoin (events : List Event) (k : Member) (peer : Peer) (link after : ℕ) : Type 0 where
  pub position : ℕ
  pub event : Event
  pub callsign : ℕ
  pub listens : Bool
  pub there : slice_get events position ≡ Some event
  pub body : event.body ≡ Join k peer callsign listens after
  pub its_link : event.tag.link ≡ link
  pub once : JoinsOnce events k

-- What the queue of a member's place carries for it goes to its peer by its link.
pub carried_by : LifeLaws → (events : List Event) (c : Carriers) (k : Member) (peer : Peer) (link after q : ℕ) (queue : TrailEnd Item) → Carry events c → At c.queues q queue → IsOnlyJoin events k peer link after → AllByRecursion (λ item. (item.link ≡ link) × (item.peer ≡ peer)) (filter (is_to k) (lane.items_of queue.order))
carried_by laws events c k peer link after q queue h e j =
    filter_all (λ item. (item.link ≡ link) × (item.peer ≡ peer)) (is_to k) (lane.items_of queue.order)
    (weaker (FollowsJoin events) (λ item. is_to k item ≡ true → (item.link ≡ link) × (item.peer ≡ peer))
    (λ item f mine.
    let of = of_its_join events k j.position j.event peer j.callsign j.listens after j.once j.there j.body item (same_member item.member k mine) f in
    (of.by_link ∙ j.its_link, of.to_peer))
    (lane.items_of queue.order) (carried_follow laws events c q queue h e))

-- And it is a life from the Hello of its Join.
pub carried_life : LifeLaws → (events : List Event) (c : Carriers) (k : Member) (peer : Peer) (link after : ℕ) (queue : TrailEnd Item) → Carry events c → At c.queues k.place queue → k.place < c.setup.places → IsOnlyJoin events k peer link after → IsLifeFrom after (filter (is_to k) (lane.items_of queue.order))
unfolding items_for
carried_life laws events c k peer link after queue h e placed j =
    let whole : IsLifeFrom after (filter (is_to k) (map (λ (t : Try). t.item) h.tries)) =
    subst (λ (items : List Item). IsLifeFrom after (filter (is_to k) items)) (sym h.all_items)
    (share_from c.setup events k j.position j.event peer j.callsign j.listens after laws.share laws.follow j.once j.there j.body placed) in
    subst (λ (items : List Item). IsLifeFrom after (filter (is_to k) items)) (sym (h.each k.place queue e).order)
    (queue_life laws.less after k h.tries whole
    (All-from_recursion (λ (t : Try). t.queued ≡ false → IsHello t.item.body → ⊥) h.tries
    (each_try (λ (t : Try). t.queued ≡ false → IsHello t.item.body → ⊥) h.tries
    (λ n t at not_queued. hello_stays t.item.body (h.left_out n t at not_queued).may_be))))

-- What is known of an item that some queue of a run carries: it follows a Join of its member in the trail of its module,
-- that Join was routed there by its link, and the queue is the one of its member's place.

-- The queue that an item stands in.
pub record HasQueue (queues : List (List (TrailEnd Item))) (m q : ℕ) (item : Item) : Type 0 where
  pub row : List (TrailEnd Item)
  pub queue : TrailEnd Item
  pub row_there : slice_get queues m ≡ Some row
  pub queue_there : slice_get row q ≡ Some queue
  pub its : IsIn (items_of queue.order) item

abbrev pub in_queue : Option (TrailEnd Item) → List Item
in_queue o = option_map_or (λ (queue : TrailEnd Item). items_of queue.order) o []

abbrev pub row_in : Option (List (TrailEnd Item)) → List (TrailEnd Item)
row_in o = option_map_or (λ (row : List (TrailEnd Item)). row) o []

by_queue : (queues : List (List (TrailEnd Item))) (m q : ℕ) (item : Item) (row : List (TrailEnd Item)) (o : Option (TrailEnd Item)) → slice_get queues m ≡ Some row → slice_get row q ≡ o → IsIn (in_queue o) item → HasQueue queues m q item
by_queue queues m q item row None er eq h = absurd (none-some item h.1)
by_queue queues m q item row (Some queue) er eq h =
    record { row = row; queue = queue; row_there = er; queue_there = eq; its = h }

by_row : (queues : List (List (TrailEnd Item))) (m q : ℕ) (item : Item) (o : Option (List (TrailEnd Item))) → slice_get queues m ≡ o → IsIn (in_queue (slice_get (row_in o) q)) item → HasQueue queues m q item
by_row queues m q item None er h = absurd (none-some item h.1)
by_row queues m q item (Some row) er h = by_queue queues m q item row (slice_get row q) er refl h

pub has_queue : (queues : List (List (TrailEnd Item))) (m q : ℕ) (item : Item) → IsIn (carried queues m q) item → HasQueue queues m q item
has_queue queues m q item h = by_row queues m q item (slice_get queues m) refl h

-- what a queue that is there carries
pub carried_at : (queues : List (List (TrailEnd Item))) (m q : ℕ) (row : List (TrailEnd Item)) (queue : TrailEnd Item) → slice_get queues m ≡ Some row → slice_get row q ≡ Some queue → carried queues m q ≡ items_of queue.order
carried_at queues m q row queue er eq =
    ap (λ (o : Option (List (TrailEnd Item))). in_queue (slice_get (row_in o) q)) er ∙ ap in_queue eq

-- a queue has items of its place alone
pub placed : (tries : List Try) (q : ℕ) (item : Item) → IsIn (queued_for tries q) item → item.member.place ≡ q
placed tries q item h =
    let test : Try → Bool = λ t. t.queued && (q == t.item.member.place) in
    let (t, at, is) = unmapped (λ (t : Try). t.item) (filter test tries) h.0 item h.1 in
    let (there, passes) = from_filter test tries t (h.0, at) in
    let (queued, here) = and_parts t.queued (q == t.item.member.place) passes in
    ap (λ (i : Item). i.member.place) (sym is) ∙ sym (eqb-true q t.item.member.place here)

-- What the trails and queues of a run are.
pub record AreCarried {EL ML BL : Type 0} (run : Run EL ML BL) (links : List Link) : Type 0 where
  pub trails : AreTrails run.plan links run.handed.trails
  pub queues : QueuesCarry run

-- the queues of one module
abbrev pub module_queues : {EL ML BL : Type 0} → Run EL ML BL → ℕ → List (TrailEnd Item) → ℕ → Carriers
module_queues run m row missed =
    record { setup = setup_at run.plan m; patient = run.plan.patient; queues = row; missed = missed }

-- The trail and the queues of a module.
pub record OfModule {EL ML BL : Type 0} (run : Run EL ML BL) (m : ℕ) : Type 0 where
  pub trail : TrailEnd Event
  pub row : List (TrailEnd Item)
  pub missed : ℕ
  pub trail_there : At run.handed.trails m trail
  pub row_there : At run.handed.queues m row
  pub carry : Carry (events_of trail) (module_queues run m row missed)

module _ {EL ML BL : Type 0} where
  pub of_module : (run : Run EL ML BL) (links : List Link) (m : ℕ) → AreCarried run links → m < module_count run.plan → OfModule run m
  of_module run links m h lt =
      let (trail, at_t) = at_below run.handed.trails m (omega (arith, h.trails.count)) in
      let (row, at_r) = at_below run.handed.queues m (omega (arith, h.queues.count)) in
      let (missed, at_m) = at_below run.handed.missed m (omega (arith, h.queues.missed_count)) in record {
        trail = trail;
        row = row;
        missed = missed;
        trail_there = at_t;
        row_there = at_r;
        carry = h.queues.each m trail row missed at_t at_r at_m;
      }

  -- What is known of an item.
  pub record IsOfRun (run : Run EL ML BL) (m q : ℕ) (item : Item) : Type 0 where
    pub trail : TrailEnd Event
    pub trail_there : At run.handed.trails m trail
    pub module_there : m < module_count run.plan
    pub follows : FollowsJoin (events_of trail) item
    pub place : item.member.place ≡ q
    pub within : q < run.plan.places

  of_row : (laws : LifeLaws) (run : Run EL ML BL) (m q : ℕ) (item : Item) (o : OfModule run m) (row : List (TrailEnd Item)) (queue : TrailEnd Item) → m < module_count run.plan → slice_get o.row q ≡ Some queue → IsIn (items_of queue.order) item → IsOfRun run m q item
  of_row laws run m q item o row queue lt e h =
      let c = module_queues run m o.row o.missed in
      let inside = below_at o.row q queue e in record {
        trail = o.trail;
        trail_there = o.trail_there;
        module_there = lt;
        follows = all_at (FollowsJoin (events_of o.trail)) (items_of queue.order) (carried_follow laws (events_of o.trail) c q queue o.carry e) h.0 item h.1;
        place = placed o.carry.tries q item (subst (λ (l : List Item). IsIn l item) (o.carry.each q queue e).order h);
        within = omega (arith, o.carry.count);
      }

  pub is_of_run : LifeLaws → (run : Run EL ML BL) (links : List Link) (m q : ℕ) (item : Item) → AreCarried run links → IsIn (carried run.handed.queues m q) item → IsOfRun run m q item
  is_of_run laws run links m q item h there =
      let at = has_queue run.handed.queues m q item there in
      let inside = below_at run.handed.queues m at.row at.row_there in
      let lt : m < module_count run.plan = omega (arith, h.queues.count) in
      let o = of_module run links m h lt in
      let same : Some o.row ≡ Some at.row = sym o.row_there ∙ at.row_there in
      let rows : o.row ≡ at.row = cc in
      of_row laws run m q item o at.row at.queue lt (ap (λ (l : List (TrailEnd Item)). slice_get l q) rows ∙ at.queue_there) at.its

  -- The link of an item is there.
  pub link_is_there : (run : Run EL ML BL) (links : List Link) (m q : ℕ) (item : Item) → AreCarried run links → IsOfRun run m q item → item.link < length links
  link_is_there run links m q item h is =
      let letter = letter_of run.plan m in
      let known = (h.trails.each m is.trail is.trail_there).order.known in
      let count : length (routes run.plan links letter) ≡ length links = numbered_length (route_of run.plan letter) 0 links in
      let less = all_at (λ (x : Event). link_of x < length (routes run.plan links letter)) (events_of is.trail)
      (recursion_from_All (λ (x : Event). link_of x < length (routes run.plan links letter)) (events_of is.trail) known) is.follows.position is.follows.event is.follows.there in
      let same = is.follows.link in omega arith

  -- The asker, of its link, whose Join it follows.
  pub item_has_asker : JoinsAreTheClaims → (run : Run EL ML BL) (links : List Link) (m q : ℕ) (item : Item) (i : ℕ) (link : Link) → AreCarried run links → (is : IsOfRun run m q item) → At links i link → item.link ≡ i → HasAsker (link_setup run.plan i) link.entries (letter_of run.plan m) item.member item.peer is.follows.after
  item_has_asker law run links m q item i link h is at by =
      let letter = letter_of run.plan m in let f = is.follows in
      let part : routed (link_setup run.plan i) link.entries letter ≡ picked link_of i (events_of is.trail) =
      (h.trails.each m is.trail is.trail_there).order.parts i (routed (link_setup run.plan i) link.entries letter) (routes_at run.plan links letter i link at) in
      routed_has_asker law (link_setup run.plan i) link.entries letter f.event item.member item.peer f.callsign f.listens f.after
      (subst (λ (l : List Event). IsIn l f.event) (sym part)
      (in_picked link_of i (events_of is.trail) f.event (f.position, f.there) (f.link ∙ by))) f.body
