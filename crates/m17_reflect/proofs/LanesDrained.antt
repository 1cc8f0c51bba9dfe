-- The order of the door is one interleaving, by their link, of what the links answer past all modules.
use Rattle.std.proofs.Common.{◌≡◌, ℕ, zero, suc, ◌+◌, ◌<◌, List, [], map, length, All, Option, sym, subst, refl, ap, ◌∙◌, arith, ◌∷◌, ◌++◌, drop, None, Some}
use Rattle.std.specs.List.{AllByRecursion, range_with_len}
use Rattle.std.specs.Option.{option_map_or, option_map}
use Rattle.std.proofs.lemmas.List.{length-map, append-nil, drop_at}
use Rattle.std.proofs.lemmas.List.Elements.{recursion_from_All, All-from_recursion}
use Rattle.m17_ports.specs.Book.{BookTold}
use Rattle.m17_ports.specs.Ear.{EarTold}
use Rattle.m17_control.specs.declared.item.Direct.{Direct}
use Rattle.m17_directory.specs.Entries.{Entry, Setup}
use Rattle.m17_directory.specs.Laws.{DoorCarriesReplies, door_replies}
use Rattle.m17_lane.specs.Ends.{PushEnd, PopEnd, TrailEnd, new_pushers}
use Rattle.m17_lane.specs.Orders.{items_of, picked}
use Rattle.m17_lane.specs.Rows.{pushes, push_each}
use Rattle.m17_lane.specs.RowsLaws.{RowsPush}
use Rattle.m17_lane.specs.Interleavings.{IsInterleaving}
use Rattle.m17_lane.specs.GridLaws.{RowsStand, OrderIsInterleaving}
use Rattle.m17_lane.specs.Trails.{IsTrailOf, IsTrailOfOne, AreTrailsOfOnes}
use Rattle.m17_receiver.specs.declared.receiver.Receiver.{Receiver}
use Rattle.m17_plan.specs.declared.plan.Plan.{Plan}
use Rattle.m17_reflect.specs.Links.{Link, At, link_setup}
use Rattle.m17_reflect.specs.Jobs.{AreReceivers}
use Rattle.m17_reflect.proofs.LinksHeard.{Came}
use Rattle.m17_reflect.proofs.ModuleTrails.{pushed_row, pushed_at}
use Rattle.m17_reflect.proofs.PlaceByPlace.{at_below, below_at, entries_in, AllZip3, zip3_at, zip3_length, unmapped, mapped_at}
use Rattle.m17_reflect.proofs.ListPlaces.{in_range}
use Rattle.m17_reflect.proofs.AllSaid.{link_of_reply}
use Rattle.std.specs.Prelude.{slice_get}
use Rattle.std.proofs.lemmas.Option.{same_Some, none-some, slice_get-map}
use Rattle.m17_control.specs.declared.item.Item.{Item}
use Rattle.m17_sender.specs.Places.{in_row, popped_by, popped_at}
use Rattle.m17_worker.specs.declared.worker.Worker.{Worker}
use Rattle.m17_reflect.specs.Left.{left, left_in, drained}
use Rattle.m17_reflect.specs.Rest.{left_at}
use Rattle.m17_reflect.specs.Queues.{carried}
use Rattle.m17_reflect.proofs.ModulesWorked.{QueuesBack}

-- The laws that this rests on.
pub record DoorLaws : Type 0 where
  pub push : RowsPush Direct
  pub rows : RowsStand Direct
  pub order : OrderIsInterleaving Direct
  pub replies : DoorCarriesReplies

-- What the door carried, in order: what each link answers, and nothing else.
pub record IsDoor (plan : Plan) (links : List Link) (order : List Direct) : Type 0 where
  pub parts : (i : ℕ) (link : Link) → At links i link →
      door_replies (link_setup plan i) link.entries ≡ picked link_of_reply i order
  pub known : AllByRecursion (λ (d : Direct). d.link < length links) order

-- the pusher of a receiver
abbrev pub door_of : {E B : Type 0} → Receiver E B → PushEnd Direct
door_of k = k.door

-- what link i answers
abbrev answers_by : Plan → List Link → ℕ → List Direct
answers_by plan links i = door_replies (link_setup plan i) (entries_in links i)

range_length : (k n : ℕ) → length (range_with_len k n) ≡ n
range_length k zero = refl
range_length k (suc n) = ap suc (range_length (k + 1) n)

module _ {E B : Type 0} where
  -- the pushers when the links have answered
  doors_pushed : {EL BL : Type 0} (law : RowsPush Direct) (hears : E → EarTold EL) (writes : B → BookTold BL) (plan : Plan) (js ks : List (Receiver E B)) (links : List Link) → AreReceivers plan js → AllZip3 (Came hears writes) js ks links → map door_of ks ≡ push_each (answers_by plan links) 0 (map door_of js)
  doors_pushed law hears writes plan js ks links are h =
      let lens = zip3_length (Came hears writes) js ks links h in
      law.by_place (answers_by plan links) (map door_of js) (map door_of ks)
      (omega (arith, lens.0, length-map js door_of, length-map ks door_of))
      (λ m p q ep eq.
      let (j, at_j, is_j) = unmapped door_of js m p ep in
      let (k, at_k, is_k) = unmapped door_of ks m q eq in
      let (link, at_l) = at_below links m (omega (arith, lens.1, below_at js m j at_j)) in
      let went = ap (λ o. o.door) (zip3_at (Came hears writes) js ks links h m j k link at_j at_k at_l).posted in
      sym is_k ∙ went
      ∙ ap (λ (s : Setup). pushes j.door (door_replies s link.entries)) (are m j at_j).setup
      ∙ ap (λ (es : List Entry). pushes j.door (door_replies (link_setup plan m) es))
      (sym (ap (λ (o : Option Link). option_map_or (λ (link : Link). link.entries) o []) at_l))
      ∙ ap (λ (p : PushEnd Direct). pushes p (answers_by plan links m)) is_j)

  -- What the door carried.
  pub is_door : {EL BL : Type 0} (laws : DoorLaws) (hears : E → EarTold EL) (writes : B → BookTold BL) (plan : Plan) (js ks : List (Receiver E B)) (links : List Link) (p end : PopEnd Direct) (t : TrailEnd Direct) → AreReceivers plan js → AllZip3 (Came hears writes) js ks links → map door_of js ≡ new_pushers p (length links) → IsTrailOf (map door_of ks) end t → IsDoor plan links (items_of t.order)
  is_door laws hears writes plan js ks links p end t are h new trail =
      let n = length links in let f = answers_by plan links in let row = push_each f 0 (new_pushers p n) in
      let is_row : map door_of ks ≡ row = doors_pushed laws.push hears writes plan js ks links are h ∙ ap (push_each f 0) new in
      let found = laws.order link_of_reply row end t (subst (λ (r : List (PushEnd Direct)). IsTrailOf r end t) is_row trail) (λ i q at.
      subst (All (λ (x : Direct). link_of_reply x ≡ i)) (sym (pushed_at laws.rows f p n i q at))
      (All-from_recursion (λ (x : Direct). link_of_reply x ≡ i) (f i) (laws.replies.link (link_setup plan i) (entries_in links i)))) in
      let lists : map (λ (q : PushEnd Direct). q.pushed) row ≡ map f (range_with_len 0 n) = pushed_row laws.rows f p n in
      let whole : IsInterleaving link_of_reply (map f (range_with_len 0 n)) (items_of t.order) = subst (λ (ls : List (List Direct)). IsInterleaving link_of_reply ls (items_of t.order)) lists found in
      let count : length (map f (range_with_len 0 n)) ≡ n = length-map (range_with_len 0 n) f ∙ range_length 0 n in record {
        parts = λ i link at.
            ap (λ (o : Option Link). door_replies (link_setup plan i) (option_map_or (λ (link : Link). link.entries) o [])) (sym at)
            ∙ whole.parts i (f i) (mapped_at f (range_with_len 0 n) i i (in_range n i (below_at links i link at)));
        known = recursion_from_All (λ (d : Direct). d.link < n) (items_of t.order) (subst (λ (m : ℕ). All (λ (d : Direct). d.link < m) (items_of t.order)) count whole.known);
      }

-- Queues whose rest was said: what each carried is what was popped of it and what was left.

module _ {T : Type 0} where
  -- The popper that popped all of the trail.
  abbrev pub drained_by : TrailEnd T → PopEnd T → PopEnd T
  drained_by t p = record p { popped = items_of t.order }

  -- what was left is what the trail still had
  pub left_is : (popped : List T) (t : TrailEnd T) (rest : List T) → t.popped ≡ popped → items_of t.order ≡ popped ++ rest → left t ≡ rest
  left_is popped t rest e whole =
      ap (λ (l : List T). drop (length l) (items_of t.order)) e ∙ ap (drop (length popped)) whole
      ∙ drop_at popped rest (length popped) refl

  pub popped_then_left : (popped : List T) (t : TrailEnd T) (rest : List T) → t.popped ≡ popped → items_of t.order ≡ popped ++ rest → items_of t.order ≡ popped ++ left t
  popped_then_left popped t rest e whole =
      whole ∙ ap (λ (l : List T). popped ++ l) (sym (left_is popped t rest e whole))

  -- A trail of a lane of one producer, when all was popped.
  pub drained_one : (q : PushEnd T) (p : PopEnd T) (t : TrailEnd T) → IsTrailOfOne q p t → IsTrailOfOne q (drained_by t p) (drained t)
  drained_one q p t h =
      let (rest, whole) = h.trail.whole in record {
        trail = record {
          logs = h.trail.logs;
          refused = h.trail.refused;
          popped = refl;
          whole = ([], record { shuffle = whole.shuffle; queued = sym (append-nil (items_of t.order)) });
        };
        order = h.order;
        settled = ([], sym h.order ∙ sym (append-nil (items_of t.order)));
      }

-- The trails of queues, row by row as their poppers stood: each popped what its popper did, and that first.
pub record AreQueuesBack (poppers : List (List (PopEnd Item))) (trails : List (List (TrailEnd Item))) : Type 0
  where
    pub count : length trails ≡ length poppers
    pub rows : (m : ℕ) (ps : List (PopEnd Item)) (ts : List (TrailEnd Item)) → slice_get poppers m ≡ Some ps →
        slice_get trails m ≡ Some ts → length ts ≡ length ps
    pub each : (m q : ℕ) (ps : List (PopEnd Item)) (ts : List (TrailEnd Item)) (p : PopEnd Item)
        (t : TrailEnd Item) → slice_get poppers m ≡ Some ps → slice_get trails m ≡ Some ts →
        slice_get ps q ≡ Some p → slice_get ts q ≡ Some t →
        (rest : List Item) × (t.popped ≡ p.popped) × (items_of t.order ≡ p.popped ++ rest)

-- Rows of trails of lanes of one producer each are such.
pub queues_back : (pushers : List (List (PushEnd Item))) (poppers : List (List (PopEnd Item))) (trails : List (List (TrailEnd Item))) → length pushers ≡ length poppers → length trails ≡ length poppers → ((m : ℕ) (qs : List (PushEnd Item)) (ps : List (PopEnd Item)) (ts : List (TrailEnd Item)) → slice_get pushers m ≡ Some qs → slice_get poppers m ≡ Some ps → slice_get trails m ≡ Some ts → (length qs ≡ length ps) × AreTrailsOfOnes qs ps ts) → AreQueuesBack poppers trails
queues_back pushers poppers trails many count h = record {
  count = count;
  rows = λ m ps ts ep et.
      let inside = below_at poppers m ps ep in
      let (qs, eq) = at_below pushers m (omega arith) in (h m qs ps ts eq ep et).1.count;
  each = λ m q ps ts p t ep et e f.
      let inside = below_at poppers m ps ep in
      let (qs, eq) = at_below pushers m (omega arith) in
      let (long, are) = h m qs ps ts eq ep et in
      let within = below_at ps q p e in
      let (pusher, at) = at_below qs q (omega arith) in
      let one = are.each q pusher p t at e f in
      (one.settled.0, one.trail.popped, one.order ∙ one.settled.1);
}

abbrev in_queue : Option (TrailEnd Item) → List Item
in_queue o = option_map_or (λ (queue : TrailEnd Item). items_of queue.order) o []

abbrev row_in : Option (List (TrailEnd Item)) → List (TrailEnd Item)
row_in o = option_map_or (λ (row : List (TrailEnd Item)). row) o []

settled_queue : (poppers : List (List (PopEnd Item))) (trails : List (List (TrailEnd Item))) (m q : ℕ) (ps : List (PopEnd Item)) (ts : List (TrailEnd Item)) (op : Option (PopEnd Item)) (ot : Option (TrailEnd Item)) → AreQueuesBack poppers trails → slice_get poppers m ≡ Some ps → slice_get trails m ≡ Some ts → slice_get ps q ≡ op → slice_get ts q ≡ ot → in_queue ot ≡ popped_by op ++ left_in ot
settled_queue poppers trails m q ps ts None None h ep et e f = refl
settled_queue poppers trails m q ps ts None (Some t) h ep et e f =
    let inside = below_at ts q t f in let long = h.rows m ps ts ep et in
    let (p, at) = at_below ps q (omega arith) in let wrong : None ≡ Some p = sym e ∙ at in absurd cc
settled_queue poppers trails m q ps ts (Some p) None h ep et e f =
    let inside = below_at ps q p e in let long = h.rows m ps ts ep et in
    let (t, at) = at_below ts q (omega arith) in let wrong : None ≡ Some t = sym f ∙ at in absurd cc
settled_queue poppers trails m q ps ts (Some p) (Some t) h ep et e f =
    let (rest, popped, whole) = h.each m q ps ts p t ep et e f in popped_then_left p.popped t rest popped whole

settled_row : (poppers : List (List (PopEnd Item))) (trails : List (List (TrailEnd Item))) (m q : ℕ) (op : Option (List (PopEnd Item))) (ot : Option (List (TrailEnd Item))) → AreQueuesBack poppers trails → slice_get poppers m ≡ op → slice_get trails m ≡ ot → in_queue (slice_get (row_in ot) q) ≡ popped_by (in_row op q) ++ left_in (in_row ot q)
settled_row poppers trails m q None None h ep et = refl
settled_row poppers trails m q None (Some ts) h ep et =
    let inside = below_at trails m ts et in let long = h.count in
    let (ps, at) = at_below poppers m (omega arith) in let wrong : None ≡ Some ps = sym ep ∙ at in absurd cc
settled_row poppers trails m q (Some ps) None h ep et =
    let inside = below_at poppers m ps ep in let long = h.count in
    let (ts, at) = at_below trails m (omega arith) in let wrong : None ≡ Some ts = sym et ∙ at in absurd cc
settled_row poppers trails m q (Some ps) (Some ts) h ep et =
    settled_queue poppers trails m q ps ts (slice_get ps q) (slice_get ts q) h ep et refl refl

-- What a queue carried was popped, and then was left.
pub carried_settled : (poppers : List (List (PopEnd Item))) (trails : List (List (TrailEnd Item))) → AreQueuesBack poppers trails → (m q : ℕ) → carried trails m q ≡ popped_at poppers m q ++ left_at trails m q
carried_settled poppers trails h m q = settled_row poppers trails m q (slice_get poppers m) (slice_get trails m) h refl refl

drained_in : (o : Option (TrailEnd Item)) → in_queue (option_map drained o) ≡ in_queue o
drained_in None = refl
drained_in (Some t) = refl

drained_row : (o : Option (List (TrailEnd Item))) (q : ℕ) → in_queue (slice_get (row_in (option_map (map drained) o)) q) ≡ in_queue (slice_get (row_in o) q)
drained_row None q = refl
drained_row (Some ts) q = ap in_queue (slice_get-map drained ts q) ∙ drained_in (slice_get ts q)

-- When all was popped, each queue carried the same.
pub carried_drained : (trails : List (List (TrailEnd Item))) (m q : ℕ) → carried (map (map drained) trails) m q ≡ carried trails m q
carried_drained trails m q =
    ap (λ (o : Option (List (TrailEnd Item))). in_queue (slice_get (row_in o) q)) (slice_get-map (map drained) trails m)
    ∙ drained_row (slice_get trails m) q

module _ {T : Type 0} where
  -- The poppers of a row, when each has popped all of its trail.
  abbrev pub row_drained : List (TrailEnd T) → List (PopEnd T) → List (PopEnd T)
  row_drained [] ps = []
  row_drained (t ∷ ts) [] = []
  row_drained (t ∷ ts) (p ∷ ps) = drained_by t p ∷ row_drained ts ps

  row_drained_long : (ts : List (TrailEnd T)) (ps : List (PopEnd T)) → length ts ≡ length ps → length (row_drained ts ps) ≡ length ps
  row_drained_long [] [] e = refl
  row_drained_long [] (p ∷ ps) e = absurd (omega arith)
  row_drained_long (t ∷ ts) [] e = absurd (omega arith)
  row_drained_long (t ∷ ts) (p ∷ ps) e = ap suc (row_drained_long ts ps (omega arith))

  row_drained_at : (ts : List (TrailEnd T)) (ps : List (PopEnd T)) (i : ℕ) (t : TrailEnd T) (p : PopEnd T) → slice_get ts i ≡ Some t → slice_get ps i ≡ Some p → slice_get (row_drained ts ps) i ≡ Some (drained_by t p)
  row_drained_at [] ps i t p et ep = absurd (none-some t et)
  row_drained_at (u ∷ ts) [] i t p et ep = absurd (none-some p ep)
  row_drained_at (u ∷ ts) (r ∷ ps) zero t p et ep =
      let same : u ≡ t = same_Some u t et in let also : r ≡ p = same_Some r p ep in
      ap Some (ap (λ (x : TrailEnd T). drained_by x r) same ∙ ap (drained_by t) also)
  row_drained_at (u ∷ ts) (r ∷ ps) (suc i) t p et ep = row_drained_at ts ps i t p et ep

  -- Trails of lanes of one producer each, when all was popped.
  pub drained_ones : (qs : List (PushEnd T)) (ps : List (PopEnd T)) (ts : List (TrailEnd T)) → AreTrailsOfOnes qs ps ts → AreTrailsOfOnes qs (row_drained ts ps) (map drained ts)
  drained_ones qs ps ts h = record {
    count = length-map ts drained ∙ h.count ∙ sym (row_drained_long ts ps h.count);
    each = λ m q p t at_q at_p at_t.
        let (u, at_u, is_u) = unmapped drained ts m t at_t in
        let inside = below_at ts m u at_u in let count = h.count in
        let (r, at_r) = at_below ps m (omega arith) in
        let both : Some (drained_by u r) ≡ Some p = sym (row_drained_at ts ps m u r at_u at_r) ∙ at_p in
        subst (λ (x : PopEnd T). IsTrailOfOne q x t) (same_Some (drained_by u r) p both)
        (subst (IsTrailOfOne q (drained_by u r)) is_u (drained_one q r u (h.each m q r u at_q at_r at_u)));
  }

-- The queues of a module, when the rest of each was said.
pub queues_drained : {B : Type 0} (plan : Plan) (k : Worker B) (ps : List (PopEnd Item)) (ts : List (TrailEnd Item)) → AreTrailsOfOnes k.offers.queues.items ps ts → length ps ≡ plan.places → QueuesBack plan k (record { pushers = k.offers.queues.items; poppers = row_drained ts ps; trails = map drained ts })
queues_drained plan k ps ts h count = record {
  trails = drained_ones k.offers.queues.items ps ts h;
  count = row_drained_long ts ps h.count ∙ count;
  drained = λ q t at.
      let (u, at_u, is_u) = unmapped drained ts q t at in
      subst (λ (x : TrailEnd Item). x.popped ≡ items_of x.order) is_u refl;
}
