-- What a queue carried was given by the events of its module's trail.
use Rattle.std.proofs.Common.{◌≡◌, ℕ, List, [], map, refl, sym, ◌∙◌, subst, Option, None, Some, Contains}
use Rattle.std.specs.Prelude.{◌==◌, ◌&&◌, filter, slice_get}
use Rattle.std.specs.Option.{option_map_or}
use Rattle.std.proofs.lemmas.Option.{none-some}
use Rattle.m17_lists.proofs.Contents.{mapped_is_in, is_mapped_from_one, filtered_was_in}
use Rattle.m17_stream.specs.declared.packet.StreamPacket.{StreamPacket}
use Rattle.m17_control.specs.declared.event.Event.{Event}
use Rattle.m17_control.specs.declared.item.Item.{Item}
use Rattle.m17_module.specs.Items.{items_given}
use Rattle.m17_lane.specs.Ends.{TrailEnd}
use Rattle.m17_lane.specs.Orders.{items_of}
use Rattle.m17_worker.specs.Offers.{Try}
use Rattle.m17_reflect.specs.Links.{At, Link, setup_at}
use Rattle.m17_reflect.specs.Run.{Run}
use Rattle.m17_reflect.specs.Trails.{AreTrails, events_of}
use Rattle.m17_reflect.specs.Queues.{Carriers, Carry, QueuesCarry, carried, row_at}
use Rattle.m17_laws.specs.BothEnds.{IsInATrail}
use Rattle.m17_laws.proofs.Listed.{beside, of_option}
use Rattle.m17_laws.proofs.Given.{Speaks, gives_out}

abbrev item_in : Try → Item
item_in t = t.item

-- what a queue took was tried, and what was tried was given
was_given : (events : List Event) (c : Carriers) (carry : Carry events c) (q : ℕ) (queue : TrailEnd Item) (item : Item)
    → At c.queues q queue → Contains (items_of queue.order) item → Contains (items_given c.setup events) item
was_given events c carry q queue item at h =
    let (one, there, is) = is_mapped_from_one item_in
    (filter (λ t. t.queued && (q == t.item.member.place)) carry.tries) item
    (subst (λ l. Contains l item) (carry.each q queue at).order h) in
    let was = (filtered_was_in (λ t. t.queued && (q == t.item.member.place)) carry.tries one there).0 in
    subst (λ l. Contains l item) carry.all_items
    (subst (Contains (map item_in carry.tries)) is (mapped_is_in item_in carry.tries one was))

-- which row a queue that carried something is in
row_cases : (o : Option (List (TrailEnd Item))) (q : ℕ) (queue : TrailEnd Item)
    → slice_get (option_map_or (λ row. row) o []) q ≡ Some queue
    → (row : List (TrailEnd Item)) × (o ≡ Some row) × (slice_get row q ≡ Some queue)
row_cases None q queue e = absurd (none-some queue e)
row_cases (Some row) q queue e = (row, refl, e)

module _ {E M B : Type 0} where
  -- what a queue carried was given by the events of its module's trail
  pub record GivenIn (run : Run E M B) (m : ℕ) (item : Item) : Type 0 where
    pub trail : TrailEnd Event
    pub there : At run.handed.trails m trail
    pub given : Contains (items_given (setup_at run.plan m) (events_of trail)) item

  pub given_in : (run : Run E M B) (links : List Link) (m q : ℕ) (item : Item)
      → AreTrails run.plan links run.handed.trails → QueuesCarry run
      → Contains (carried run.handed.queues m q) item → GivenIn run m item
  given_in run links m q item trails queues h =
      let (queue, at_queue, there) = of_option (λ (queue : TrailEnd Item). items_of queue.order)
      (slice_get (row_at run.handed.queues m) q) item h in
      let (row, at_row, at_q) = row_cases (slice_get run.handed.queues m) q queue at_queue in
      let (trail, at_trail) = beside run.handed.queues run.handed.trails m row
      (queues.count ∙ sym trails.count) at_row in
      let (missed, at_missed) = beside run.handed.queues run.handed.missed m row
      (queues.count ∙ sym queues.missed_count) at_row in
      record {
        trail = trail;
        there = at_trail;
        given =
            was_given (events_of trail) _ (queues.each m trail row missed at_trail at_row at_missed) q queue item at_q there;
      }

  -- so a voice packet that a queue carried is given out in a trail
  pub in_a_trail : (run : Run E M B) (links : List Link) (m q : ℕ) (item : Item) (packet : StreamPacket)
      → AreTrails run.plan links run.handed.trails → QueuesCarry run
      → Contains (carried run.handed.queues m q) item → Speaks packet item.body → IsInATrail run packet
  in_a_trail run links m q item packet trails queues h speak =
      let is = given_in run links m q item trails queues h in
      let (n, gives) = gives_out (setup_at run.plan m) (events_of is.trail) item packet is.given speak in
      record { m = m; trail = is.trail; there = is.there; n = n; gives = gives }
