-- What each queue carries: what its module gives for its place, but for what was left out and
-- counted.
use Rattle.std.specs.Prelude.{◌≡◌, ℕ, ◌-◌, ◌^◌, ◌≤◌, min, Bool, true, false, List, [], ◌∷◌, length, map, take, slice_get}
use Rattle.std.specs.List.{flat_map}
use Rattle.std.specs.Option.{option_map_or}
use Rattle.m17_control.specs.declared.event.Event.{Event}
use Rattle.m17_control.specs.declared.item.Item.{Item}
use Rattle.m17_module.specs.Items as module_items
use Rattle.m17_lane.specs.Ends.{TrailEnd}
use Rattle.m17_lane.specs.Orders.{items_of}
use Rattle.m17_worker.specs.Offers.{Try, may_be_missed, queued_for, missed_for, count_missed}
use Rattle.m17_reflect.specs.Links.{At, setup_at}
use Rattle.m17_reflect.specs.Run.{Run, module_count}
use Rattle.m17_reflect.specs.Trails.{events_of}

-- A queue's order is what it took of the items that were tried there, and each of it was popped;
-- what was left out came back refused, in order.
pub record IsQueue (tries : List Try) (place : ℕ) (queue : TrailEnd Item) : Type 0 where
  pub order : items_of queue.order ≡ queued_for tries place
  pub popped : queue.popped ≡ items_of queue.order
  pub refused : queue.refused ≡ missed_for tries place ∷ []

-- The item was left out after the `earlier` tries: it is a Frame, an Echo or a Ping, the run isn't patient, and by then
-- its queue had taken 64 items or more in all.
pub record IsLeftOut (patient : Bool) (earlier : List Try) (item : Item) : Type 0 where
  pub may_be : may_be_missed item.body ≡ true
  pub impatient : patient ≡ false
  pub full : 64 ≤ length (queued_for earlier item.member.place)

-- What is known of the queues of one module: how it is made, whether the run is patient, the queues
-- by place, and how many items were left out at all of them.
pub record Carriers : Type 0 where
  pub setup : module_items.Setup
  pub patient : Bool
  pub queues : List (TrailEnd Item)
  pub missed : ℕ

-- All items that the module's events give were tried, in order: each is in the queue of its place,
-- or was left out and counted. A count that has come to 2^64 - 1 stays there.
pub record Carry (events : List Event) (c : Carriers) : Type 0 where
  pub tries : List Try
  pub all_items : map (λ (t : Try). t.item) tries ≡ module_items.items_given c.setup events
  pub count : length c.queues ≡ c.setup.places
  pub each : (q : ℕ) (queue : TrailEnd Item) → At c.queues q queue → IsQueue tries q queue
  pub left_out : (n : ℕ) (t : Try) → At tries n t → t.queued ≡ false →
      IsLeftOut c.patient (take n tries) t.item
  pub missed : c.missed ≡ min (count_missed tries) (2 ^ 64 - 1)

-- The queues of each module carry what its trail gives.
pub record QueuesCarry {E M B : Type 0} (run : Run E M B) : Type 0 where
  pub count : length run.handed.queues ≡ module_count run.plan
  pub missed_count : length run.handed.missed ≡ module_count run.plan
  pub each : (m : ℕ) (trail : TrailEnd Event) (queues : List (TrailEnd Item)) (missed : ℕ) →
      At run.handed.trails m trail → At run.handed.queues m queues → At run.handed.missed m missed →
      Carry (events_of trail) (record {
        setup = setup_at run.plan m;
        patient = run.plan.patient;
        queues = queues;
        missed = missed;
      })

-- What queue q of module m carried, in order; nothing where there is no such queue.
abbrev pub row_at : List (List (TrailEnd Item)) → ℕ → List (TrailEnd Item)
row_at queues m = option_map_or (λ row. row) (slice_get queues m) []

abbrev pub carried : List (List (TrailEnd Item)) → ℕ → ℕ → List Item
carried queues m q =
    option_map_or (λ (queue : TrailEnd Item). items_of queue.order)
    (slice_get (row_at queues m) q) []

-- All that the queues carried, queue by queue.
abbrev pub all_carried : List (List (TrailEnd Item)) → List Item
all_carried queues =
    flat_map (λ row. flat_map (λ (queue : TrailEnd Item). items_of queue.order) row) queues
