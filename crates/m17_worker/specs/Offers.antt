-- What the queues of a module's places are offered, and what became of it.
use Rattle.std.specs.Prelude.{◌≡◌, ◌==◌, ◌&&◌, ℕ, zero, suc, ◌+◌, ◌-◌, ◌^◌, ◌≤◌, min, Bool, true, false, not, List, map, filter, count_by, length, take, slice_get, vec_capacity, Some, IsSomeAnd}
use Rattle.std.specs.List.{All}
use Rattle.m17_control.specs.declared.item.Item.{Item}
use Rattle.m17_control.specs.declared.item.Said.{Said}
use Rattle.m17_control.specs.declared.item.Said.TheVariants.{Frame, Echo, Ping}
use Rattle.m17_lane.specs.Ends.{PushEnd}
use Rattle.m17_lane.specs.Rows.{grow_each}
use Rattle.m17_worker.specs.declared.offers.Offered.{Offered}
use Rattle.m17_worker.specs.declared.offers.Offered.TheVariants.{Queued, Missed}
use Rattle.m17_worker.specs.declared.offers.LaneOffers.{LaneOffers}

-- An item that was offered, and whether its queue took it; else it was left out.
pub record Try : Type 0 where
  pub item : Item
  pub queued : Bool

abbrev pub is_queued : Offered → Bool
is_queued Queued = true
is_queued Missed = false

abbrev pub try_of : Item → Offered → Try
try_of item answer = record { item = item; queued = is_queued answer }

-- What may be left out where its queue is full: a Frame, an Echo or a Ping. All else waits.
abbrev pub may_be_missed : Said → Bool
may_be_missed (Frame position packet) = true
may_be_missed (Echo position packet) = true
may_be_missed Ping = true
may_be_missed _ = false

-- What the queue of a place took of the items offered, in order, and what was left out there.
abbrev pub queued_for : List Try → ℕ → List Item
queued_for tries place =
    map (λ t. t.item) (filter (λ t. t.queued && (place == t.item.member.place)) tries)

abbrev pub missed_for : List Try → ℕ → List Item
missed_for tries place =
    map (λ t. t.item) (filter (λ t. not t.queued && (place == t.item.member.place)) tries)

-- How many items were left out at all places.
abbrev pub count_missed : List Try → ℕ
count_missed tries = count_by (λ t. not t.queued) tries

-- A count that goes on by a number. One that has come to 2^64 - 1 stays there.
abbrev pub counted_on : ℕ → ℕ → ℕ
counted_on count zero = count
counted_on count (suc more) = min (count + suc more) (2 ^ 64 - 1)

-- An item was left out behind these: it may be, the offers aren't patient, and its queue had taken
-- at least 64 items by then.
pub record IsLeftOut (offers : LaneOffers) (earlier : List Try) (item : Item) : Type 0 where
  pub may_be : may_be_missed item.body ≡ true
  pub impatient : offers.patient ≡ false
  pub full : IsSomeAnd (slice_get offers.queues.items item.member.place)
      (λ q. 64 ≤ length q.pushed + length (queued_for earlier item.member.place))

-- These items were offered, in this order: each was queued, or left out and counted.
pub record AreTried (tries : List Try) (before after : LaneOffers) : Type 0 where
  pub queues : after.queues.items
      ≡ grow_each (queued_for tries) (missed_for tries) 0 before.queues.items
  pub left_out : (n : ℕ) (t : Try) → slice_get tries n ≡ Some t → t.queued ≡ false →
      IsLeftOut before (take n tries) t.item
  pub missed : after.missed ≡ counted_on before.missed (count_missed tries)
  pub patient : after.patient ≡ before.patient
  pub room : vec_capacity after.queues ≡ vec_capacity before.queues

-- All of these items were offered, in this order.
pub record AreOffered (items : List Item) (before after : LaneOffers) : Type 0 where
  pub tries : List Try
  pub of_all : map (λ t. t.item) tries ≡ items
  pub tried : AreTried tries before after

-- The end of a lane that has one producer and holds 64 items.
abbrev pub IsQueue : PushEnd Item → Type 0
IsQueue q = (q.producers ≡ 1) × (q.capacity ≡ 64)

-- There is a queue for each of the places.
abbrev pub AreQueues : ℕ → List (PushEnd Item) → Type 0
AreQueues places queues = (length queues ≡ places) × All IsQueue queues
