-- What comes out of jobs that are taken apart.
use Rattle.std.specs.Prelude.{◌≡◌, ◌≤◌, ◌||◌, ℕ, ◌+◌, List, ◌++◌, map, vec_len, vec_capacity}
use Rattle.std.specs.List.{list_any}
use Rattle.m17_receiver.specs.declared.receiver.Receiver.{Receiver}
use Rattle.m17_worker.specs.declared.worker.Worker.{Worker}
use Rattle.m17_reflect.specs.declared.receivers.ReceiverParts.{ReceiverParts}
use Rattle.m17_reflect.specs.declared.workers.WorkerParts.{WorkerParts}

module _ {E B : Type 0} where
  -- What these receivers are made of, each thing behind those that were there, in the order of the
  -- receivers.
  pub record AreReceiverParts (js : List (Receiver E B)) (before after : ReceiverParts E B)
      : Type 0 where
    pub ears : after.ears.items ≡ before.ears.items ++ map (λ j. j.ear) js
    pub traces : after.traces.items ≡ before.traces.items ++ map (λ j. j.trace) js
    pub columns : after.columns.items ≡ before.columns.items ++ map (λ j. j.inboxes) js
    pub doors : after.doors.items ≡ before.doors.items ++ map (λ j. j.door) js
    pub noted : after.noted.items ≡ before.noted.items ++ map (λ j. j.notes) js
    pub orders : after.orders.items ≡ before.orders.items ++ map (λ j. j.order) js
    pub tapes : after.tapes.items ≡ before.tapes.items ++ map (λ j. j.tape) js
    pub lost : after.lost ≡ (before.lost || list_any (λ j. j.lost) js)
    pub failed : after.failed ≡ (before.failed || list_any (λ j. j.trace_failed) js)

  -- There is room for the parts of `count` receivers more.
  pub record HasReceiverRoom (count : ℕ) (parts : ReceiverParts E B) : Type 0 where
    pub ears : vec_len parts.ears + count ≤ vec_capacity parts.ears
    pub traces : vec_len parts.traces + count ≤ vec_capacity parts.traces
    pub columns : vec_len parts.columns + count ≤ vec_capacity parts.columns
    pub doors : vec_len parts.doors + count ≤ vec_capacity parts.doors
    pub noted : vec_len parts.noted + count ≤ vec_capacity parts.noted
    pub orders : vec_len parts.orders + count ≤ vec_capacity parts.orders
    pub tapes : vec_len parts.tapes + count ≤ vec_capacity parts.tapes

module _ {B : Type 0} where
  -- What these workers are made of, each thing behind those that were there, in the order of the
  -- workers.
  pub record AreWorkerParts (js : List (Worker B)) (before after : WorkerParts B) : Type 0 where
    pub books : after.books.items ≡ before.books.items ++ map (λ j. j.book) js
    pub inboxes : after.inboxes.items ≡ before.inboxes.items ++ map (λ j. j.inbox) js
    pub queues : after.queues.items ≡ before.queues.items ++ map (λ j. j.offers.queues) js
    pub orders : after.orders.items ≡ before.orders.items ++ map (λ j. j.order) js
    pub tapes : after.tapes.items ≡ before.tapes.items ++ map (λ j. j.tape) js
    pub missed : after.missed.items ≡ before.missed.items ++ map (λ j. j.offers.missed) js
    pub admitted : after.admitted.items ≡ before.admitted.items ++ map (λ j. j.module.admitted) js
    pub failed : after.failed ≡ (before.failed || list_any (λ j. j.book_failed) js)

  -- There is room for the parts of `count` workers more.
  pub record HasWorkerRoom (count : ℕ) (parts : WorkerParts B) : Type 0 where
    pub books : vec_len parts.books + count ≤ vec_capacity parts.books
    pub inboxes : vec_len parts.inboxes + count ≤ vec_capacity parts.inboxes
    pub queues : vec_len parts.queues + count ≤ vec_capacity parts.queues
    pub orders : vec_len parts.orders + count ≤ vec_capacity parts.orders
    pub tapes : vec_len parts.tapes + count ≤ vec_capacity parts.tapes
    pub missed : vec_len parts.missed + count ≤ vec_capacity parts.missed
    pub admitted : vec_len parts.admitted + count ≤ vec_capacity parts.admitted
