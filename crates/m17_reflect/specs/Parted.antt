-- For proofs: what jobs are made of, taken out of them.
use Rattle.std.specs.Prelude.{◌≡◌, ℕ, List, [], ◌∷◌, ◌++◌, map, Vec}
use Rattle.std.specs.List.{list_any}
use Rattle.m17_reflect.specs.Groups.{Staff}
use Rattle.m17_lane.specs.Trails.{AreTrailsOfOnes}
use Rattle.m17_receiver.specs.declared.receiver.Receiver.{Receiver}
use Rattle.m17_worker.specs.declared.worker.Worker.{Worker}
use Rattle.m17_sender.specs.declared.sender.Sender.{Sender}
use Rattle.m17_reflect.specs.Rows.{AreOfOnes}
use Rattle.m17_reflect.specs.declared.receivers.ReceiverParts.{ReceiverParts}
use Rattle.m17_reflect.specs.declared.workers.WorkerParts.{WorkerParts}
use Rattle.m17_reflect.specs.declared.rooms.Rooms.{Rooms}
use Rattle.m17_reflect.specs.declared.rooms.TrailRooms.{TrailRooms}
use Rattle.m17_reflect.specs.Rooms.{IsRoom, HasRooms}
use Rattle.m17_reflect.specs.declared.parted.Parted.{Parted}
use Rattle.m17_reflect.specs.declared.parted.Voice.{Voice}

-- jobs that can be taken apart: one is the sender, and the ends of their orders stand together
pub record CanPart {E M B : Type 0} (receivers : Staff (Receiver E B)) (workers : Staff (Worker B))
    (senders : Staff (Sender M)) : Type 0 where
  pub one : (s : Sender M) × (senders.jobs ≡ s ∷ [])
  pub to_receivers : AreOfOnes receivers.orders (map (λ j. j.order) receivers.jobs)
  pub to_workers : AreOfOnes workers.orders (map (λ w. w.order) workers.jobs)
  pub to_sender : AreOfOnes senders.orders (map (λ s. s.order) senders.jobs)

-- there is room for what they are made of, and for the trails of their lanes
pub record HasRoom {E B X Y Z : Type 0} (links modules : ℕ) (rooms : Rooms) (ears : Vec E X)
    (traces : Vec B Y) (books : Vec B Z) : Type 0 where
  pub of_ears : IsRoom links ears
  pub of_traces : IsRoom links traces
  pub of_books : IsRoom modules books
  pub of_lanes : (places : ℕ) × HasRooms links modules places rooms

-- these receivers were made of this
pub record AreOfReceivers {E B : Type 0} (js : List (Receiver E B)) (p : ReceiverParts E B) : Type 0 where
  pub ears : p.ears.items ≡ map (λ j. j.ear) js
  pub traces : p.traces.items ≡ map (λ j. j.trace) js
  pub columns : p.columns.items ≡ map (λ j. j.inboxes) js
  pub doors : p.doors.items ≡ map (λ j. j.door) js
  pub noted : p.noted.items ≡ map (λ j. j.notes) js
  pub tapes : p.tapes.items ≡ map (λ j. j.tape) js
  pub lost : p.lost ≡ list_any (λ j. j.lost) js
  pub failed : p.failed ≡ list_any (λ j. j.trace_failed) js

-- these workers were made of this
pub record AreOfWorkers {B : Type 0} (ws : List (Worker B)) (p : WorkerParts B) : Type 0 where
  pub books : p.books.items ≡ map (λ w. w.book) ws
  pub inboxes : p.inboxes.items ≡ map (λ w. w.inbox) ws
  pub queues : p.queues.items ≡ map (λ w. w.offers.queues) ws
  pub tapes : p.tapes.items ≡ map (λ w. w.tape) ws
  pub missed : p.missed.items ≡ map (λ w. w.offers.missed) ws
  pub admitted : p.admitted.items ≡ map (λ w. w.module.admitted) ws
  pub failed : p.failed ≡ list_any (λ w. w.book_failed) ws

-- the sender was made of this
pub record IsOfSender {M : Type 0} (s : Sender M) (p : Voice M) : Type 0 where
  pub name : p.name ≡ s.name
  pub mouths : p.mouths ≡ s.mouths
  pub queues : p.queues ≡ s.queues
  pub door : p.door ≡ s.door
  pub notes : p.notes ≡ s.notes
  pub held : p.held ≡ s.held

-- these jobs were taken apart, and the lanes of their orders finished; the other rooms are as they were
pub record IsParted {E M B : Type 0} (receivers : Staff (Receiver E B)) (workers : Staff (Worker B))
    (senders : Staff (Sender M)) (rooms : TrailRooms) (p : Parted E M B) : Type 0 where
  pub links : AreOfReceivers receivers.jobs p.links
  pub modules : AreOfWorkers workers.jobs p.modules
  pub voice : (s : Sender M) → senders.jobs ≡ s ∷ [] → IsOfSender s p.voice
  pub seats : p.seats.items ≡ map (λ j. j.seat) receivers.jobs ++ map (λ w. w.seat) workers.jobs
  pub to_receivers : AreTrailsOfOnes receivers.orders (map (λ j. j.order) receivers.jobs)
      p.trails.to_receivers.items
  pub to_workers : AreTrailsOfOnes workers.orders (map (λ w. w.order) workers.jobs)
      p.trails.to_workers.items
  pub to_sender : AreTrailsOfOnes senders.orders (map (λ s. s.order) senders.jobs)
      p.trails.to_sender.items
  pub shells : p.trails.shells ≡ rooms.shells
  pub inboxes : p.trails.inboxes ≡ rooms.inboxes
  pub queues : p.trails.queues ≡ rooms.queues
  pub notes : p.trails.notes ≡ rooms.notes
