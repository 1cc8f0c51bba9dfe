-- What is made before a run starts.
use Rattle.std.specs.Prelude.{◌≡◌, ◌+◌, ℕ, List, [], ◌∷◌, ◌++◌, map, length, Vec}
use Rattle.std.specs.List.{All}
use Rattle.m17_control.specs.Modules.{letters_of}
use Rattle.m17_lane.specs.Ends.{PushEnd, PopEnd}
use Rattle.m17_crew.specs.declared.order.Order.{Order}
use Rattle.m17_roll.specs.Seat.{AreNew}
use Rattle.m17_receiver.specs.declared.receiver.Receiver.{Receiver}
use Rattle.m17_worker.specs.declared.worker.Worker.{Worker}
use Rattle.m17_sender.specs.declared.sender.Sender.{Sender}
use Rattle.m17_plan.specs.declared.plan.Plan.{Plan}
use Rattle.m17_reflect.specs.declared.site.Site.{Site}
use Rattle.m17_reflect.specs.Bare.{bare, bare_worker, EachFrom, IsNewReceiver, IsNewWorker, IsNewSender}
use Rattle.m17_reflect.specs.Ends.{AreLaid, IsNewLine, ends_of}
use Rattle.m17_plan.specs.Planned.{module_count}
use Rattle.m17_reflect.specs.Rooms.{IsRoom, HasRooms}

-- All jobs are made, but for their devices: the receivers and the workers are these without them.
pub record AreBare {M : Type 0} (plan : Plan) (links : ℕ)
    (js : List (Receiver (Unit {0}) (Unit {0}))) (ws : List (Worker (Unit {0}))) (s : Sender M)
    : Type 0 where
  pub laid : AreLaid links (module_count plan) plan.places (ends_of js ws s)
  pub receivers : EachFrom (IsNewReceiver plan) 0 js
  pub receiver_count : length js ≡ links
  pub workers : All (IsNewWorker plan links) ws
  pub letters : map (λ w. w.letter) ws ≡ letters_of plan.modules
  pub sender : IsNewSender plan s
  pub seats : AreNew plan.places (links + module_count plan)
      (map (λ j. j.seat) js ++ map (λ w. w.seat) ws)

-- The ends of the orders of jobs, by job, in lanes that hold two.
abbrev pub AreOrdersOf : {A : Type 0} → (A → PopEnd Order) → List (PushEnd Order) → List A → Type 0
AreOrdersOf order ends jobs = IsNewLine 2 ends (map order jobs)

-- No job is there yet and none runs, and there is room for `count` to be there and to run.
pub record IsVacant {V W Y Z : Type 0} (count : ℕ) (js : Vec V Y) (rs : Vec W Z) : Type 0 where
  pub jobs : IsRoom count js
  pub running : IsRoom count rs

-- All that a run over these links needs but its devices: its jobs without them, each with a lane of
-- orders, where the jobs come, and room for what comes back.
pub record IsSite {E M B X Y Z : Type 0} (links : ℕ) (site : Site E M B X Y Z) : Type 0 where
  pub made : AreBare site.plan links (map bare site.receivers.items)
      (map bare_worker site.workers.items) site.sender
  pub to_receivers : AreOrdersOf (λ j. j.order) site.staffed.receivers.orders.items
      (map bare site.receivers.items)
  pub to_workers : AreOrdersOf (λ w. w.order) site.staffed.workers.orders.items
      (map bare_worker site.workers.items)
  pub to_sender : AreOrdersOf (λ s. s.order) site.staffed.senders.orders.items (site.sender ∷ [])
  pub receivers : IsVacant links site.staffed.receivers.jobs site.staffed.receivers.running
  pub workers : IsVacant (module_count site.plan)
      site.staffed.workers.jobs site.staffed.workers.running
  pub sender : IsVacant 1 site.staffed.senders.jobs site.staffed.senders.running
  pub rooms : HasRooms links (module_count site.plan) site.plan.places site.staffed.rooms
