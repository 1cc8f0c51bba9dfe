-- The jobs of a run before they go, as its plan has them.
use Rattle.std.specs.Prelude.{◌≡◌, ◌+◌, ℕ, List, ◌++◌, length, map, All, slice_get, Some, None}
use Rattle.m17_lane.specs.Rows.{IsNewRow}
use Rattle.m17_roll.specs.Seat.{AreNew}
use Rattle.m17_receiver.specs.declared.receiver.Receiver.{Receiver}
use Rattle.m17_worker.specs.declared.worker.Worker.{Worker}
use Rattle.m17_sender.specs.declared.sender.Sender.{Sender}
use Rattle.m17_plan.specs.declared.plan.Plan.{Plan}
use Rattle.m17_reflect.specs.Ends.{AreLaid, ends_of}
use Rattle.m17_plan.specs.Planned.{link_setup, letter_of, module_count, setup_at}

-- The receiver of a link, before it goes.
pub record IsReceiverOf {E B : Type 0} (plan : Plan) (i : ℕ) (j : Receiver E B) : Type 0 where
  pub link : j.link ≡ i
  pub setup : j.directory.setup ≡ link_setup plan i
  pub patient : j.patient ≡ plan.patient
  pub cells : length j.tape.items ≡ plan.entries
  pub none : All (λ cell. cell ≡ None) j.tape.items

abbrev pub AreReceivers : {E B : Type 0} → Plan → List (Receiver E B) → Type 0
AreReceivers {E} {B} plan js =
    (i : ℕ) (j : Receiver E B) → slice_get js i ≡ Some j → IsReceiverOf plan i j

-- The worker of a module, before it goes.
pub record IsWorkerOf {B : Type 0} (plan : Plan) (links m : ℕ) (j : Worker B) : Type 0 where
  pub letter : j.letter ≡ letter_of plan m
  pub links_are : j.links ≡ links
  pub limit : j.limit ≡ plan.limit
  pub setup : j.module.setup ≡ setup_at plan m
  pub patient : j.offers.patient ≡ plan.patient
  pub cells : length j.tape ≡ plan.entries
  pub queues : IsNewRow j.offers.queues.items
  pub count : length j.offers.queues.items ≡ plan.places
  pub missed : j.offers.missed ≡ 0

abbrev pub AreWorkers : {B : Type 0} → Plan → ℕ → List (Worker B) → Type 0
AreWorkers {B} plan links ws =
    (m : ℕ) (j : Worker B) → slice_get ws m ≡ Some j → IsWorkerOf plan links m j

-- The sender, before it goes.
pub record IsSenderOf {M : Type 0} (plan : Plan) (s : Sender M) : Type 0 where
  pub name : s.name ≡ plan.name
  pub places : s.places ≡ plan.places

-- The jobs of a run of this plan, a receiver for each link and a worker for each module, with the ends of new
-- lanes and the seats of a new roll: those of the receivers, and then those of the workers.
pub record AreJobs {E M B : Type 0} (plan : Plan) (links : ℕ) (js : List (Receiver E B))
    (ws : List (Worker B)) (s : Sender M) : Type 0 where
  pub laid : AreLaid links (module_count plan) plan.places (ends_of js ws s)
  pub receivers : AreReceivers plan js
  pub workers : AreWorkers plan links ws
  pub sender : IsSenderOf plan s
  pub seats : AreNew plan.places (links + module_count plan)
      (map (λ j. j.seat) js ++ map (λ w. w.seat) ws)
