-- For proofs: jobs as they are made, and what they are without their devices.
use Rattle.std.specs.Prelude.{◌≡◌, ℕ, suc, ◌<◌, false, List, [], ◌∷◌, length, All, None}
use Rattle.m17_control.specs.Forms.{IsModule}
use Rattle.m17_module.specs.StandsFor.{StandsFor}
use Rattle.m17_receiver.specs.declared.receiver.Receiver.{Receiver}
use Rattle.m17_receiver.specs.Ready.{IsMade}
use Rattle.m17_worker.specs.declared.worker.Worker.{Worker}
use Rattle.m17_sender.specs.declared.sender.Sender.{Sender}
use Rattle.m17_sender.specs.Places.{cells_of}
use Rattle.m17_plan.specs.declared.plan.Plan.{Plan}
use Rattle.m17_plan.specs.Planned.{module_setup}
use Rattle.m17_reflect.specs.Jobs.{IsReceiverOf, IsSenderOf}
use Rattle.m17_plan.specs.Planned.{module_count}

-- a receiver that has done nothing, as the plan has it
pub record IsNewReceiver {E B : Type 0} (plan : Plan) (i : ℕ) (j : Receiver E B) : Type 0 where
  pub of : IsReceiverOf plan i j
  pub few : j.link < 4
  pub places : j.places ≡ plan.places
  pub modules : j.modules ≡ plan.modules
  pub made : IsMade j
  pub post : j.post ≡ []
  pub lost : j.lost ≡ false
  pub trace_failed : j.trace_failed ≡ false

-- P holds of each, with its number, counted from k
abbrev pub EachFrom : {A : Type 0} → (ℕ → A → Type 0) → ℕ → List A → Type 0
EachFrom P k [] = Unit {0}
EachFrom P k (x ∷ xs) = P k x × EachFrom P (suc k) xs

-- a worker that has done nothing, as the plan has the module of its letter
pub record IsNewWorker {B : Type 0} (plan : Plan) (links : ℕ) (j : Worker B) : Type 0 where
  pub letter : IsModule j.letter
  pub links_are : j.links ≡ links
  pub limit : j.limit ≡ plan.limit
  pub setup : j.module.setup ≡ module_setup plan j.letter
  pub stands : StandsFor j.module []
  pub patient : j.offers.patient ≡ plan.patient
  pub missed : j.offers.missed ≡ 0
  pub cells : length j.tape ≡ plan.entries
  pub none : All (λ cell. cell ≡ None) j.tape
  pub basket : j.basket ≡ []
  pub book_failed : j.book_failed ≡ false

-- a sender that has done nothing, as the plan has it
pub record IsNewSender {M : Type 0} (plan : Plan) (s : Sender M) : Type 0 where
  pub of : IsSenderOf plan s
  pub rows : length s.held.items ≡ module_count plan
  pub cells : All (λ row. length row ≡ plan.places) (cells_of s)
  pub none : All (λ row. All (λ cell. cell ≡ None) row) (cells_of s)

-- the receiver without its devices
abbrev pub bare : {E B : Type 0} → Receiver E B → Receiver (Unit {0}) (Unit {0})
bare j = record {
  link = j.link;
  modules = j.modules;
  places = j.places;
  patient = j.patient;
  ear = tt;
  trace = tt;
  directory = j.directory;
  post = j.post;
  inboxes = j.inboxes;
  door = j.door;
  notes = j.notes;
  order = j.order;
  seat = j.seat;
  tape = j.tape;
  lost = j.lost;
  trace_failed = j.trace_failed;
}

-- the worker without its book
abbrev pub bare_worker : {B : Type 0} → Worker B → Worker (Unit {0})
bare_worker j = record {
  letter = j.letter;
  links = j.links;
  limit = j.limit;
  «module» = j.module;
  basket = j.basket;
  book = tt;
  inbox = j.inbox;
  offers = j.offers;
  order = j.order;
  seat = j.seat;
  tape = j.tape;
  book_failed = j.book_failed;
}

-- the sender as it was, but for its mouths
pub record IsSameBut {M N : Type 0} (before : Sender M) (after : Sender N) : Type 0 where
  pub name : after.name ≡ before.name
  pub queues : after.queues ≡ before.queues
  pub door : after.door ≡ before.door
  pub notes : after.notes ≡ before.notes
  pub held : after.held ≡ before.held
  pub order : after.order ≡ before.order
  pub places : after.places ≡ before.places
