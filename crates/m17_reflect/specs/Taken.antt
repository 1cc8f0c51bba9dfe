-- For proofs: how the ends of lanes come to jobs, the last of each first.
use Rattle.std.specs.Prelude.{◌≡◌, ℕ, List, ◌++◌, map, vec_len}
use Rattle.m17_receiver.specs.declared.receiver.Receiver.{Receiver}
use Rattle.m17_worker.specs.declared.worker.Worker.{Worker}
use Rattle.m17_reflect.specs.declared.bare_receivers.LinkEnds.{LinkEnds}
use Rattle.m17_sender.specs.declared.sender.Sender.{Sender}
use Rattle.m17_reflect.specs.declared.bare_workers.ModuleEnds.{ModuleEnds}
use Rattle.m17_reflect.specs.declared.bare_sender.SenderEnds.{SenderEnds}

-- there are ends for each of the links
pub record HaveLinks (links : ℕ) (ends : LinkEnds) : Type 0 where
  pub inboxes : vec_len ends.inboxes ≡ links
  pub doors : vec_len ends.doors ≡ links
  pub notes : vec_len ends.notes ≡ links
  pub orders : vec_len ends.orders ≡ links

-- the receivers have the ends that are left no more
pub record AreTakenFromLinks {E B : Type 0} (before after : LinkEnds) (js : List (Receiver E B))
    : Type 0 where
  pub inboxes : before.inboxes.items ≡ after.inboxes.items ++ map (λ j. j.inboxes) js
  pub doors : before.doors.items ≡ after.doors.items ++ map (λ j. j.door) js
  pub notes : before.notes.items ≡ after.notes.items ++ map (λ j. j.notes) js
  pub orders : before.orders.items ≡ after.orders.items ++ map (λ j. j.order) js

-- the receivers have all of the ends
pub record AreFromLinks {E B : Type 0} (ends : LinkEnds) (js : List (Receiver E B)) : Type 0 where
  pub inboxes : ends.inboxes.items ≡ map (λ j. j.inboxes) js
  pub doors : ends.doors.items ≡ map (λ j. j.door) js
  pub notes : ends.notes.items ≡ map (λ j. j.notes) js
  pub orders : ends.orders.items ≡ map (λ j. j.order) js

-- there are ends for each of the modules
pub record HaveModules (modules : ℕ) (ends : ModuleEnds) : Type 0 where
  pub inboxes : vec_len ends.inboxes ≡ modules
  pub queues : vec_len ends.queues ≡ modules
  pub orders : vec_len ends.orders ≡ modules

-- the workers have the ends that are left no more
pub record AreTakenFromModules {B : Type 0} (before after : ModuleEnds) (ws : List (Worker B))
    : Type 0 where
  pub inboxes : before.inboxes.items ≡ after.inboxes.items ++ map (λ w. w.inbox) ws
  pub queues : before.queues.items ≡ after.queues.items ++ map (λ w. w.offers.queues) ws
  pub orders : before.orders.items ≡ after.orders.items ++ map (λ w. w.order) ws

-- the workers have all of the ends
pub record AreFromModules {B : Type 0} (ends : ModuleEnds) (ws : List (Worker B)) : Type 0 where
  pub inboxes : ends.inboxes.items ≡ map (λ w. w.inbox) ws
  pub queues : ends.queues.items ≡ map (λ w. w.offers.queues) ws
  pub orders : ends.orders.items ≡ map (λ w. w.order) ws

-- the sender has these ends
pub record HasSenderEnds {M : Type 0} (ends : SenderEnds) (s : Sender M) : Type 0 where
  pub queues : s.queues ≡ ends.queues
  pub door : s.door ≡ ends.door
  pub notes : s.notes ≡ ends.notes
  pub order : s.order ≡ ends.order
