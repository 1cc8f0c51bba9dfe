-- What a worker begins with.
use Rattle.std.specs.Prelude.{◌≡◌, ◌<◌, ◌≤◌, false, [], None}
use Rattle.std.specs.List.{All}
use Rattle.m17_control.specs.Forms.{IsModule}
use Rattle.m17_ports.specs.Told.{StartsEmpty}
use Rattle.m17_ports.specs.Book.{BookTold}
use Rattle.m17_roll.specs.Seat.{HasLists}
use Rattle.m17_lane.specs.Rows.{IsNewRow, IsNewPopper}
use Rattle.m17_module.specs.StandsFor.{StandsFor}
use Rattle.m17_worker.specs.declared.worker.Worker.{Worker}
use Rattle.m17_worker.specs.Offers.{AreQueues}

-- Nothing was written, popped, queued, left out, claimed or given back, and no cell is filled.
pub record IsUnused {B L : Type 0} (told : B → BookTold L) (j : Worker B) : Type 0 where
  pub book : StartsEmpty (told j.book).written
  pub book_failed : j.book_failed ≡ false
  pub basket : j.basket ≡ []
  pub inbox : IsNewPopper j.inbox
  pub queues : IsNewRow j.offers.queues.items
  pub missed : j.offers.missed ≡ 0
  pub seat : HasLists [] [] [] j.seat
  pub tape : All (λ cell. cell ≡ None) j.tape

-- The worker's letter is A to Z, there are 1 to 4 links, its module is as made, with the worker's
-- limit and of at most 256 places, each with a queue; and it is unused.
pub record IsFit {B L : Type 0} (told : B → BookTold L) (j : Worker B) : Type 0 where
  pub letter : IsModule j.letter
  pub some_link : 0 < j.links
  pub links : j.links ≤ 4
  pub limit : j.module.setup.limit ≡ j.limit
  pub places : j.module.setup.places ≤ 256
  pub queues : AreQueues j.module.setup.places j.offers.queues.items
  pub stands : StandsFor j.module []
  pub unused : IsUnused told j

-- The worker can be started: no order was popped yet.
pub record IsReady {B L : Type 0} (told : B → BookTold L) (j : Worker B) : Type 0 where
  pub fit : IsFit told j
  pub order : IsNewPopper j.order
