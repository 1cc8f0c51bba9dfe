-- What a receiver begins with.
use Rattle.std.specs.Prelude.{◌≡◌, ◌<◌, ◌≤◌, false, [], All, length, None}
use Rattle.m17_control.specs.Modules.{letters_of}
use Rattle.m17_ports.specs.Told.{StartsEmpty}
use Rattle.m17_ports.specs.Ear.{EarTold}
use Rattle.m17_ports.specs.Book.{BookTold}
use Rattle.m17_roll.specs.Seat.{HasLists}
use Rattle.m17_lane.specs.Rows.{IsNewRow, IsNewPusher, IsNewPopper}
use Rattle.m17_directory.specs.StandsFor.{StandsFor}
use Rattle.m17_receiver.specs.declared.receiver.Receiver.{Receiver}

-- The directory is as it was made, with the receiver's link, places and modules.
pub record IsMade {E B : Type 0} (j : Receiver E B) : Type 0 where
  pub link : j.directory.setup.link ≡ j.link
  pub places : j.directory.setup.places ≡ j.places
  pub modules : j.directory.setup.modules ≡ j.modules
  pub stands : StandsFor j.directory []
  pub asked : j.directory.asked ≡ None
  pub departing : j.directory.departing ≡ []
  pub ended : j.directory.ended ≡ false

-- Nothing was heard, written, pushed, noted, claimed or given back, and no cell is filled.
pub record IsUnused {E B L K : Type 0} (hears : E → EarTold L) (writes : B → BookTold K)
    (j : Receiver E B) : Type 0 where
  pub ear : StartsEmpty (hears j.ear).heard
  pub trace : StartsEmpty (writes j.trace).written
  pub post : j.post ≡ []
  pub inboxes : IsNewRow j.inboxes.items
  pub door : IsNewPusher j.door
  pub notes : IsNewPopper j.notes
  pub seat : HasLists [] [] [] j.seat
  pub tape : All (λ cell. cell ≡ None) j.tape.items
  pub lost : j.lost ≡ false
  pub trace_failed : j.trace_failed ≡ false

-- The receiver's link is 0 to 3, there are 1 to 256 places, as many as its roll has, and an inbox for
-- each module, in order of letters; and it is unused.
pub record IsFit {E B L K : Type 0} (hears : E → EarTold L) (writes : B → BookTold K)
    (j : Receiver E B) : Type 0 where
  pub link : j.link < 4
  pub some_place : 0 < j.places
  pub at_most : j.places ≤ 256
  pub seat : j.seat.places ≡ j.places
  pub inboxes : length j.inboxes.items ≡ length (letters_of j.modules)
  pub made : IsMade j
  pub unused : IsUnused hears writes j

-- The receiver can be started: no order was popped yet.
pub record IsReady {E B L K : Type 0} (hears : E → EarTold L) (writes : B → BookTold K)
    (j : Receiver E B) : Type 0 where
  pub fit : IsFit hears writes j
  pub order : IsNewPopper j.order
