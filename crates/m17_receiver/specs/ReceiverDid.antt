-- What a receiver did, between the job before and after.
use Rattle.std.specs.Prelude.{◌≡◌, ◌↔◌, Bool, true, false, IsTrue, List, vec_capacity}
use Rattle.m17_values.specs.declared.heard.Heard.{Heard}
use Rattle.m17_io.specs.Faults.{HasRisen}
use Rattle.m17_ports.specs.Ear.{EarTold}
use Rattle.m17_ports.specs.Book.{BookTold, HasText}
use Rattle.m17_roll.specs.Seat.{IsSameSeat}
use Rattle.m17_lane.specs.Starts.{HasStarted}
use Rattle.m17_directory.specs.Entries.{Entry, SaysEach}
use Rattle.m17_directory.specs.Laws.{EndsOnce}
use Rattle.m17_receiver.specs.declared.receiver.Receiver.{Receiver}
use Rattle.m17_receiver.specs.Devices.{IsCounted, HearsToTheEnd, EndsInFaults, trace_text}
use Rattle.m17_receiver.specs.Posting.{Outlets, AreSameOutlets, posted_to}
use Rattle.m17_receiver.specs.Claims.{HasClaimed, IsGreetedAfter}
use Rattle.m17_receiver.specs.Tape.{IsTaped}

-- where a receiver pushes
abbrev pub outlets_of : {E B : Type 0} → Receiver E B → Outlets
outlets_of j = record { inboxes = j.inboxes.items; door = j.door }

-- It is the same receiver: what it was made with stays, its seat is of the same roll, its inboxes
-- and its end of the door are the same ends and have the same room, and it popped notes and nothing
-- else of them.
pub record IsSameReceiver {E B : Type 0} (j k : Receiver E B) : Type 0 where
  pub link : k.link ≡ j.link
  pub modules : k.modules ≡ j.modules
  pub places : k.places ≡ j.places
  pub patient : k.patient ≡ j.patient
  pub setup : k.directory.setup ≡ j.directory.setup
  pub seat : IsSameSeat j.seat k.seat
  pub room : vec_capacity k.inboxes ≡ vec_capacity j.inboxes
  pub notes : k.notes ≡ record j.notes { popped = k.notes.popped }
  pub lanes : AreSameOutlets (outlets_of j) (outlets_of k)

-- What became of all that was heard, entry by entry: each says what its entry is, and only the last
-- ends the link; what was posted, claimed and taped is what the directory's rules make of them.
pub record HasReceived {E B : Type 0} (heard : List Heard) (j k : Receiver E B) : Type 0 where
  pub entries : List Entry
  pub says : SaysEach heard entries
  pub ends : EndsOnce entries
  pub lost : IsTrue k.lost ↔ EndsInFaults heard
  pub posted : outlets_of k ≡ posted_to j.directory.setup entries (outlets_of j)
  pub claimed : HasClaimed j.patient j.directory.setup entries k.seat
  pub greeted : IsGreetedAfter entries k.notes.popped
  pub taped : IsTaped j.directory.setup entries j.tape.items k.tape.items

-- The receiver went: its ear heard this, fewer than 2^64 entries, its trace holds the text
-- of that, and each entry became what it had to. Ear and trace are the same devices. It is lost, and its trace has failed, only where the count of
-- faults of the one or the other rose.
pub record HasGone {E B L K : Type 0} (hears : E → EarTold L) (writes : B → BookTold K)
    (j k : Receiver E B) : Type 0 where
  pub heard : List Heard
  pub ear : HearsToTheEnd (hears j.ear) heard (hears k.ear)
  pub lost : IsTrue k.lost → HasRisen (hears j.ear).faults (hears k.ear).faults
  pub trace : HasText (writes j.trace) (trace_text heard) k.trace_failed (writes k.trace)
  pub counted : IsCounted heard
  pub received : HasReceived heard j k

-- What a receiver did: it waited for its order; after Quit all but the popped order is as it was;
-- after Go it received.
pub record ReceiverDid {E B L K : Type 0} (hears : E → EarTold L) (writes : B → BookTold K)
    (j k : Receiver E B) : Type 0 where
  pub goes : Bool
  pub order : HasStarted j.order goes k.order
  pub quit : goes ≡ false → k ≡ record j { order = k.order }
  pub same : IsSameReceiver j k
  pub gone : goes ≡ true → HasGone hears writes j k
