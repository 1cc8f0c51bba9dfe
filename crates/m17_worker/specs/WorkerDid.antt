-- What a worker did, between the job before and after.
use Rattle.std.specs.Prelude.{◌≡◌, ℕ, Bool, true, false, List, [], length, Some}
use Rattle.m17_control.specs.declared.event.Event.{Event}
use Rattle.m17_ports.specs.Book.{BookTold, HasText}
use Rattle.m17_book.specs.declared.head.Head.{Head}
use Rattle.m17_lane.specs.Starts.{HasStarted}
use Rattle.m17_module.specs.Items.{items_given}
use Rattle.m17_module.specs.StandsFor.{StandsFor}
use Rattle.m17_worker.specs.declared.worker.Worker.{Worker}
use Rattle.m17_worker.specs.Taken.{taken, EndsWithStops}
use Rattle.m17_worker.specs.Offers.{AreOffered}
use Rattle.m17_worker.specs.Gifts.{gifts, GaveBack}
use Rattle.m17_worker.specs.Records.{records_of, book_text, IsBookText}
use Rattle.m17_worker.specs.Tape.{IsTaped}

-- What the header of a worker's book says: the letter of its module, and the plan's limit.
abbrev pub head_of : {B : Type 0} → Worker B → Head
head_of j = record { «module» = j.letter; limit = j.limit }

-- What became of these events: the module stands for them; all that they give was offered, in
-- order; the members with a Bye were given back; the book, which is the same one, has their records,
-- which are a book's where it tells its bytes, and the tape their verdicts.
pub record HasServed {B L : Type 0} (told : B → BookTold L) (events : List Event)
    (j k : Worker B) : Type 0 where
  pub stands : StandsFor k.module events
  pub offered : AreOffered (items_given j.module.setup events) j.offers k.offers
  pub gave_back : GaveBack j.seat (gifts j.module.setup events) k.seat
  pub booked : HasText (told j.book) (book_text (head_of j) (records_of j.module.setup events))
      k.book_failed (told k.book)
  pub spelled : (bytes : List ℕ) → (told k.book).written ≡ Some bytes →
      IsBookText (head_of j) (records_of j.module.setup events)
  pub taped : IsTaped j.module.setup events k.tape

-- It is the same worker: what it was made with stays, of its inbox it popped events and nothing
-- else, its tape has as many cells, and nothing is left in its basket.
pub record IsSameWorker {B : Type 0} (j k : Worker B) : Type 0 where
  pub letter : k.letter ≡ j.letter
  pub links : k.links ≡ j.links
  pub limit : k.limit ≡ j.limit
  pub setup : k.module.setup ≡ j.module.setup
  pub inbox : k.inbox ≡ record j.inbox { popped = k.inbox.popped }
  pub cells : length k.tape ≡ length j.tape
  pub basket : k.basket ≡ []

-- The worker went: it popped up to the event with which each link had had its Stop, and served all
-- of these that name a link and a place that are there.
pub record HasWorked {B L : Type 0} (told : B → BookTold L) (j k : Worker B) : Type 0 where
  pub same : IsSameWorker j k
  pub stops : EndsWithStops j.links k.inbox.popped
  pub served : HasServed told (taken j.links j.module.setup.places k.inbox.popped) j k

-- What a worker did: it waited for its order; after Quit all but the popped order is as it was;
-- after Go it worked.
pub record WorkerDid {B L : Type 0} (told : B → BookTold L) (j k : Worker B) : Type 0 where
  pub goes : Bool
  pub order : HasStarted j.order goes k.order
  pub quit : goes ≡ false → k ≡ record j { order = k.order }
  pub worked : goes ≡ true → HasWorked told j k
