-- How far a worker has come, for the proofs of its steps.
use Rattle.std.specs.Prelude.{◌≡◌, ◌==◌, ◌&&◌, ℕ, ◌-◌, ◌^◌, ◌<◌, ◌≤◌, Bool, true, List, [], ◌++◌, length, slice_get, slice_set, is_some, option_and_then, Option, Some, if◌then◌else◌}
use Rattle.std.specs.Option.{ForSome, option_to_list}
use Rattle.std.specs.List.{list_any, flat_map}
use Rattle.m17_control.specs.declared.event.Event.{Event}
use Rattle.m17_control.specs.declared.item.Item.{Item}
use Rattle.m17_floor.specs.declared.verdict.Verdict.{Verdict}
use Rattle.m17_ports.specs.Book.{BookTold}
use Rattle.m17_book.specs.Records.{record_bytes, FitsRecord}
use Rattle.m17_book.specs.declared.record.Record.{Record}
use Rattle.m17_book.specs.declared.version.Version.TheVariants.{Two}
use Rattle.m17_module.specs.StandsFor.{StandsFor}
use Rattle.m17_worker.specs.declared.worker.Worker.{Worker}
use Rattle.m17_worker.specs.Taken.{taken, is_there, is_stop_of}
use Rattle.m17_worker.specs.Offers.{AreQueues}
use Rattle.m17_worker.specs.Records.{Noted, leave_record, own_record}
use Rattle.m17_worker.specs.WorkerDid.{IsSameWorker, HasServed}

-- The flag of each of four links says whether it has had its Stop.
abbrev pub AreFlags : List Bool → List Event → Type 0
AreFlags flags events =
    (link : ℕ) → link < 4 → slice_get flags link ≡ Some (list_any (is_stop_of link) events)

-- There is a queue for each of the module's places, of which there are few, and there are few
-- links.
pub record HasRoom {B : Type 0} (k : Worker B) : Type 0 where
  pub links : k.links ≤ 4
  pub places : k.module.setup.places ≤ 256
  pub queues : AreQueues k.module.setup.places k.offers.queues.items
  pub basket : k.basket ≡ []

-- The module may have come from these events, few enough that one more is counted.
pub record CanServe {B : Type 0} (events : List Event) (event : Event) (k : Worker B) : Type 0
  where
    pub room : HasRoom k
    pub stands : StandsFor k.module events
    pub few : length events < 2 ^ 64 - 1
    pub there : is_there k.links k.module.setup.places event ≡ true

-- Of the events popped the first `served` were served, each link's flag says whether it was stopped, and all
-- else is as it has to be.
pub record IsAt {B L : Type 0} (told : B → BookTold L) (j : Worker B) (served : ℕ)
    (flags : List Bool) (k : Worker B) : Type 0 where
  pub same : IsSameWorker j k
  pub room : HasRoom k
  pub counted : served ≡ length (taken j.links j.module.setup.places k.inbox.popped)
  pub flagged : AreFlags flags k.inbox.popped
  pub all : HasServed told (taken j.links j.module.setup.places k.inbox.popped) j k

-- Serving an event leaves these as they were.
pub record IsServing {B : Type 0} (before after : Worker B) : Type 0 where
  pub letter : after.letter ≡ before.letter
  pub links : after.links ≡ before.links
  pub limit : after.limit ≡ before.limit
  pub setup : after.module.setup ≡ before.module.setup
  pub inbox : after.inbox ≡ before.inbox
  pub order : after.order ≡ before.order
  pub cells : length after.tape ≡ length before.tape

-- The tape with the verdict on the event in its cell, where the event is a packet of link 0.
abbrev pub filled : List (Option Verdict) → Event → Option Verdict → List (Option Verdict)
filled tape event verdict =
    if (event.tag.link == 0) && is_some verdict
    then slice_set tape event.tag.index verdict else tape

-- What is noted of an event: itself, the verdict on it, its Bye, and the number of places.
pub record Note : Type 0 where
  pub event : Event
  pub verdict : Option Verdict
  pub bye : Option Item
  pub places : ℕ

-- The records of the event, whose moment is this: of the member that leaves, and its own.
abbrev pub noted_leave : ℕ → Note → Option Record
noted_leave moment note = option_and_then (leave_record note.event.tag moment) note.bye

abbrev pub noted_own : ℕ → Note → Option Record
noted_own moment note =
    let now : Noted = record {
      tag = note.event.tag;
      moment = moment;
      verdict = note.verdict;
      places = note.places;
    } in
    own_record now note.event.body

-- The text, and then the records of the event.
abbrev pub noted_text : List ℕ → ℕ → Note → List ℕ
noted_text text moment note =
    (text ++ flat_map record_bytes (option_to_list (noted_leave moment note)))
    ++ flat_map record_bytes (option_to_list (noted_own moment note))

-- each field of them fits its place
pub record NoteFits (moment : ℕ) (note : Note) : Type 0 where
  pub leave : ForSome (noted_leave moment note) (FitsRecord Two)
  pub own : ForSome (noted_own moment note) (FitsRecord Two)
