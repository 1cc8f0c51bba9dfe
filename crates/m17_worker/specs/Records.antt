-- What a module's book says of its events.
use Rattle.std.specs.Prelude.{ℕ, List, [], ◌++◌, length, slice_get, nat_lt, Option, None, Some, if◌then◌else◌}
use Rattle.std.specs.Option.{option_map, option_to_list}
use Rattle.std.specs.List.{flat_map, filter_map, range_with_len}
use Rattle.m17_control.specs.declared.event.Tag.{Tag}
use Rattle.m17_control.specs.declared.event.Body.{Body}
use Rattle.m17_control.specs.declared.event.Body.TheVariants as body
use Rattle.m17_control.specs.declared.event.Event.{Event}
use Rattle.m17_control.specs.declared.item.Item.{Item}
use Rattle.m17_floor.specs.declared.verdict.Verdict.{Verdict}
use Rattle.m17_floor.specs.Acts.{moment_at}
use Rattle.m17_floor.specs.Floor.{verdict_at}
use Rattle.m17_module.specs.Events.{acts_of}
use Rattle.m17_module.specs.Items.{Setup, floor_setup, items_at}
use Rattle.m17_book.specs.Book.{HasBookForm}
use Rattle.m17_book.specs.Versions.{book_header}
use Rattle.m17_book.specs.declared.version.Version.TheVariants.{Two}
use Rattle.m17_book.specs.Records.{record_bytes}
use Rattle.m17_book.specs.declared.head.Head.{Head}
use Rattle.m17_book.specs.declared.record.Record.{Record}
use Rattle.m17_book.specs.declared.record.Record.TheVariants.{Join, Leave, Packet}
use Rattle.m17_worker.specs.Gifts.{why_left}

-- What the records of an event are told by: the entry that it comes from, the module's moment at
-- it, the verdict on it, which a packet alone has, and the number of places.
pub record Noted : Type 0 where
  pub tag : Tag
  pub moment : ℕ
  pub verdict : Option Verdict
  pub places : ℕ

-- The record of a membership that ends: of each Bye a Leave, with the Bye's reason.
abbrev pub leave_record : Tag → ℕ → Item → Option Record
leave_record tag moment item =
    option_map (λ why. Leave tag moment item.member why) (why_left item.body)

-- The record of what an event begins or decides: of a Join at one of the places, and of a packet.
abbrev pub own_record : Noted → Body → Option Record
own_record now (body.Join k peer callsign listen after) =
    if nat_lt k.place now.places then Some (Join now.tag now.moment k listen callsign) else None
own_record now (body.Packet k packet) =
    option_map (λ verdict. Packet now.tag now.moment k verdict packet) now.verdict
own_record now _ = None

-- The records of an event that says these items: first of the member that leaves, if one does, and
-- then its own. So a Join or a Leave that did nothing has none.
abbrev pub records_by : Noted → List Item → Body → List Record
records_by now items what =
    filter_map (leave_record now.tag now.moment) items ++ option_to_list (own_record now what)

-- Position n of the events, in a module that was made so.
abbrev pub noted_at : Setup → List Event → ℕ → Tag → Noted
noted_at setup events n tag = record {
  tag = tag;
  moment = moment_at (acts_of events) n;
  verdict = verdict_at (floor_setup setup) (acts_of events) n;
  places = setup.places;
}

abbrev pub records_for : Setup → List Event → ℕ → Option Event → List Record
records_for setup events n None = []
records_for setup events n (Some event) =
    records_by (noted_at setup events n event.tag) (items_at setup events n) event.body

-- The records of position n, and of all the events, in order.
unfoldable pub records_at : Setup → List Event → ℕ → List Record
records_at setup events n = records_for setup events n (slice_get events n)

unfoldable pub records_of : Setup → List Event → List Record
records_of setup events = flat_map (records_at setup events) (range_with_len 0 (length events))

-- The bytes of a module's book: its header, and then the records of the events.
abbrev pub book_text : Head → List Record → List ℕ
book_text head records = book_header Two head ++ flat_map record_bytes records

-- These bytes are a book with this header and just these records: each field of them fits its place.
abbrev pub IsBookText : Head → List Record → Type 0
IsBookText head records = HasBookForm Two (book_text head records) head records
