-- The opening and the printing, part by part. No public clause cites this module.
use Rattle.std.specs.Prelude.{◌≡◌, ◌≤◌, ℕ, List, [], ◌++◌, length, map, string_bytes, vec_len, vec_capacity, Option, Some, IsSome, Result, OnOk, OnErr}
use Rattle.std.specs.Option.{option_map}
use Rattle.m17_io.specs.Sink.{AppendsPrefix}
use Rattle.m17_control.specs.Modules.{letters_of}
use Rattle.m17_ports.specs.Ports.{PortsTold}
use Rattle.m17_ports.specs.Told.{told_then}
use Rattle.m17_ports.specs.declared.question.Question.{Question}
use Rattle.m17_ports.specs.declared.question.Question.TheVariants.{Book}
use Rattle.m17_ports.specs.declared.shelf.Shelf.{Shelf}
use Rattle.m17_words.specs.declared.order.ServeOrder.{ServeOrder}
use Rattle.m17_client_commands.specs.Devices.{FailsAmong}
use Rattle.m17_reflect.specs.Run.{Devices}
use Rattle.m17_reflect.specs.Views.{Kinds}
use Rattle.m17_serve.specs.declared.names.Names.{Names}
use Rattle.m17_serve.specs.declared.opening.Opened.{Opened}
use Rattle.m17_serve.specs.Asked.{call_after, shelf_questions}
use Rattle.m17_serve.specs.Devices.{AreNew}

-- These are the names of the traces and of the books, where a folder is named.
pub record AreNames (order : ServeOrder) (names : Names) : Type 0 where
  pub questions : shelf_questions order (option_map string_bytes order.book)
      ≡ map Book (map string_bytes names.traces.items)
      ++ map Book (map string_bytes names.books.items)
  pub traces : IsSome order.book → vec_len names.traces ≡ vec_len order.binds
  pub books : IsSome order.book → vec_len names.books ≡ length (letters_of order.modules)

-- there is room for the devices of this number of links and of modules, and none is there yet
pub record HasRooms {E M B : Type 0} (links modules : ℕ) (rooms : Opened E M B) : Type 0 where
  pub ears : (rooms.ears.items ≡ []) × (links ≤ vec_capacity rooms.ears)
  pub mouths : (rooms.mouths.items ≡ []) × (links ≤ vec_capacity rooms.mouths)
  pub traces : (rooms.traces.items ≡ []) × (links ≤ vec_capacity rooms.traces)
  pub books : (rooms.books.items ≡ []) × (modules ≤ vec_capacity rooms.books)

-- the devices that were opened, kind by kind
abbrev pub kinds_opened : {E M B : Type 0} → Opened E M B → Kinds E M (Shelf B)
kinds_opened opened = record {
  ears = opened.ears.items;
  mouths = opened.mouths.items;
  traces = opened.traces.items;
  books = opened.books.items;
}

-- These questions were asked, in order, or there are none: each was appended, as far as the ports tell it, and each is a
-- call.
pub record AreAsked (questions : List Question) (before after : PortsTold) : Type 0 where
  pub told : (all : List Question) → after.asked ≡ Some all
      → told_then before.asked questions ≡ Some all
  pub counted : after.calls ≡ call_after before.calls (length questions)

-- these questions were asked, in order, and the ports failed at none, or failed at one of them
pub record Asks {T E : Type 0} (result : Result T E) (questions : List Question)
    (before after : PortsTold) : Type 0 where
  pub asked : OnOk result (AreAsked questions before after)
  pub no_fault : OnOk result (after.faults ≡ before.faults)
  pub failed : OnErr result (FailsAmong questions before after)

-- The devices are new, as the ports hand them out from some call on.
abbrev pub AreFresh : {E M B : Type 0} → ServeOrder → Devices E M (Option B) → Type 0
AreFresh order devices = (first : ℕ) × AreNew order first devices

-- the text was appended, or where the sink failed a first part of it
pub record Prints {T E : Type 0} (result : Result T E) (text : List ℕ)
    (first written : Option (List ℕ)) : Type 0 where
  pub all_of_it : OnOk result ((before : List ℕ) → first ≡ Some before
      → written ≡ Some (before ++ text))
  pub part_of_it : OnErr result ((before : List ℕ) → first ≡ Some before
      → AppendsPrefix before text written)
