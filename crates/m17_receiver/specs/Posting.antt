-- What a receiver pushes: to each inbox the events for its module, and to the door the replies.
use Rattle.std.specs.Prelude.{◌≡◌, ℕ, List, slice_index}
use Rattle.m17_control.specs.Modules.{letters_of}
use Rattle.m17_control.specs.declared.event.Event.{Event}
use Rattle.m17_control.specs.declared.item.Direct.{Direct}
use Rattle.m17_control.specs.declared.modules.Modules.{Modules}
use Rattle.m17_lane.specs.Ends.{PushEnd}
use Rattle.m17_lane.specs.Rows.{pushes, push_each, as_new, IsSameRow}
use Rattle.m17_directory.specs.Entries.{Entry, Setup}
use Rattle.m17_directory.specs.Routed.{routed}
use Rattle.m17_directory.specs.Laws.{door_replies}

-- The letter of the module that the inbox with this number is of: inboxes stand in order of
-- letters.
abbrev pub letter_at : Modules → ℕ → ℕ
letter_at modules m = slice_index (letters_of modules) m

-- where a receiver pushes: its inboxes, and the door
pub record Outlets : Type 0 where
  pub inboxes : List (PushEnd Event)
  pub door : PushEnd Direct

-- They are the same ends of the same lanes, whatever went through them.
pub record AreSameOutlets (before after : Outlets) : Type 0 where
  pub inboxes : IsSameRow before.inboxes after.inboxes
  pub door : as_new after.door ≡ as_new before.door

-- The outlets when each inbox got what the link routes to its module by these entries, and the door
-- the link's replies, in order, each once.
abbrev pub posted_to : Setup → List Entry → Outlets → Outlets
posted_to setup entries before = record {
  inboxes = push_each (λ m. routed setup entries (letter_at setup.modules m)) 0 before.inboxes;
  door = pushes before.door (door_replies setup entries);
}
