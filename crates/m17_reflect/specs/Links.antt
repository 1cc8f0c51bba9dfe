-- What each link of a reflector heard, and what it routes to each module. Links and modules are
-- numbered from 0 in the order of the plan, modules in the order of their letters.
use Rattle.std.specs.Prelude.{◌≡◌, ℕ, List, map, slice_get, Some}
use Rattle.std.specs.List.{enumerate_from}
use Rattle.m17_values.specs.declared.heard.Heard.{Heard}
use Rattle.m17_control.specs.declared.event.Event.{Event}
use Rattle.m17_directory.specs.Entries.{Entry, SaysEach}
use Rattle.m17_directory.specs.Laws.{EndsOnce}
use Rattle.m17_directory.specs.Routed.{routed}
use Rattle.m17_plan.specs.declared.plan.Plan.{Plan}
pub use Rattle.m17_plan.specs.Planned.{link_setup, letter_of, setup_at}

-- A link: what it heard, and what that says, each entry with the place that it was given.
pub record Link : Type 0 where
  pub heard : List Heard
  pub entries : List Entry

-- The entries say what was heard, and exactly one of them ends the link, the last.
pub record IsLink (link : Link) : Type 0 where
  pub says : SaysEach link.heard link.entries
  pub ends : EndsOnce link.entries

-- The list has this at that place.
abbrev pub At : {A : Type 0} → List A → ℕ → A → Type 0
At xs n x = slice_get xs n ≡ Some x

-- What each link routes to the module with this letter, in the order of the links.
abbrev pub route_of : Plan → ℕ → ℕ × Link → List Event
route_of plan letter link = routed (link_setup plan link.0) link.1.entries letter

abbrev pub routes : Plan → List Link → ℕ → List (List Event)
routes plan links letter = map (route_of plan letter) (enumerate_from 0 links)
