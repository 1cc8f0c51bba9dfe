-- The acts of a list of events.
use Rattle.std.proofs.Common.{◌≡◌, ℕ, List, [], ◌∷◌, ◌++◌, length, Option, None, Some, slice_get, refl, ap, ◌∙◌}
use Rattle.std.specs.Option.{option_map}
use Rattle.std.proofs.lemmas.List.{map_push, map-append, length-map}
use Rattle.std.proofs.lemmas.Option.{slice_get-map}
use Rattle.m17_control.specs.declared.event.Event.{Event}
use Rattle.m17_floor.specs.declared.act.ActKind.{ActKind}
use Rattle.m17_floor.specs.declared.act.ActKind.TheVariants.{Other}
use Rattle.m17_floor.specs.Acts.{with_act, kind_at, kind_or_other}
use Rattle.m17_module.specs.Events.{act_of, acts_of, kind_of}

pub acts_more : (events : List Event) (event : Event) → acts_of (events ++ event ∷ []) ≡ with_act (acts_of events) (act_of event)
acts_more events event = map_push act_of events event

pub acts_append : (events more : List Event) → acts_of (events ++ more) ≡ acts_of events ++ acts_of more
acts_append events more = map-append act_of events more

pub length_acts : (events : List Event) → length (acts_of events) ≡ length events
length_acts events = length-map events act_of

-- what the floor sees of the event at a position
abbrev pub kind_from : Option Event → ActKind
kind_from None = Other
kind_from (Some event) = kind_of event.body

kind_of_get : (o : Option Event) → kind_or_other (option_map act_of o) ≡ kind_from o
kind_of_get None = refl
kind_of_get (Some event) = refl

pub kind_at_is : (events : List Event) (n : ℕ) → kind_at (acts_of events) n ≡ kind_from (slice_get events n)
kind_at_is events n = ap kind_or_other (slice_get-map act_of events n) ∙ kind_of_get (slice_get events n)
