-- The events of a module, as its floor sees them.
use Rattle.std.specs.Prelude.{List, map}
use Rattle.m17_control.specs.declared.event.Body.{Body}
use Rattle.m17_control.specs.declared.event.Body.TheVariants.{Join, Leave, Packet, Reply, Tick, Stop}
use Rattle.m17_control.specs.declared.event.Event.{Event}
use Rattle.m17_floor.specs.declared.act.Act.{Act}
use Rattle.m17_floor.specs.declared.act.ActKind.{ActKind}
use Rattle.m17_floor.specs.declared.act.ActKind.TheVariants as act

-- What the floor sees of an event: a Join, a Leave, a packet, or something else.
abbrev pub kind_of : Body → ActKind
kind_of (Join k peer callsign listens after) = act.Join k listens
kind_of (Leave k why) = act.Leave k
kind_of (Packet k p) = act.Packet k p
kind_of (Reply k control) = act.Other
kind_of Tick = act.Other
kind_of Stop = act.Other

-- The same with the event's moment.
abbrev pub act_of : Event → Act
act_of event = record { at = event.at; kind = kind_of event.body }

-- What the floor sees of a list of events, event by event.
abbrev pub acts_of : List Event → List Act
acts_of events = map act_of events
