-- Which events a worker takes, and when it has had the last one.
use Rattle.std.specs.Prelude.{◌≡◌, ◌==◌, ◌&&◌, ℕ, ◌<◌, Bool, true, false, List, [], ◌∷◌, ◌++◌, filter, nat_lt, Option, None, Some}
use Rattle.std.specs.Option.{option_map_or}
use Rattle.std.specs.List.{list_any}
use Rattle.m17_control.specs.declared.event.Body.{Body}
use Rattle.m17_control.specs.declared.event.Body.TheVariants.{Join, Leave, Packet, Reply, Tick, Stop}
use Rattle.m17_control.specs.declared.event.Event.{Event}

-- The place that an event names, if it names a member.
abbrev pub place_of : Body → Option ℕ
place_of (Join k peer callsign listen after) = Some k.place
place_of (Leave k why) = Some k.place
place_of (Packet k packet) = Some k.place
place_of (Reply k control) = Some k.place
place_of Tick = None
place_of Stop = None

-- The event's link is there, and the place that it names, if it names one.
abbrev pub is_there : ℕ → ℕ → Event → Bool
is_there links places event =
    nat_lt event.tag.link links
    && option_map_or (λ place. nat_lt place places) (place_of event.body) true

-- The events of these that a worker takes: all but those that name a link or a place that isn't
-- there, which it passes over.
abbrev pub taken : ℕ → ℕ → List Event → List Event
taken links places events = filter (is_there links places) events

-- The event is a Stop of the link.
abbrev pub is_stop : Body → Bool
is_stop Stop = true
is_stop _ = false

abbrev pub is_stop_of : ℕ → Event → Bool
is_stop_of link event = (event.tag.link == link) && is_stop event.body

-- Each link has had its Stop.
abbrev pub HasStops : ℕ → List Event → Type 0
HasStops links events =
    (link : ℕ) → link < links → list_any (is_stop_of link) events ≡ true

-- Each link has had its Stop, and not before the last of the events: so nothing is taken behind it.
pub record EndsWithStops (links : ℕ) (events : List Event) : Type 0 where
  pub each : HasStops links events
  pub at_the_last : (front : List Event) (last : Event) →
      events ≡ front ++ last ∷ [] → HasStops links front → ⊥
