-- One trail for each module: all events that its links route to it, in one order.
use Rattle.std.specs.Prelude.{◌≡◌, ℕ, List, length}
use Rattle.m17_control.specs.declared.event.Event.{Event}
use Rattle.m17_lane.specs.Ends.{TrailEnd}
use Rattle.m17_lane.specs.Orders.{items_of}
use Rattle.m17_lane.specs.Interleavings.{IsInterleaving}
use Rattle.m17_plan.specs.declared.plan.Plan.{Plan}
use Rattle.m17_reflect.specs.Links.{Link, At, letter_of, routes}
use Rattle.m17_reflect.specs.Run.{module_count}

-- The events of a trail, in its order.
abbrev pub events_of : TrailEnd Event → List Event
events_of trail = items_of trail.order

-- The trail of the module with this letter is one interleaving of what the links route to it, by
-- the link that each event carries: every event once, those of a link in order, and no others. Each
-- was popped.
pub record IsTrail (plan : Plan) (links : List Link) (letter : ℕ) (trail : TrailEnd Event) : Type 0
  where
    pub order : IsInterleaving (λ (event : Event). event.tag.link) (routes plan links letter)
        (events_of trail)
    pub popped : trail.popped ≡ events_of trail

-- One trail for each module.
pub record AreTrails (plan : Plan) (links : List Link) (trails : List (TrailEnd Event)) : Type 0
  where
    pub count : length trails ≡ module_count plan
    pub each : (m : ℕ) (trail : TrailEnd Event) → At trails m trail →
        IsTrail plan links (letter_of plan m) trail
