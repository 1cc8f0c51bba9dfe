-- What follows from the headline, for callers to cite by name.
use Rattle.std.specs.Prelude.{◌≡◌, ℕ, List, ◌++◌, length, map, Some}
use Rattle.m17_values.specs.declared.heard.Heard.{Heard}
use Rattle.m17_ports.specs.Ear.{EarTold}
use Rattle.m17_ports.specs.Told.{StartsEmpty}
use Rattle.m17_lane.specs.Ends.{TrailEnd}
use Rattle.m17_lane.specs.Orders.{items_of}
use Rattle.m17_reflect.specs.Left.{left}
use Rattle.m17_reflect.specs.Links.{Link, At}
use Rattle.m17_reflect.specs.Run.{Devices, Run, module_count}
use Rattle.m17_reflect.specs.Headline.{Headline}

-- Where an ear had heard nothing at first, as far as it told, and tells a list in the end, it has a link, and that link
-- heard this list.
abbrev pub HeadlineTells : (E M B : Type 0) → Type 0
HeadlineTells E M B =
    (run : Run E M B) (headline : Headline run) (i : ℕ) (before after : EarTold E)
    (list : List Heard) → At run.before.ears i before → At run.after.ears i after →
    StartsEmpty before.heard → after.heard ≡ Some list →
    (link : Link) × At headline.carried_out.links i link × (link.heard ≡ list)

-- They are the same devices, in the same order.
pub record AreSameDevices {E M B : Type 0} (before after : Devices E M B) : Type 0 where
  pub ears : map (λ ear. ear.device) after.ears ≡ map (λ ear. ear.device) before.ears
  pub mouths : map (λ mouth. mouth.device) after.mouths
      ≡ map (λ mouth. mouth.device) before.mouths
  pub traces : map (λ trace. trace.device) after.traces
      ≡ map (λ trace. trace.device) before.traces
  pub books : map (λ book. book.device) after.books ≡ map (λ book. book.device) before.books

-- The devices that come back are those that were handed in, in their order, where as many mouths
-- and traces as ears were handed in, and a book for each module.
abbrev pub DevicesStay : (E M B : Type 0) → Type 0
DevicesStay E M B =
    (run : Run E M B) → Headline run → length run.before.mouths ≡ length run.before.ears →
    length run.before.traces ≡ length run.before.ears →
    length run.before.books ≡ module_count run.plan → AreSameDevices run.before run.after

-- Where a trail's order is what was popped and then a rest, what is left is that rest.
abbrev pub WhatIsLeftIsTheRest : (T : Type 0) → Type 0
WhatIsLeftIsTheRest T =
    (t : TrailEnd T) (rest : List T) → items_of t.order ≡ t.popped ++ rest → left t ≡ rest
