-- Whose places a worker gives back to the roll.
use Rattle.std.specs.Prelude.{◌≡◌, ℕ, Bool, true, false, not, List, [], ◌++◌, length, slice_get, is_some, Option, None, Some, if◌then◌else◌}
use Rattle.std.specs.Option.{option_map}
use Rattle.std.specs.List.{flat_map, filter_map, range_with_len}
use Rattle.m17_values.specs.declared.member.Member.{Member}
use Rattle.m17_control.specs.declared.event.Body.{Body}
use Rattle.m17_control.specs.declared.event.Body.TheVariants.{Leave}
use Rattle.m17_control.specs.declared.event.Event.{Event}
use Rattle.m17_control.specs.declared.event.Why.{Why}
use Rattle.m17_control.specs.declared.event.Why.TheVariants.{Replaced}
use Rattle.m17_control.specs.declared.item.Item.{Item}
use Rattle.m17_control.specs.declared.item.Said.{Said}
use Rattle.m17_control.specs.declared.item.Said.TheVariants.{Bye}
use Rattle.m17_roll.specs.Seat.{RollView, IsSameSeat, HasLists}
use Rattle.m17_module.specs.Items.{Setup, items_at}

-- Why an item says that its member has left, if it is a Bye.
abbrev pub why_left : Said → Option Why
why_left (Bye why) = Some why
why_left _ = None

-- The member to whom an item is a Bye, if it is one.
abbrev pub left_by : Item → Option Member
left_by item = option_map (λ why. item.member) (why_left item.body)

-- The item is a Bye.
abbrev pub is_bye : Item → Bool
is_bye item = is_some (why_left item.body)

-- The event is a Leave of a member that another one replaced.
abbrev pub is_replaced : Why → Bool
is_replaced Replaced = true
is_replaced _ = false

abbrev pub leaves_replaced : Body → Bool
leaves_replaced (Leave k why) = is_replaced why
leaves_replaced _ = false

abbrev pub is_replacing : Option Event → Bool
is_replacing None = false
is_replacing (Some event) = leaves_replaced event.body

-- The members whose places are given back of those to whom these items are Byes: all, or none.
abbrev pub gifts_by : Bool → List Item → List Member
gifts_by gives items = if gives then filter_map left_by items else []

-- The members that position n gives back: those to whom it says a Bye, unless it is a Leave of a
-- member that another one replaced, whose place is taken.
unfoldable pub gifts_at : Setup → List Event → ℕ → List Member
gifts_at setup events n =
    gifts_by (not (is_replacing (slice_get events n))) (items_at setup events n)

-- All that the events give back, in order.
unfoldable pub gifts : Setup → List Event → List Member
gifts setup events = flat_map (gifts_at setup events) (range_with_len 0 (length events))

-- The seat gave these members back, in order, and did nothing else: it claimed nothing, refused
-- nobody, and looked at nothing.
pub record GaveBack (before : RollView) (members : List Member) (after : RollView) : Type 0 where
  pub seat : IsSameSeat before after
  pub lists : HasLists before.claimed (before.given ++ members) before.refused after
  pub seen : after.seen ≡ before.seen
