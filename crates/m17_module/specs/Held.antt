-- The row of the held places that the code keeps beside the seats.
use Rattle.std.specs.Prelude.{◌≡◌, ◌≤◌, ℕ, ◌+◌, List, [], ◌∷◌, length, nat_lt, count_by, insert, remove, Option, None, Some, if◌then◌else◌}
use Rattle.m17_values.specs.declared.member.Member.{Member}
use Rattle.m17_control.specs.declared.item.Item.{Item}
use Rattle.m17_control.specs.declared.item.Said.{Said}
use Rattle.m17_floor.specs.Acts.{is_same}
use Rattle.m17_module.specs.Items.{item_to}
use Rattle.m17_floor.specs.Rule.{Frame}
use Rattle.m17_module.specs.declared.seat.Seat.{Seat}

-- the places at which somebody is in, rising, where the first is the place with this number
abbrev pub held_from : ℕ → List (Option Seat) → List ℕ
held_from place [] = []
held_from place (None ∷ seats) = held_from (place + 1) seats
held_from place (Some seat ∷ seats) = place ∷ held_from (place + 1) seats

-- there are at most 256 places, the row is that of the held ones, and each place has a frame
pub record IsInOrder (seats : List (Option Seat)) (held : List ℕ)
    (lasts : List (Option Frame)) : Type 0 where
  pub at_most : length seats ≤ 256
  pub held_are : held ≡ held_from 0 seats
  pub each : length lasts ≡ length seats

-- the row with one more place, and with one less: the place stands behind those that are below it
abbrev pub with_place : ℕ → List ℕ → List ℕ
with_place place held = insert held (count_by (λ other. nat_lt other place) held) place

abbrev pub without_place : ℕ → List ℕ → List ℕ
without_place place held = remove held (count_by (λ other. nat_lt other place) held)

-- what is said to who is in at a place, unless it is this member
abbrev pub to_other : Member → Said → Option Seat → List Item
to_other k what None = []
to_other k what (Some seat) = if is_same seat.member k then [] else item_to what seat ∷ []
