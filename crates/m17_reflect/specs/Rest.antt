-- What is said when the jobs have ended: the rest of the door and of the queues.
use Rattle.std.specs.Prelude.{◌≡◌, ℕ, Bool, nat_lt, List, [], ◌++◌, length, filter, Option}
use Rattle.m17_ports.specs.Mouth.{MouthTold}
use Rattle.m17_control.specs.declared.item.Item.{Item}
use Rattle.m17_control.specs.declared.item.Direct.{Direct}
use Rattle.m17_lane.specs.Ends.{TrailEnd}
use Rattle.m17_sender.specs.Acts.{Act, answers_of, notes_of, things_of}
use Rattle.m17_sender.specs.Places.{at_place, held_at}
use Rattle.m17_sender.specs.Sent.{EachMouth, SaidByLink}
use Rattle.m17_reflect.specs.Left.{left, left_in}

-- The item's link is one of these: it is said. Any other is passed over.
abbrev pub has_link : ℕ → Item → Bool
has_link links item = nat_lt item.link links

-- .. and so is the reply.
abbrev pub has_link_too : ℕ → Direct → Bool
has_link_too links direct = nat_lt direct.link links

-- What was left of queue q of module m, in order; nothing where there is no such queue.
abbrev pub left_at : List (List (TrailEnd Item)) → ℕ → ℕ → List Item
left_at queues m q = left_in (at_place queues m q)

-- What there is to say: the Hellos that are held back and the queues, by module and place, and the
-- door.
pub record Rest : Type 0 where
  pub cells : List (List (Option Item))
  pub queues : List (List (TrailEnd Item))
  pub door : TrailEnd Direct

-- The mouths said all of it: what was left in the door, and of each queue the item that was held
-- back there and then what was left, but for what names no link. Nothing was noted.
pub record SaysRest {M L : Type 0} (tells : M → MouthTold L) (name : ℕ) (rest : Rest)
    (before after : List M) : Type 0 where
  pub acts : List Act
  pub no_notes : (i : ℕ) → notes_of i acts ≡ []
  pub things : (m q : ℕ) → things_of m q acts ≡ filter (has_link (length before))
      (held_at rest.cells m q ++ left_at rest.queues m q)
  pub answers : answers_of acts ≡ filter (has_link_too (length before)) (left rest.door)
  pub mouths : EachMouth (λ i m n. SaidByLink name acts i (tells m) (tells n)) 0 before after
