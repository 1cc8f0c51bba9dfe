-- For proofs: what was said so far, place by place.
use Rattle.std.specs.Prelude.{◌≡◌, ◌≢◌, ℕ, ◌<◌, ◌≤◌, List, [], ◌++◌, length, map, filter, slice_get, Option}
use Rattle.m17_ports.specs.Mouth.{MouthTold}
use Rattle.m17_control.specs.declared.item.Item.{Item}
use Rattle.m17_control.specs.declared.item.Direct.{Direct}
use Rattle.m17_lane.specs.Ends.{TrailEnd}
use Rattle.m17_sender.specs.Acts.{Act, answers_of, notes_of, things_of}
use Rattle.m17_sender.specs.Places.{held_at, held_in}
use Rattle.m17_sender.specs.Sent.{EachMouth, SaidByLink}
use Rattle.m17_reflect.specs.Left.{left_in}
use Rattle.m17_reflect.specs.Rest.{has_link, has_link_too, left_at}

-- the acts that say these items of one queue
abbrev pub says : ℕ → ℕ → List Item → List Act
says m q items = map (λ item. Act.Says m q item) items

module _ {M L : Type 0} (tells : M → MouthTold L) where
  -- these items were said, of whichever queue they are
  pub record SaysItems (name : ℕ) (items : List Item) (before after : List M) : Type 0 where
    pub said : (m q : ℕ) → EachMouth (λ i a b.
        SaidByLink name (says m q (filter (has_link (length before)) items)) i (tells a) (tells b))
        0 before after

  -- these replies were said, in whichever name
  pub record SaysReplies (directs : List Direct) (before after : List M) : Type 0 where
    pub said : (name : ℕ) → EachMouth (λ i a b.
        SaidByLink name (map Act.Answers (filter (has_link_too (length before)) directs)) i
        (tells a) (tells b)) 0 before after

-- the item that is held back at a place of a row, and what was left of its queue
abbrev pub rest_in : List (Option Item) → List (TrailEnd Item) → ℕ → List Item
rest_in cells queues q = held_in (slice_get cells q) ++ left_in (slice_get queues q)

module _ {M L : Type 0} (tells : M → MouthTold L) where
  -- of module m the rest of the first k queues was said, and nothing else
  pub record SaysRow (name m k : ℕ) (cells : List (Option Item)) (queues : List (TrailEnd Item))
      (before after : List M) : Type 0 where
    pub acts : List Act
    pub no_notes : (i : ℕ) → notes_of i acts ≡ []
    pub no_answers : answers_of acts ≡ []
    pub said : (q : ℕ) → q < k → things_of m q acts
        ≡ filter (has_link (length before)) (rest_in cells queues q)
    pub not_yet : (q : ℕ) → k ≤ q → things_of m q acts ≡ []
    pub others : (a q : ℕ) → a ≢ m → things_of a q acts ≡ []
    pub mouths : EachMouth (λ i a b. SaidByLink name acts i (tells a) (tells b)) 0 before after

  -- of the first k modules the rest of all queues was said, and nothing else
  pub record SaysRows (name k : ℕ) (cells : List (List (Option Item)))
      (queues : List (List (TrailEnd Item))) (before after : List M) : Type 0 where
    pub acts : List Act
    pub no_notes : (i : ℕ) → notes_of i acts ≡ []
    pub no_answers : answers_of acts ≡ []
    pub said : (m q : ℕ) → m < k → things_of m q acts
        ≡ filter (has_link (length before)) (held_at cells m q ++ left_at queues m q)
    pub not_yet : (m q : ℕ) → k ≤ m → things_of m q acts ≡ []
    pub mouths : EachMouth (λ i a b. SaidByLink name acts i (tells a) (tells b)) 0 before after
