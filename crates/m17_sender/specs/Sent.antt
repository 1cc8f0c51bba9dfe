-- What a sender did.
use Rattle.std.specs.Prelude.{◌≡◌, ◌≢◌, ℕ, suc, ◌==◌, ◌<◌, Bool, true, false, if◌then◌else◌, List, [], ◌∷◌, ◌++◌, length, map, filter}
use Rattle.std.specs.List.{All, flat_map}
use Rattle.m17_values.specs.declared.member.Member.{Member}
use Rattle.m17_ports.specs.Mouth.{Datagram, MouthTold, SaidOf}
use Rattle.m17_crew.specs.declared.order.Order.{Order}
use Rattle.m17_crew.specs.declared.order.Order.TheVariants.{Stop}
use Rattle.m17_lane.specs.Ends.{PopEnd}
use Rattle.m17_control.specs.declared.item.Item.{Item}
use Rattle.m17_control.specs.declared.item.Said.{Said}
use Rattle.m17_control.specs.declared.item.Said.TheVariants.{Hello, Bye}
use Rattle.m17_lane.specs.Rows.{pops, push_each}
use Rattle.m17_lane.specs.Grids.{IsSameGrid}
use Rattle.m17_lane.specs.Starts.{HasStarted}
use Rattle.m17_sender.specs.Acts.{Act, answers_of, notes_of, sayings, things_of, AreSpelled}
use Rattle.m17_sender.specs.Turns.{Turns}
use Rattle.m17_sender.specs.declared.sender.Sender.{Sender}
use Rattle.m17_sender.specs.Places.{cells_of, held_at, is_answered, is_said, popped_at, queues_of}

-- The members to which a Bye was said on link i, in order: by an act, and by all.
abbrev pub bye_to : Member → Said → List Member
bye_to member (Bye why) = member ∷ []
bye_to member _ = []

abbrev pub bye_on : ℕ → Item → List Member
bye_on i item = if i == item.link then bye_to item.member item.body else []

abbrev pub bye_of : ℕ → Act → List Member
bye_of i (Act.Says m q item) = bye_on i item
bye_of i (Act.Answers direct) = []
bye_of i (Act.Notes link member) = []

abbrev pub byes_of : ℕ → List Act → List Member
byes_of i acts = flat_map (bye_of i) acts

-- P holds of each mouth before and after, with its link's number, counted from k; and there are as
-- many.
abbrev pub EachMouth : {M : Type 0} → (ℕ → M → M → Type 0) → ℕ → List M → List M → Type 0
EachMouth P k [] [] = Unit {0}
EachMouth P k [] (n ∷ ns) = ⊥
EachMouth P k (m ∷ ms) [] = ⊥
EachMouth P k (m ∷ ms) (n ∷ ns) = P k m n × EachMouth P (suc k) ms ns

-- What the mouth of link i has said: the datagrams of the acts' items and replies for the link, in
-- order, each of them, or it was lost and the mouth's count of faults rose.
pub record SaidByLink {L : Type 0} (name : ℕ) (acts : List Act) (i : ℕ) (before after : MouthTold L)
    : Type 0 where
  pub datagrams : List Datagram
  pub spelled : AreSpelled (sayings name i acts) datagrams
  pub said : SaidOf before datagrams after

-- The item is a Hello that waits for more notes than went to its link.
pub record StillWaits (acts : List Act) (item : Item) : Type 0 where
  pub after : ℕ
  pub hello : item.body ≡ Hello after
  pub waits : length (notes_of item.link acts) < after

-- After the order to go it popped orders up to the first Stop, which ended it.
pub record HasStopped (before after : PopEnd Order) : Type 0 where
  pub others : List Order
  pub no_stop : All (λ order. order ≢ Stop) others
  pub orders : after ≡ pops before (others ++ Stop ∷ [])

-- What a sender has done with its lanes, when these are its acts: of each queue it popped what it
-- said and then the item that it holds back, and of the door what it answered, but for what it
-- passed over; and it pushed the notes.
pub record LanesUsed {M : Type 0} (j k : Sender M) (acts : List Act) : Type 0 where
  pub same_queues : IsSameGrid (queues_of j) (queues_of k)
  pub queues : (m q : ℕ) → filter (is_said j) (popped_at (queues_of k) m q)
      ≡ things_of m q acts ++ held_at (cells_of k) m q
  pub same_door : k.door ≡ record j.door { popped = k.door.popped }
  pub door : filter (is_answered j) k.door.popped ≡ answers_of acts
  pub notes : k.notes.items ≡ push_each (λ i. notes_of i acts) 0 j.notes.items

-- What a sender did that went: a list of acts in the order of turns, with a note to its link right
-- for each Bye, what its lanes and mouths show of them, and the order that ended it. What it still
-- holds back are Hellos that wait.
pub record Sent {M L : Type 0} (tells : M → MouthTold L) (j k : Sender M) (order : PopEnd Order)
    : Type 0 where
  pub acts : List Act
  pub turns : Turns acts
  pub noted : (i : ℕ) → notes_of i acts ≡ byes_of i acts
  pub lanes : LanesUsed j k acts
  pub mouths : EachMouth (λ i m n. SaidByLink j.name acts i (tells m) (tells n)) 0
      j.mouths.items k.mouths.items
  pub held : (m q : ℕ) (item : Item) → held_at (cells_of k) m q ≡ item ∷ []
      → StillWaits acts item
  pub stopped : HasStopped order k.order
  pub same_name : k.name ≡ j.name
  pub same_places : k.places ≡ j.places
  pub same_cells : map length (cells_of k) ≡ map length (cells_of j)

-- What a sender did: it waited for its order, and after Go it sent; after Quit all but its orders
-- is as it was.
pub record SenderDid {M L : Type 0} (tells : M → MouthTold L) (j k : Sender M) : Type 0 where
  pub goes : Bool
  pub order : PopEnd Order
  pub started : HasStarted j.order goes order
  pub went : goes ≡ true → Sent tells j k order
  pub quit : goes ≡ false → k ≡ record j { order = order }
