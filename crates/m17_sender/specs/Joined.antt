-- The memberships of a peer, what each is told by its queue, and what goes to the peer.
use Rattle.std.specs.Prelude.{◌≡◌, ◌≢◌, ◌==◌, ◌&&◌, ℕ, Bool, List, [], ◌∷◌, ◌++◌, map, take, filter, All, AllPairs, Contains}
use Rattle.std.specs.List.{flat_map, filter_map, list_any}
use Rattle.m17_values.specs.declared.member.Member.{Member}
use Rattle.m17_values.specs.declared.peer.Peer.{Peer}
use Rattle.m17_control.specs.declared.event.Why.{Why}
use Rattle.m17_control.specs.declared.item.Direct.{Direct}
use Rattle.m17_control.specs.declared.item.Item.{Item}
use Rattle.m17_control.specs.declared.item.Said.TheVariants.{Hello, Bye}
use Rattle.m17_control.specs.declared.packet.Packet.{Packet}
use Rattle.m17_control.specs.declared.packet.Packet.TheVariants as packets
use Rattle.m17_control.specs.Spelled.{packet_said}
use Rattle.m17_floor.specs.Acts.{is_same}
use Rattle.m17_sender.specs.Acts.{Act, Saying, things_of}
use Rattle.m17_sender.specs.Turns.{Turns}

-- What each queue holds, in order, by the number of its module and its place.
abbrev pub Queues : Type 0
Queues = ℕ → ℕ → List Item

-- Acts in turn, and more behind them, say what the queues hold, each queue's items in order.
pub record SayAll (acts more : List Act) (queues : Queues) : Type 0 where
  pub turns : Turns acts
  pub things : (m q : ℕ) → things_of m q (acts ++ more) ≡ queues m q

-- A membership: the number of its module, its member, and how many departed members of its link are
-- to be noted before it is greeted.
pub record Joined : Type 0 where
  pub m : ℕ
  pub member : Member
  pub after : ℕ

-- What it is told: the items for its member in its queue.
abbrev pub is_to : Member → Item → Bool
is_to k item = is_same item.member k

abbrev pub items_of : Queues → Joined → List Item
items_of queues j = filter (is_to j.member) (queues j.m j.member.place)

-- Its items begin with the Hello that waits for `after` notes, and nothing follows a Bye.
pub record IsLifeFrom (after : ℕ) (items : List Item) : Type 0 where
  pub begins : (first : Item) (rest : List Item) → items ≡ first ∷ rest →
      first.body ≡ Hello after
  pub ends : (front rest : List Item) (bye : Item) (why : Why) → items ≡ front ++ bye ∷ rest →
      bye.body ≡ Bye why → rest ≡ []

-- A membership on a link: its items are a life and have that link, and no other queue holds an item
-- for its member.
pub record IsJoined (queues : Queues) (link : ℕ) (j : Joined) : Type 0 where
  pub life : IsLifeFrom j.after (items_of queues j)
  pub its_link : All (λ item. item.link ≡ link) (items_of queues j)
  pub alone : (m q : ℕ) (item : Item) → Contains (queues m q) item → item.member ≡ j.member →
      (m ≡ j.m) × (q ≡ j.member.place)

-- The later membership is another one, and it is greeted only when the earlier one was noted: that
-- stands among the first notes, as many as the later one waits for.
abbrev pub WaitsFor : List Member → Joined → Joined → Type 0
WaitsFor notes earlier later =
    (earlier.member ≢ later.member) × Contains (take later.after notes) earlier.member

-- These are memberships on a link, each waiting for all before it.
pub record AreInTurn (queues : Queues) (link : ℕ) (notes : List Member) (joins : List Joined)
    : Type 0 where
  pub each : All (IsJoined queues link) joins
  pub waits : AllPairs (WaitsFor notes) joins

-- All items that were said, in order; and whether an item is for one of these memberships.
abbrev pub item_of : Act → List Item
item_of (Act.Says m q item) = item ∷ []
item_of (Act.Answers direct) = []
item_of (Act.Notes link member) = []

abbrev pub items_said : List Act → List Item
items_said acts = flat_map item_of acts

abbrev pub is_to_any : List Joined → Item → Bool
is_to_any joins item = list_any (λ j. is_to j.member item) joins

-- What goes to a peer by link i: the item does; the replies past all modules that do; and of what
-- goes out by the link, the packets to the peer. The peer is told by a test.
abbrev pub goes_to : ℕ → (Peer → Bool) → Item → Bool
goes_to i x item = i == item.link && x item.peer

abbrev pub replies_to : ℕ → (Peer → Bool) → List Direct → List Packet
replies_to i x directs =
    map (λ (d : Direct). packets.Control d.control)
    (filter (λ (d : Direct). i == d.link && x d.peer) directs)

abbrev pub packets_to : (Peer → Bool) → List Saying → List Packet
packets_to x said = map (λ s. s.1) (filter (λ s. x s.0) said)

-- The packets that say these items in the name of the reflector, in order.
abbrev pub packets_of : ℕ → List Item → List Packet
packets_of name items = filter_map (λ (item : Item). packet_said item.body name) items
