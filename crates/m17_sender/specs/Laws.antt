-- What follows of every list of acts, for callers to cite by name.
use Rattle.std.specs.Prelude.{◌≡◌, ℕ, Bool, false, List, [], ◌∷◌, ◌++◌, map, filter, All, Contains}
use Rattle.std.specs.List.{flat_map, AllZip}
use Rattle.m17_values.specs.declared.member.Member.{Member}
use Rattle.m17_values.specs.declared.peer.Peer.{Peer}
use Rattle.m17_control.specs.declared.event.Why.{Why}
use Rattle.m17_control.specs.declared.item.Item.{Item}
use Rattle.m17_control.specs.declared.item.Said.{Said}
use Rattle.m17_control.specs.declared.item.Said.TheVariants.{Hello, Bye}
use Rattle.m17_control.specs.Forms.{Spells}
use Rattle.m17_ports.specs.Mouth.{Datagram}
use Rattle.m17_sender.specs.Acts.{Act, Saying, answers_of, notes_of, sayings, AreSpelled}
use Rattle.m17_sender.specs.Turns.{HasBye, MayFollow, Turns}
use Rattle.m17_sender.specs.Orders.{IsShuffle}
use Rattle.m17_sender.specs.Joined.{Queues, SayAll, Joined, items_of, IsLifeFrom, AreInTurn, items_said, is_to_any, goes_to, replies_to, packets_to, packets_of}

-- No acts are in turn, and acts in turn still are when one follows that may; and a member may be
-- noted to the link of its Bye from then on.
pub record TurnsGrow : Type 0 where
  pub none : Turns []
  pub one_more : (acts : List Act) (act : Act) → Turns acts → MayFollow acts act →
      Turns (acts ++ act ∷ [])
  pub bye : (acts : List Act) (m q : ℕ) (item : Item) (why : Why) → item.body ≡ Bye why →
      HasBye (acts ++ Act.Says m q item ∷ []) item.link item.member
  pub still : (acts more : List Act) (link : ℕ) (k : Member) → HasBye acts link k →
      HasBye (acts ++ more) link k

-- Where acts in turn and more behind them say all, what is said to memberships on a link, each
-- waiting for all before it, is their items, one membership after another.
abbrev pub TurnsKeepEachMemberInOrder : Type 0
TurnsKeepEachMemberInOrder =
    (acts more : List Act) (queues : Queues) (link : ℕ) (joins : List Joined) →
    SayAll acts more queues → AreInTurn queues link (notes_of link acts) joins →
    filter (is_to_any joins) (items_said (acts ++ more)) ≡ flat_map (items_of queues) joins

-- The packets to a peer by a link are one order of the replies to it past all modules, and of those
-- of the items to it.
abbrev pub RepliesAndItemsInterleave : Type 0
RepliesAndItemsInterleave =
    (name i : ℕ) (x : Peer → Bool) (acts : List Act) →
    IsShuffle (replies_to i x (answers_of acts))
    (packets_of name (filter (goes_to i x) (items_said acts)))
    (packets_to x (sayings name i acts))

-- Both together: where the items to the peer by the link are those to the memberships, the packets
-- to it are one order of the replies to it, and of what the memberships are told, one after
-- another.
abbrev pub PeersAreToldInOrder : Type 0
PeersAreToldInOrder =
    (acts more : List Act) (queues : Queues) (link : ℕ) (joins : List Joined) →
    SayAll acts more queues → AreInTurn queues link (notes_of link acts) joins →
    (name : ℕ) (x : Peer → Bool) →
    ((m q : ℕ) (item : Item) → Contains (queues m q) item →
    goes_to link x item ≡ is_to_any joins item) →
    IsShuffle (replies_to link x (answers_of (acts ++ more)))
    (packets_of name (flat_map (items_of queues) joins))
    (packets_to x (sayings name link (acts ++ more)))

-- The bytes of the datagrams to a peer, which is told by a test, in order.
abbrev pub bytes_to : (Peer → Bool) → List Datagram → List (List ℕ)
bytes_to x datagrams = map (λ d. d.1) (filter (λ d. x d.0) datagrams)

-- Datagrams that spell packets, and more that spell more, spell them together; and those to a peer
-- spell the packets to it.
pub record SpelledPartByPart : Type 0 where
  pub in_turn : (said more : List Saying) (one other : List Datagram) → AreSpelled said one →
      AreSpelled more other → AreSpelled (said ++ more) (one ++ other)
  pub to_each : (x : Peer → Bool) (said : List Saying) (datagrams : List Datagram) →
      AreSpelled said datagrams → AllZip Spells (packets_to x said) (bytes_to x datagrams)

-- A Hello.
abbrev pub IsHello : Said → Type 0
IsHello body = (after : ℕ) × (body ≡ Hello after)

-- A life of which items other than Hellos are left out is a life.
abbrev pub LessOfALifeIsALife : Type 0
LessOfALifeIsALife =
    (after : ℕ) (tries : List (Item × Bool)) → IsLifeFrom after (map (λ t. t.0) tries) →
    All (λ t. t.1 ≡ false → IsHello t.0.body → ⊥) tries →
    IsLifeFrom after (map (λ t. t.0) (filter (λ t. t.1) tries))
