-- What the sender does, in order, and what is looked up in the list of it.
use Rattle.std.specs.Prelude.{◌≡◌, ◌==◌, ◌&&◌, ℕ, List, [], ◌∷◌, Option, None, Some, if◌then◌else◌}
use Rattle.std.specs.List.{flat_map, AllZip}
use Rattle.m17_values.specs.declared.member.Member.{Member}
use Rattle.m17_values.specs.declared.peer.Peer.{Peer}
use Rattle.m17_ports.specs.Mouth.{Datagram}
use Rattle.m17_control.specs.declared.item.Item.{Item}
use Rattle.m17_control.specs.declared.item.Direct.{Direct}
use Rattle.m17_control.specs.declared.packet.Packet.{Packet}
use Rattle.m17_control.specs.declared.packet.Packet.TheVariants as packets
use Rattle.m17_control.specs.Forms.{Spells}
use Rattle.m17_control.specs.Spelled.{packet_said}

-- An act of the sender: it says an item of queue q of module m, or a reply that goes past all
-- modules, or it notes to a link that a member's Bye was said.
pub data Act : Type 0 where
  Says : (m q : ℕ) (item : Item) → Act
  Answers : (direct : Direct) → Act
  Notes : (link : ℕ) (member : Member) → Act

-- The items of queue q of module m that were said, in order. A Bye that spells nothing counts as
-- said.
abbrev pub thing_of : ℕ → ℕ → Act → List Item
thing_of m q (Act.Says n p item) = if m == n && q == p then item ∷ [] else []
thing_of m q (Act.Answers direct) = []
thing_of m q (Act.Notes link member) = []

abbrev pub things_of : ℕ → ℕ → List Act → List Item
things_of m q acts = flat_map (thing_of m q) acts

-- The replies past all modules that were said, in order.
abbrev pub answer_of : Act → List Direct
answer_of (Act.Says m q item) = []
answer_of (Act.Answers direct) = direct ∷ []
answer_of (Act.Notes link member) = []

abbrev pub answers_of : List Act → List Direct
answers_of acts = flat_map answer_of acts

-- The members that were noted to link i, in order.
abbrev pub note_of : ℕ → Act → List Member
note_of i (Act.Says m q item) = []
note_of i (Act.Answers direct) = []
note_of i (Act.Notes link member) = if i == link then member ∷ [] else []

abbrev pub notes_of : ℕ → List Act → List Member
notes_of i acts = flat_map (note_of i) acts

-- A packet, and the peer that it goes to.
abbrev pub Saying : Type 0
Saying = Peer × Packet

abbrev pub to_peer : Peer → Option Packet → List Saying
to_peer peer None = []
to_peer peer (Some packet) = (peer, packet) ∷ []

-- What goes out by link i, in order, in the name of the reflector: the packets of the items and
-- replies that have this link; a Bye to a member that moved or was replaced has none.
abbrev pub saying_of : ℕ → ℕ → Act → List Saying
saying_of name i (Act.Says m q item) =
    if i == item.link then to_peer item.peer (packet_said item.body name) else []
saying_of name i (Act.Answers direct) =
    if i == direct.link then (direct.peer, packets.Control direct.control) ∷ [] else []
saying_of name i (Act.Notes link member) = []

abbrev pub sayings : ℕ → ℕ → List Act → List Saying
sayings name i acts = flat_map (saying_of name i) acts

-- The datagrams spell these packets, to the same peers. M17 Protocol Specification, IP networking;
-- the forms of control packets are this profile's.
abbrev pub IsSpelled : Saying → Datagram → Type 0
IsSpelled saying datagram = (datagram.0 ≡ saying.0) × Spells saying.1 datagram.1

abbrev pub AreSpelled : List Saying → List Datagram → Type 0
AreSpelled said datagrams = AllZip IsSpelled said datagrams
