-- The way between a client and the link of a reflector, and what a client's end of it comes to.
use Rattle.std.specs.Prelude.{◌≡◌, ℕ, true, List, [], ◌∷◌, ◌++◌, Contains}
use Rattle.std.specs.List.{flat_map}
use Rattle.m17_values.specs.declared.heard.Heard.{Heard}
use Rattle.m17_values.specs.declared.heard.Heard.TheVariants as heard
use Rattle.m17_values.specs.declared.peer.Peer.{Peer}
use Rattle.m17_stream.specs.Stream.{SpellsStream, IsAhead}
use Rattle.m17_stream.specs.declared.packet.StreamPacket.{StreamPacket}
use Rattle.m17_control.specs.Forms.{SpellsControl}
use Rattle.m17_control.specs.declared.packet.Control.{Control}
use Rattle.m17_control.specs.declared.packet.Control.TheVariants.{Ackn, Conn, Lstn}
use Rattle.m17_ports.specs.Mouth.{Datagram}
use Rattle.m17_client.specs.declared.state.Action.{Action}
use Rattle.m17_client.specs.declared.state.Action.TheVariants.{Say, Keep}
use Rattle.m17_client.specs.declared.state.Input.TheVariants as input
use Rattle.m17_client.specs.declared.state.State.TheVariants.{Idle}
use Rattle.m17_client.specs.Standing.{Standing}
use Rattle.m17_client.specs.Client.{join_packet}
use Rattle.m17_client.specs.Steps.{ClientStep, IsClientRun, inputs_of, is_connected, standing_after}
use Rattle.m17_client.specs.TalkDevices.{says_of}

-- The two ends of a way: which peer each is to the other, and what each heard and said by its
-- socket.
pub record Way : Type 0 where
  pub reflector : Peer
  pub client : Peer
  pub client_heard : List Heard
  pub client_said : List Datagram
  pub link_heard : List Heard
  pub link_said : List Datagram

-- Nothing is made up on the way: what either end heard from the other, the other said to it, byte
-- for byte. Any datagram may be lost, come more than once, or come in another order.
pub record NothingInvented (way : Way) : Type 0 where
  pub to_client : (at : ℕ) (bytes : List ℕ)
      → Contains way.client_heard (heard.Datagram way.reflector at bytes)
      → Contains way.link_said (way.client, bytes)
  pub to_link : (at : ℕ) (bytes : List ℕ)
      → Contains way.link_heard (heard.Datagram way.client at bytes)
      → Contains way.client_said (way.reflector, bytes)

-- The steps are a run of a client that begins idle, at its end of the way: each datagram that it
-- steps on was heard from the reflector, and all that was said to the reflector is what its steps
-- say.
pub record IsClientsEnd (way : Way) (first : Standing) (steps : List ClientStep) : Type 0 where
  pub idle : first.state ≡ Idle
  pub run : IsClientRun first steps
  pub hears : (at : ℕ) (bytes : List ℕ) → Contains (inputs_of steps) (input.Datagram at bytes)
      → Contains way.client_heard (heard.Datagram way.reflector at bytes)
  pub says : (bytes : List ℕ) → Contains way.client_said (way.reflector, bytes)
      → Contains (says_of steps) bytes

-- the packets that the steps keep, in order
abbrev pub kept_in : Action → List StreamPacket
kept_in (Say bytes) = []
kept_in (Keep packet) = packet ∷ []

abbrev pub keeps_of : List ClientStep → List StreamPacket
keeps_of steps = flat_map (λ step. flat_map kept_in step.actions) steps

-- The packet asks to join: it is a CONN or a LSTN.
abbrev pub IsJoinRequest : Control → Type 0
IsJoinRequest (Conn from letter) = Unit {0}
IsJoinRequest (Lstn from letter) = Unit {0}
IsJoinRequest packet = ⊥

-- How a client got in: it said its CONN or LSTN, and after that it stepped on an ACKN that it had
-- heard, and that the link had said to it.
pub record GotIn (way : Way) (first : Standing) (steps : List ClientStep) : Type 0 where
  pub asking : List ℕ
  pub asks : SpellsControl (join_packet first) asking
  pub before : List ClientStep
  pub answered : ClientStep
  pub after : List ClientStep
  pub in_order : steps ≡ before ++ answered ∷ after
  pub said : Contains (says_of before) asking
  pub at : ℕ
  pub answer : List ℕ
  pub is_ackn : SpellsControl Ackn answer
  pub steps_on_it : answered.input ≡ input.Datagram at answer
  pub answer_heard : Contains way.client_heard (heard.Datagram way.reflector at answer)
  pub answer_said : Contains way.link_said (way.client, answer)

-- The link said the packet to the client, byte for byte.
abbrev pub WasSaid : Way → StreamPacket → Type 0
WasSaid way packet = (bytes : List ℕ) × SpellsStream packet bytes
    × Contains way.link_said (way.client, bytes)

-- What the ends come to: a client that is connected got in; a CONN or LSTN that the link heard from
-- it is its own, byte for byte; each packet that it keeps was said to it; and of two neighbours
-- among these with one stream id, the later number is ahead.
pub record KeepsWhatWasSaid (way : Way) (first : Standing) (steps : List ClientStep) : Type 0 where
  pub got_in : (front rest : List ClientStep) → steps ≡ front ++ rest
      → is_connected (standing_after first front).state ≡ true → GotIn way first front
  pub asks : (at : ℕ) (bytes : List ℕ) (packet : Control)
      → Contains way.link_heard (heard.Datagram way.client at bytes)
      → IsJoinRequest packet → SpellsControl packet bytes
      → SpellsControl (join_packet first) bytes
  pub said : (packet : StreamPacket) → Contains (keeps_of steps) packet → WasSaid way packet
  pub ahead : (front rest : List StreamPacket) (a b : StreamPacket)
      → keeps_of steps ≡ front ++ a ∷ b ∷ rest → b.sid ≡ a.sid → IsAhead b.number a.number
