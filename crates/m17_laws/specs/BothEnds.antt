-- A link of a run of the reflector as one end of a way, and what both ends of it agree on.
use Rattle.std.specs.Prelude.{◌≡◌, ◌⊎◌, ℕ, suc, true, List, ◌++◌, take, Contains, Some}
use Rattle.m17_values.specs.declared.heard.Heard.TheVariants as heard
use Rattle.m17_values.specs.declared.member.Member.{Member}
use Rattle.m17_values.specs.declared.peer.Peer.{Peer}
use Rattle.m17_stream.specs.declared.packet.StreamPacket.{StreamPacket}
use Rattle.m17_control.specs.declared.event.Event.{Event}
use Rattle.m17_control.specs.declared.item.Item.{Item}
use Rattle.m17_control.specs.declared.packet.Control.TheVariants.{Ackn}
use Rattle.m17_control.specs.declared.packet.Packet.TheVariants as packets
use Rattle.m17_control.specs.Spelled.{packet_said}
use Rattle.m17_ports.specs.Ear.{EarTold}
use Rattle.m17_ports.specs.Mouth.{MouthTold}
use Rattle.m17_ports.specs.Told.{StartsEmpty}
use Rattle.m17_floor.specs.Laws.{IsAdmittedPacket}
use Rattle.m17_module.specs.Events.{acts_of}
use Rattle.m17_module.specs.Echoes.{echo_at}
use Rattle.m17_module.specs.Items as module_items
use Rattle.m17_module.specs.Items.{floor_setup, items_at}
use Rattle.m17_module.specs.Laws.{FollowsJoin}
use Rattle.m17_lane.specs.Ends.{TrailEnd}
use Rattle.m17_reflect.specs.Links.{At, link_setup, setup_at}
use Rattle.m17_reflect.specs.Queues.{carried}
use Rattle.m17_reflect.specs.Run.{Run}
use Rattle.m17_reflect.specs.Trails.{events_of}
use Rattle.m17_client.specs.Standing.{Standing}
use Rattle.m17_client.specs.Steps.{ClientStep, is_connected, standing_after}
use Rattle.m17_client.specs.Way.{GotIn, KeepsWhatWasSaid, Way, keeps_of}

-- The link with this number is the link's end of the way: its ear and its mouth were new, and they
-- tell what the way says that the link heard and said.
pub record IsLinksEnd {E M B : Type 0} (run : Run E M B) (i : ℕ) (way : Way) : Type 0 where
  pub ear_before : EarTold E
  pub ear_after : EarTold E
  pub ear_was : At run.before.ears i ear_before
  pub ear_is : At run.after.ears i ear_after
  pub new_ear : StartsEmpty ear_before.heard
  pub heard : ear_after.heard ≡ Some way.link_heard
  pub mouth_before : MouthTold M
  pub mouth_after : MouthTold M
  pub mouth_was : At run.before.mouths i mouth_before
  pub mouth_is : At run.after.mouths i mouth_after
  pub new_mouth : StartsEmpty mouth_before.said
  pub said : mouth_after.said ≡ Some way.link_said

-- A position of a module gives the packet out: the packet there is admitted, or the module is a
-- parrot and plays the packet back there.
abbrev pub GivesOut : module_items.Setup → List Event → ℕ → StreamPacket → Type 0
GivesOut setup events n packet = (k : Member)
    × (IsAdmittedPacket (floor_setup setup) (acts_of events) n k packet
    ⊎ ((setup.parrot ≡ true) × (echo_at setup (acts_of events) n ≡ Some (k, packet))))

-- The packet is given out at a position of some module's trail.
pub record IsInATrail {E M B : Type 0} (run : Run E M B) (packet : StreamPacket) : Type 0 where
  pub m : ℕ
  pub trail : TrailEnd Event
  pub there : At run.handed.trails m trail
  pub n : ℕ
  pub gives : GivesOut (setup_at run.plan m) (events_of trail) n packet

-- A module answers an entry of a link: at a position of its trail it gives the peer an ACKN, which
-- goes by that link, and which the queue of its member carried. The Join of the member came of the
-- entry, and stands at that position or before it.
pub record IsAnswered {E M B : Type 0} (run : Run E M B) (i asked : ℕ) (x : Peer) : Type 0 where
  pub m : ℕ
  pub trail : TrailEnd Event
  pub there : At run.handed.trails m trail
  pub n : ℕ
  pub ackn : Item
  pub gives : Contains (items_at (setup_at run.plan m) (events_of trail) n) ackn
  pub says : packet_said ackn.body (link_setup run.plan i).name ≡ Some (packets.Control Ackn)
  pub to_peer : ackn.peer ≡ x
  pub by_link : ackn.link ≡ i
  pub queued : Contains (carried run.handed.queues m ackn.member.place) ackn
  pub join : FollowsJoin (take (suc n) (events_of trail)) ackn
  pub of_entry : join.event.tag.index ≡ asked

-- How a client got in, as both ends have it: the link heard, at an entry, the CONN or LSTN that the
-- client had said before it heard its ACKN; and a module answered that entry.
pub record BothLetIn {E M B : Type 0} (run : Run E M B) (i : ℕ) (way : Way) (first : Standing)
    (steps : List ClientStep) : Type 0 where
  pub got_in : GotIn way first steps
  pub asked : ℕ
  pub at : ℕ
  pub link_heard : At way.link_heard asked (heard.Datagram way.client at got_in.asking)
  pub answered : IsAnswered run i asked way.client

-- What the ends agree on: the client keeps what was said to it; where it is connected, the link
-- heard its request, and a module answered that; and each packet that it keeps is an admitted one,
-- or a parrot's echo, in some module's trail.
pub record EndsAgree {E M B : Type 0} (run : Run E M B) (i : ℕ) (way : Way) (first : Standing)
    (steps : List ClientStep) : Type 0 where
  pub keeps : KeepsWhatWasSaid way first steps
  pub let_in : (front rest : List ClientStep) → steps ≡ front ++ rest
      → is_connected (standing_after first front).state ≡ true → BothLetIn run i way first front
  pub in_trails : (packet : StreamPacket) → Contains (keeps_of steps) packet
      → IsInATrail run packet
