-- What an item of a module spells on the wire.
use Rattle.std.specs.Prelude.{ℕ, Option, None, Some}
use Rattle.m17_control.specs.declared.event.Why.TheVariants.{Asked, Moved, Silent, Stopped, Replaced}
use Rattle.m17_control.specs.declared.item.Said.{Said}
use Rattle.m17_control.specs.declared.item.Said.TheVariants.{Hello, Frame, Echo, Reply, Bye}
use Rattle.m17_control.specs.declared.item.Said.TheVariants as said
use Rattle.m17_control.specs.declared.packet.Control.TheVariants.{Ackn, Disc}
use Rattle.m17_control.specs.declared.packet.Control.TheVariants as controls
use Rattle.m17_control.specs.declared.packet.Packet.{Packet}
use Rattle.m17_control.specs.declared.packet.Packet.TheVariants.{Stream, Control}

-- The packet that says it, in the name of the reflector; none for a member that moved or was replaced.
abbrev pub packet_said : Said → ℕ → Option Packet
packet_said (Hello after) name = Some (Control Ackn)
packet_said (Frame position packet) name = Some (Stream packet)
packet_said (Echo position packet) name = Some (Stream packet)
packet_said (Reply control) name = Some (Control control)
packet_said said.Ping name = Some (Control (controls.Ping name))
packet_said (Bye Asked) name = Some (Control (Disc None))
packet_said (Bye Silent) name = Some (Control (Disc (Some name)))
packet_said (Bye Stopped) name = Some (Control (Disc (Some name)))
packet_said (Bye Moved) name = None
packet_said (Bye Replaced) name = None
