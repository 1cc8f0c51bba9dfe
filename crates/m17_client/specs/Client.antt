-- The client's table, as one step from where a client stands: what it says or keeps, and where it stands then.
use Rattle.std.specs.Prelude.{◌≡◌, ◌≢◌, ◌⊎◌, ℕ, Bool, false, ◌+◌, ◌<◌, ◌≤◌, List, ◌++◌, Option, None, Some, if◌then◌else◌}
use Rattle.std.specs.Option.{option_to_list}
use Rattle.m17_stream.specs.Stream.{SpellsStream, IsAhead}
use Rattle.m17_stream.specs.declared.packet.StreamPacket.{StreamPacket}
use Rattle.m17_control.specs.Forms.{SpellsControl, Spells, Refuses}
use Rattle.m17_control.specs.declared.packet.Control.{Control}
use Rattle.m17_control.specs.declared.packet.Control.TheVariants as control
use Rattle.m17_control.specs.declared.packet.Packet.{Packet}
use Rattle.m17_control.specs.declared.packet.Packet.TheVariants as packets
use Rattle.m17_control.specs.declared.packet.Refusal.{Refusal}
use Rattle.m17_client.specs.declared.state.Ending.TheVariants as ending
use Rattle.m17_client.specs.declared.state.LastKept.{LastKept}
use Rattle.m17_client.specs.declared.state.State.{State}
use Rattle.m17_client.specs.declared.state.State.TheVariants.{Idle, Connecting, Connected, Leaving, Closed}
use Rattle.m17_client.specs.declared.state.Input.{Input}
use Rattle.m17_client.specs.declared.state.Input.TheVariants.{Datagram, Quiet, Send, Leave}
use Rattle.m17_client.specs.declared.state.Action.{Action}
use Rattle.m17_client.specs.declared.state.Action.TheVariants.{Say, Keep}
use Rattle.m17_client.specs.Standing.{Standing, at_moment}

-- The packet by which the client asks to join: LSTN where it only listens, else CONN.
abbrev pub join_packet : Standing → Control
join_packet c = if c.listens then control.Lstn c.call c.letter else control.Conn c.call c.letter

-- The action says this control packet.
abbrev pub Says : Control → Option Action → Type 0
Says packet action = (bytes : List ℕ) × SpellsControl packet bytes
    × (action ≡ Some (Say (record { items = bytes })))

-- The action says this stream packet.
abbrev pub SaysFrame : StreamPacket → Option Action → Type 0
SaysFrame packet action = (bytes : List ℕ) × SpellsStream packet bytes
    × (action ≡ Some (Say (record { items = bytes })))

-- Nothing is said or kept, and the client stays as it is.
abbrev pub Stays : Standing → Option Action → Standing → Type 0
Stays c action new = (action ≡ None) × (new ≡ c)

-- Nothing is said or kept, and the client gets this state.
abbrev pub Becomes : State → Standing → Option Action → Standing → Type 0
Becomes state c action new = (action ≡ None) × (new ≡ record c { state = state })

-- The client asks to join, for this time.
abbrev pub Joins : ℕ → Standing → Option Action → Standing → Type 0
Joins tries c action new = Says (join_packet c) action
    × (new ≡ record c { conn_at = c.moment; state = Connecting tries })

-- The time rule of each state, at the client's moment.
abbrev pub ByTime : State → Standing → Option Action → Standing → Type 0
ByTime Idle c action new = Joins 1 c action new
ByTime (Connecting tries) c action new =
    ((c.conn_at + 1000 ≤ c.moment) × (tries < 5) × Joins (tries + 1) c action new)
    ⊎ (((c.conn_at + 1000 ≤ c.moment) × (5 ≤ tries) × Becomes (Closed ending.NoAnswer) c action new)
    ⊎ ((c.moment < c.conn_at + 1000) × Stays c action new))
ByTime (Connected heard_at) c action new =
    ((heard_at + 30000 ≤ c.moment) × Becomes (Closed ending.Lost) c action new)
    ⊎ ((c.moment < heard_at + 30000) × Stays c action new)
ByTime Leaving c action new =
    ((c.leave_at + 1000 ≤ c.moment) × Becomes (Closed ending.Asked) c action new)
    ⊎ ((c.moment < c.leave_at + 1000) × Stays c action new)
ByTime (Closed why) c action new = Stays c action new

-- A packet may be kept: none was yet, or the last one kept has another stream id, or the number is ahead of that
-- one's.
abbrev pub MayKeep : Option LastKept → StreamPacket → Type 0
MayKeep None packet = Unit {0}
MayKeep (Some last) packet = (last.sid ≢ packet.sid) ⊎ IsAhead packet.number last.number

-- A stream packet reaches a connected client: it is kept where it may be.
abbrev pub Keeps : StreamPacket → Standing → Option Action → Standing → Type 0
Keeps packet c action new =
    (MayKeep c.kept packet × (action ≡ Some (Keep packet))
    × (new ≡ record c { kept = Some (record { sid = packet.sid; number = packet.number }) }))
    ⊎ ((MayKeep c.kept packet → ⊥) × Stays c action new)

-- A packet reaches a client in this state. A connected one was heard from, whatever it is.
abbrev pub ByPacket : State → Packet → Standing → Option Action → Standing → Type 0
ByPacket (Connecting tries) (packets.Control control.Ackn) c action new =
    Becomes (Connected c.moment) c action new
ByPacket (Connecting tries) (packets.Control control.Nack) c action new =
    Becomes (Closed ending.Refused) c action new
ByPacket (Connecting tries) (packets.Control (control.Disc from)) c action new =
    Becomes (Closed ending.Dropped) c action new
ByPacket (Connected heard_at) (packets.Control (control.Ping from)) c action new =
    Says (control.Pong c.call) action × (new ≡ record c { state = Connected c.moment })
ByPacket (Connected heard_at) (packets.Control (control.Disc from)) c action new =
    Becomes (Closed ending.Dropped) c action new
ByPacket (Connected heard_at) (packets.Stream packet) c action new =
    Keeps packet (record c { state = Connected c.moment }) action new
ByPacket (Connected heard_at) packet c action new = Becomes (Connected c.moment) c action new
ByPacket Leaving (packets.Control (control.Disc from)) c action new =
    Becomes (Closed ending.Asked) c action new
ByPacket state packet c action new = Stays c action new

-- Bytes reach a client: what they spell, or nothing where they spell nothing.
abbrev pub ByBytes : List ℕ → Standing → Option Action → Standing → Type 0
ByBytes bytes c action new =
    ((packet : Packet) × Spells packet bytes × ByPacket c.state packet c action new)
    ⊎ ((refusal : Refusal) × Refuses bytes refusal × Stays c action new)

-- The same of bytes that came in this state: in Idle they are only the tick that says CONN.
abbrev pub ByDatagram : State → List ℕ → Standing → Option Action → Standing → Type 0
ByDatagram came bytes c action new =
    ((came ≡ Idle) × Stays c action new) ⊎ ((came ≢ Idle) × ByBytes bytes c action new)

-- The user sends a packet, which only a connected client that doesn't only listen does.
abbrev pub BySend : State → Bool → StreamPacket → Standing → Option Action → Standing → Type 0
BySend (Connected heard_at) false packet c action new = SaysFrame packet action × (new ≡ c)
BySend state listens packet c action new = Stays c action new

-- The user leaves. A client that has asked to join says the 10-byte DISC.
abbrev pub ByLeave : State → Standing → Option Action → Standing → Type 0
ByLeave Idle c action new = Becomes (Closed ending.Asked) c action new
ByLeave (Connecting tries) c action new = Says (control.Disc (Some c.call)) action
    × (new ≡ record c { leave_at = c.moment; state = Leaving })
ByLeave (Connected heard_at) c action new = Says (control.Disc (Some c.call)) action
    × (new ≡ record c { leave_at = c.moment; state = Leaving })
ByLeave state c action new = Stays c action new

-- One step: what the input does to a client that stands so, which actions come of it, in order, and where the client
-- stands then. A Datagram or a Quiet first brings the moment up to date and does the time rule.
abbrev pub IsClientStep : Standing → Input → List Action → Standing → Type 0
IsClientStep old (Datagram at bytes) actions new =
    (tick answer : Option Action) × (mid : Standing)
    × ByTime old.state (at_moment old at) tick mid
    × ByDatagram old.state bytes mid answer new
    × (actions ≡ option_to_list tick ++ option_to_list answer)
IsClientStep old (Quiet at) actions new = (tick : Option Action)
    × ByTime old.state (at_moment old at) tick new × (actions ≡ option_to_list tick)
IsClientStep old (Send packet) actions new = (answer : Option Action)
    × BySend old.state old.listens packet old answer new × (actions ≡ option_to_list answer)
IsClientStep old Leave actions new = (answer : Option Action)
    × ByLeave old.state old answer new × (actions ≡ option_to_list answer)
