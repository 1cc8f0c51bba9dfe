-- What an entry of a link comes to: the table of the directory, for whom is known.
use Rattle.std.specs.Prelude.{◌==◌, ◌&&◌, ℕ, Bool, true, false, not, List, [], ◌∷◌, ◌++◌, map, filter, Option, None, Some, if◌then◌else◌}
use Rattle.m17_values.specs.declared.peer.Peer.{Peer}
use Rattle.m17_control.specs.declared.event.Body.{Body}
use Rattle.m17_control.specs.declared.event.Body.TheVariants as body
use Rattle.m17_control.specs.declared.event.Why.{Why}
use Rattle.m17_control.specs.declared.event.Why.TheVariants.{Asked, Moved, Stopped, Replaced}
use Rattle.m17_control.specs.declared.packet.Control.{Control}
use Rattle.m17_control.specs.declared.packet.Control.TheVariants as control
use Rattle.m17_control.specs.declared.packet.Packet.{Packet}
use Rattle.m17_control.specs.declared.packet.Packet.TheVariants as packets
use Rattle.m17_control.specs.Modules.{serves, letters_of}
use Rattle.m17_stream.specs.declared.packet.StreamPacket.{StreamPacket}
use Rattle.m17_directory.specs.declared.dispatch.Dispatch.{Dispatch}
use Rattle.m17_directory.specs.declared.dispatch.Dispatch.TheVariants.{ToModule, ToDoor}
use Rattle.m17_directory.specs.declared.known.Known.{Known}
use Rattle.m17_directory.specs.declared.known.Request.{Request}
use Rattle.m17_directory.specs.declared.verdict.LinkVerdict.{LinkVerdict}
use Rattle.m17_directory.specs.declared.verdict.LinkVerdict.TheVariants.{Routed, Alive, Asks, NotConnected, NotServed, Full, Stray, Ended}
use Rattle.m17_directory.specs.declared.verdict.Act.{Act}
use Rattle.m17_directory.specs.declared.verdict.Act.TheVariants as act
use Rattle.m17_directory.specs.Entries.{Setup, Claim}

-- The entry: its link's setup, its index, and the link's moment at it.
pub record Here : Type 0 where
  pub setup : Setup
  pub index : ℕ
  pub moment : ℕ

-- What it comes to: its verdict, what is posted, in order, and who of the known leaves, in order.
pub record Outcome : Type 0 where
  pub verdict : LinkVerdict
  pub posts : List Dispatch
  pub left : List Known

abbrev pub only : LinkVerdict → Outcome
only verdict = record { verdict = verdict; posts = []; left = [] }

-- an event for the module with this letter, which carries the tag of the entry and the link's
-- moment
abbrev pub to_module : Here → ℕ → Body → Dispatch
to_module here letter what = ToModule letter (record {
  tag = record { link = here.setup.link; index = here.index };
  at = here.moment;
  body = what;
})

-- the same for each served module, in order of letters
abbrev pub to_each_module : Here → Body → List Dispatch
to_each_module here what =
    map (λ letter. to_module here letter what) (letters_of here.setup.modules)

-- a reply past all modules
abbrev pub to_door : Here → Peer → Control → Dispatch
to_door here peer reply = ToDoor (record { link = here.setup.link; peer = peer; control = reply })

abbrev pub leave : Here → Why → Known → Dispatch
leave here why k = to_module here k.letter (body.Leave k.member why)

-- the verdict and the one thing that is posted, where nobody leaves
abbrev pub posting : LinkVerdict → Dispatch → Outcome
posting verdict post = record { verdict = verdict; posts = post ∷ []; left = [] }

-- the verdict where one that is known leaves
abbrev pub leaving : Here → LinkVerdict → Why → Known → Outcome
leaving here verdict why k =
    record { verdict = verdict; posts = leave here why k ∷ []; left = k ∷ [] }

-- it is known as what it asks for: the same module, callsign and kind
abbrev pub is_what : Request → Known → Bool
is_what request k = k.letter == request.letter && k.callsign == request.callsign
    && (if request.listen then k.listen else not k.listen)

-- A line of the table: what becomes of a packet.
pub data Line : Type 0 where
  -- nothing is posted
  Nothing : (verdict : LinkVerdict) → Line
  -- the peer that sent it gets a reply past all modules
  AtDoor : (verdict : LinkVerdict) (reply : Control) → Line
  -- the module of one that is known gets its voice frame
  Frame : (k : Known) (frame : StreamPacket) → Line
  -- the module of one that is known gets a reply to it
  Reply : (k : Known) (what : Act) (reply : Control) → Line
  -- one that is known leaves
  Leaves : (k : Known) (verdict : LinkVerdict) (why : Why) → Line

-- A request of one that is known: for a module that is not served, for what it has already, and for
-- anything else.
abbrev pub line_known_asks : Here → Known → Request → Line
line_known_asks here k request =
    if not (serves here.setup.modules request.letter)
    then Line.AtDoor (NotServed request.letter) control.Nack
    else (if is_what request k then Line.Reply k act.Again control.Ackn
    else Line.Leaves k Asks Moved)

-- A request of another peer.
abbrev pub line_other_asks : Here → Request → Line
line_other_asks here request =
    if not (serves here.setup.modules request.letter)
    then Line.AtDoor (NotServed request.letter) control.Nack else Line.Nothing Asks

-- The packets of one that is known, in the order of the table.
abbrev pub line_of_known : Here → Known → Packet → Line
line_of_known here k (packets.Control (control.Conn from letter)) =
    line_known_asks here k (record { letter = letter; callsign = from; listen = false })
line_of_known here k (packets.Control (control.Lstn from letter)) =
    line_known_asks here k (record { letter = letter; callsign = from; listen = true })
line_of_known here k (packets.Stream frame) = Line.Frame k frame
line_of_known here k (packets.Control (control.Ping from)) =
    Line.Reply k act.Pong (control.Pong here.setup.name)
line_of_known here k (packets.Control (control.Pong from)) = Line.Nothing (Alive k.letter)
line_of_known here k (packets.Control (control.Disc from)) =
    Line.Leaves k (Routed k.letter act.Leave) Asked
line_of_known here k (packets.Control control.Ackn) = Line.Nothing Stray
line_of_known here k (packets.Control control.Nack) = Line.Nothing Stray

-- The packets of another peer, in the order of the table.
abbrev pub line_of_other : Here → Packet → Line
line_of_other here (packets.Control (control.Conn from letter)) =
    line_other_asks here (record { letter = letter; callsign = from; listen = false })
line_of_other here (packets.Control (control.Lstn from letter)) =
    line_other_asks here (record { letter = letter; callsign = from; listen = true })
line_of_other here (packets.Stream frame) = Line.Nothing NotConnected
line_of_other here (packets.Control (control.Ping from)) = Line.Nothing NotConnected
line_of_other here (packets.Control (control.Pong from)) = Line.Nothing NotConnected
line_of_other here (packets.Control (control.Disc None)) = Line.Nothing NotConnected
line_of_other here (packets.Control (control.Disc (Some from))) =
    Line.AtDoor NotConnected (control.Disc None)
line_of_other here (packets.Control control.Ackn) = Line.Nothing Stray
line_of_other here (packets.Control control.Nack) = Line.Nothing Stray

-- What a line comes to, where this peer sent the packet.
abbrev pub outcome_of : Here → Peer → Line → Outcome
outcome_of here x (Line.Nothing verdict) = only verdict
outcome_of here x (Line.AtDoor verdict reply) = posting verdict (to_door here x reply)
outcome_of here x (Line.Frame k frame) =
    posting (Routed k.letter act.Packet) (to_module here k.letter (body.Packet k.member frame))
outcome_of here x (Line.Reply k what reply) =
    posting (Routed k.letter what) (to_module here k.letter (body.Reply k.member reply))
outcome_of here x (Line.Leaves k verdict why) = leaving here verdict why k

abbrev pub known_asks : Here → Known → Request → Outcome
known_asks here k request = outcome_of here k.peer (line_known_asks here k request)

abbrev pub other_asks : Here → Peer → Request → Outcome
other_asks here x request = outcome_of here x (line_other_asks here request)

abbrev pub of_known : Here → Known → Packet → Outcome
of_known here k p = outcome_of here k.peer (line_of_known here k p)

abbrev pub of_other : Here → Peer → Packet → Outcome
of_other here x p = outcome_of here x (line_of_other here p)

-- A packet, by the row of the peer that sent it, if it is known.
abbrev pub of_packet : Here → Peer → Option Known → Packet → Outcome
of_packet here from (Some k) p = of_known here k p
of_packet here from None p = of_other here from p

-- The end of the link: all leave, in order of peers, and then each module is told.
abbrev pub of_end : Here → List Known → Outcome
of_end here rows = record {
  verdict = Ended;
  posts = map (leave here Stopped) rows ++ to_each_module here body.Stop;
  left = rows;
}

-- What becomes of a request that was asked, beside the others that are still known: with a claim
-- the other at its place leaves, if there is one, and the peer joins; without one it is turned
-- away.
abbrev pub has_place : ℕ → Known → Bool
has_place place k = k.member.place == place

abbrev pub settled : Here → List Known → Peer → Request → Option Claim → Outcome
settled here others x request None = posting Full (to_door here x control.Nack)
settled here others x request (Some claim) =
    let replaced = filter (has_place claim.member.place) others in
    record {
      verdict = Routed request.letter act.Join;
      posts = map (leave here Replaced) replaced
          ++ to_module here request.letter
          (body.Join claim.member x request.callsign request.listen claim.after) ∷ [];
      left = replaced;
    }
