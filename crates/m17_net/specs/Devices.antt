-- What contracts see of an ear, a mouth and a book of a real machine, and of its ports.
use Rattle.std.specs.Prelude.{◌≡◌, ◌≢◌, ◌⊎◌, ℕ, suc, min, ◌-◌, ◌^◌, ◌≤◌, List, [], ◌∷◌, take, Bool, true, false, Option, option_map, None, Some}
use Rattle.std.specs.Net.Addr.{is_ipv6}
use Rattle.std.specs.Net.Grammar.{IsSocketText}
use Rattle.std.specs.Net.Socket.{socket_ip}
use Rattle.std.specs.declared.net.socket_addr.SocketAddr.{SocketAddr}
use Rattle.std.specs.declared.time.Instant.{Instant}
use Rattle.m17_values.specs.declared.heard.Heard.{Heard}
use Rattle.m17_values.specs.declared.heard.Heard.TheVariants as heard
use Rattle.m17_ports.specs.Told.{told_then}
use Rattle.m17_ports.specs.Ear.{EarTold}
use Rattle.m17_ports.specs.Mouth.{Datagram, MouthTold}
use Rattle.m17_ports.specs.Book.{BookTold}
use Rattle.m17_ports.specs.Ports.{PortsTold, next_number}
use Rattle.m17_disk.specs.Queue.{IsNewQueue, QueueKept}
use Rattle.m17_disk.specs.Writing.{IsOfBook, IsReady}
use Rattle.m17_disk.specs.declared.writer.Writer.{Writer}
use Rattle.m17_net.specs.Address.{IsPeerAt, IsAddressOf}
use Rattle.m17_net.specs.Moments.{ReadsMoment}
use Rattle.m17_net.specs.Wire.{Sent}
use Rattle.m17_net.specs.Stops.{StopKept}

-- an ear: its clock, its socket, the instant from which its moments are counted, the moment at which it ends, if it does,
-- what ends it before, its last moment, whether it may wait long, the moment of the last datagram, if one came, whether its
-- socket was last told to wait long, how often it has failed, and its number
pub record EarKept (C W : Type 0) : Type 0 where
  pub clock : C
  pub wire : W
  pub start : Instant
  pub until : Option ℕ
  pub stop : StopKept
  pub last : ℕ
  pub rests : Bool
  pub came : Option ℕ
  pub long : Bool
  pub faults : ℕ
  pub number : ℕ

-- an ear that has heard nothing
abbrev pub new_ear : {C W : Type 0} → C → W → Instant → Option ℕ → StopKept → Bool → ℕ
    → EarKept C W
new_ear clock wire start until stop rests n = record {
  clock = clock;
  wire = wire;
  start = start;
  until = until;
  stop = stop;
  last = 0;
  rests = rests;
  came = None;
  long = false;
  faults = 0;
  number = n;
}

-- what an ear of a socket tells: its faults and its number, and nothing of what it heard
abbrev pub udp_ear_told : {C W : Type 0} → EarKept C W → EarTold (Unit {0})
udp_ear_told ear = record {
  heard = None;
  faults = min ear.faults (2 ^ 64 - 1);
  device = record { mark = Some (record { number = ear.number; script = None }); label = tt };
}

-- a mouth: its socket, whether that is one of IPv6, how often it has failed, and its number
pub record MouthKept (W : Type 0) : Type 0 where
  pub wire : W
  pub six : Bool
  pub faults : ℕ
  pub number : ℕ

-- a mouth that has said nothing
abbrev pub new_mouth : {W : Type 0} → W → Bool → ℕ → MouthKept W
new_mouth wire six n = record { wire = wire; six = six; faults = 0; number = n }

-- what a mouth of a socket tells: its faults and its number, and nothing of what it said
abbrev pub udp_mouth_told : {W : Type 0} → MouthKept W → MouthTold (Unit {0})
udp_mouth_told mouth = record {
  said = None;
  tallies = λ _. None;
  faults = min mouth.faults (2 ^ 64 - 1);
  device = record { mark = Some (record { number = mouth.number; peers = None }); label = tt };
}

-- a book: its file, how often it has failed, and its number
pub record BookKept (F : Type 0) : Type 0 where
  pub file : F
  pub faults : ℕ
  pub number : ℕ

-- a book in which nothing was written
abbrev pub new_book : {F : Type 0} → F → ℕ → BookKept F
new_book file n = record { file = file; faults = 0; number = n }

-- what a book in a file tells: its faults and its number, and no bytes
abbrev pub file_book_told : {F : Type 0} → BookKept F → BookTold (Unit {0})
file_book_told book = record {
  written = None;
  faults = min book.faults (2 ^ 64 - 1);
  device = record { mark = Some book.number; label = tt };
}

-- ports: the instant that they read when they were made, if their clock gave one, whether their ears may wait long, whether
-- something stops these, whether they lock a file before they open one, how many calls there were, and how often they have
-- failed
pub record PortsKept : Type 0 where
  pub start : Option Instant
  pub rests : Bool
  pub stops : Bool
  pub locks : Bool
  pub calls : ℕ
  pub faults : ℕ

-- what ports of a system tell: their calls and their faults, and nothing of what was asked
abbrev pub udp_ports_told : PortsKept → PortsTold
udp_ports_told ports =
    record { asked = None; calls = ports.calls; faults = min ports.faults (2 ^ 64 - 1) }

-- The job is that of a thread which was started for a book: it is that of a new book, it took nothing, and its file has
-- not failed.
pub record IsBegun {F : Type 0} (job : Writer (BookKept F)) : Type 0 where
  pub book : QueueKept
  pub new : IsNewQueue 0 book
  pub of_book : IsOfBook book job
  pub ready : IsReady job
  pub no_fault : job.book.faults ≡ 0

-- An ear that ends at a moment, or never, is over where its last moment is this one.
abbrev pub IsOver : Option ℕ → ℕ → Type 0
IsOver None last = ⊥
IsOver (Some until) last = until ≤ last

-- It is over, or has seen that it is to stop.
abbrev pub IsDone : Option ℕ → Bool → ℕ → Type 0
IsDone until stopped last = IsOver until last ⊎ (stopped ≡ true)

-- the answer tells this moment, if it tells one
abbrev pub TellsMoment : Heard → ℕ → Type 0
TellsMoment (heard.Datagram from at bytes) last = at ≡ last
TellsMoment (heard.Quiet at) last = at ≡ last
TellsMoment heard.Fault last = Unit {0}
TellsMoment heard.End last = Unit {0}

-- one datagram was taken at the most, and is not told
abbrev pub TakesUntold : Option (List Sent) → Option (List Sent) → Type 0
TakesUntold before after =
    (after ≡ before) ⊎ ((lost : Sent) × (after ≡ told_then before (lost ∷ [])))

-- What the socket gave, and what the ear says of it: of a datagram its first 64 bytes and the peer at its address;
-- nothing else was taken. Only at a Fault and at the End a datagram is lost that was taken.
abbrev pub TellsTaken : Heard → Option (List Sent) → Option (List Sent) → Type 0
TellsTaken (heard.Datagram from at bytes) before after = (address : SocketAddr) × (whole : List ℕ)
    × (after ≡ told_then before ((address, whole) ∷ []))
    × IsPeerAt address from × (bytes ≡ take 64 whole)
TellsTaken (heard.Quiet at) before after = after ≡ before
TellsTaken heard.Fault before after = TakesUntold before after
TellsTaken heard.End before after = TakesUntold before after

-- what an ear has found by a moment: what its socket took and sent, how often that broke, the instants that its clock
-- read, how often a reading gave an error, and its last moment
pub record EarFound : Type 0 where
  pub taken : Option (List Sent)
  pub sent : Option (List Sent)
  pub broken : Option ℕ
  pub readings : Option (List Instant)
  pub unread : Option ℕ
  pub last : ℕ

abbrev pub ear_found : Option (List Sent) → Option (List Sent) → Option ℕ
    → Option (List Instant) → Option ℕ → ℕ → EarFound
ear_found taken sent broken readings unread last = record {
  taken = taken;
  sent = sent;
  broken = broken;
  readings = readings;
  unread = unread;
  last = last;
}

-- One thing failed, once: the socket broke, or a reading of the clock gave an error.
abbrev pub HasFailed : EarFound → EarFound → Type 0
HasFailed before after =
    ((after.broken ≡ option_map suc before.broken) × (after.unread ≡ before.unread))
    ⊎ ((after.broken ≡ before.broken) × (after.unread ≡ option_map suc before.unread))

-- The count rose by one at a Fault, and stands at another answer. One that has come to 2^64 - 1 stays there.
pub record CountsFault (answer : Heard) (before after : ℕ) : Type 0 where
  pub fault : answer ≡ heard.Fault → after ≡ next_number before
  pub other : answer ≢ heard.Fault → after ≡ before

-- what a mouth's socket sent: one datagram, to the address of its peer
abbrev pub SendsTo : Bool → Datagram → Option (List Sent) → Option (List Sent) → Type 0
SendsTo six datagram before after = (address : SocketAddr) × IsAddressOf six datagram.0 address
    × (after ≡ told_then before ((address, datagram.1) ∷ []))

-- The halves of a link that is new: both have this number, the ear counts its moments from the start of the ports, ends at
-- its moment, stops where those of the ports do and may wait long where they may, and the mouth knows whether the address
-- that was asked for is one of IPv6.
pub record IsNewLink {C W : Type 0} (bind : List ℕ) (until : Option ℕ) (start : Option Instant)
    (rests stops : Bool) (n : ℕ) (link : EarKept C W × MouthKept W) : Type 0 where
  pub address : SocketAddr
  pub text : IsSocketText bind address
  pub started : start ≡ Some link.0.start
  pub ear : link.0 ≡ new_ear link.0.clock link.0.wire link.0.start until
      (record { there = stops; seen = false }) rests n
  pub mouth : link.1 ≡ new_mouth link.1.wire (is_ipv6 (socket_ip address)) n

-- What an ear that counts its moments from an instant, and ends at a moment or never, does at one call. `stopped` says
-- whether it has seen that it is to stop.
pub record Listens (start : Instant) (until : Option ℕ) (stopped : Bool)
    (before : EarFound) (answer : Heard) (after : EarFound) : Type 0 where
  -- an ear that is over, or stopped, leaves its socket alone
  pub over : IsDone until stopped before.last → (answer ≡ heard.End) × (after ≡ before)
  -- it ends where it is stopped, and at the first moment at which it is over, and at no earlier one
  pub ends : answer ≡ heard.End → IsDone until stopped after.last
  pub goes_on : answer ≢ heard.End → answer ≢ heard.Fault → ¬ (IsOver until after.last)
  -- no moment lies before an earlier one
  pub forward : before.last ≤ after.last
  pub moment : TellsMoment answer after.last
  -- it reads its clock once, and its moment is that of the reading; a Fault has none, and changes none
  pub reads : ¬ (IsDone until stopped before.last) → answer ≢ heard.Fault
      → ReadsMoment start (before.readings, before.last) (after.readings, after.last)
  pub reads_none : answer ≡ heard.Fault
      → (after.readings ≡ before.readings) × (after.last ≡ before.last)
  pub taken : TellsTaken answer before.taken after.taken
  pub nothing_sent : after.sent ≡ before.sent
  -- a socket that broke is told as a Fault
  pub sound : answer ≢ heard.Fault → after.broken ≡ before.broken
  -- and so is a clock that gave an error
  pub timely : answer ≢ heard.Fault → after.unread ≡ before.unread
  -- nothing else is a Fault
  pub fault : answer ≡ heard.Fault → HasFailed before after
