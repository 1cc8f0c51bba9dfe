-- What a socket for datagrams takes and sends, and what is told of its errors and a clock's.
use Rattle.std.specs.Prelude.{◌≡◌, ℕ, suc, ◌<◌, List, [], ◌∷◌, length, take, All, Option, option_map, Result, Ok, Err}
use Rattle.std.specs.IoError.{error_kind}
use Rattle.std.specs.declared.io.Error.{Error}
use Rattle.std.specs.declared.io.ErrorKind.{ErrorKind}
use Rattle.std.specs.declared.net.socket_addr.SocketAddr.{SocketAddr}
use Rattle.m17_ports.specs.Told.{told_then}
use Rattle.m17_net.specs.declared.trouble.Trouble.{Trouble}
use Rattle.m17_net.specs.declared.trouble.Trouble.TheVariants.{Waited, Passing, Unreachable, Broken}
use Rattle.m17_net.specs.Errors.{meaning_of}
use Rattle.m17_net.specs.Tries.{GivesUpAfter}

-- A datagram on the network: the address that it comes from or goes to, and its bytes.
abbrev pub Sent : Type 0
Sent = SocketAddr × List ℕ

-- What a call found: where the datagram came from, how much room there was, and the bytes that it
-- put there.
pub record Found : Type 0 where
  pub from : SocketAddr
  pub room : ℕ
  pub bytes : List ℕ

abbrev pub found : SocketAddr → ℕ → List ℕ → Found
found from room bytes = record { from = from; room = room; bytes = bytes }

-- One datagram was taken, and as much of it as there was room for was found.
abbrev pub HasTaken : Option (List Sent) → Found → Option (List Sent) → Type 0
HasTaken before f after = (whole : List ℕ)
    × (after ≡ told_then before ((f.from, whole) ∷ [])) × (f.bytes ≡ take f.room whole)

-- how often a socket broke, after an error that means this
abbrev pub broken_after : Trouble → Option ℕ → Option ℕ
broken_after Waited n = n
broken_after Passing n = n
broken_after Unreachable n = n
broken_after Broken n = option_map suc n

-- A call breaks the socket where its error is none that passes.
abbrev pub BreaksBy : {T : Type 0} → Result T Error → Option ℕ → Option ℕ → Type 0
BreaksBy (Ok _) before after = after ≡ before
BreaksBy (Err e) before after = after ≡ broken_after (meaning_of (error_kind e)) before

-- A call that gave an error counts one more, and each other call leaves the count.
abbrev pub CountsError : {T E : Type 0} → Result T E → Option ℕ → Option ℕ → Type 0
CountsError (Ok _) before after = after ≡ before
CountsError (Err _) before after = after ≡ option_map suc before

-- A call that gave an error is told by the kind of that, and each other call is not.
abbrev pub TellsError : {T : Type 0} → Result T Error
    → Option (List ErrorKind) → Option (List ErrorKind) → Type 0
TellsError (Ok _) before after = after ≡ before
TellsError (Err e) before after = after ≡ told_then before (error_kind e ∷ [])

-- an error of this kind is worth another call
abbrev pub IsPassing : ErrorKind → Type 0
IsPassing kind = meaning_of kind ≡ Passing

-- After these errors a datagram is given up: 16 that are each worth another call; or fewer of these, and then one that
-- is not.
abbrev pub GivesUp : List ErrorKind → Type 0
GivesUp errors = GivesUpAfter IsPassing 16 errors

-- After these errors, if there are any, another call is made: fewer than 16, each worth that.
abbrev pub GoesOn : List ErrorKind → Type 0
GoesOn errors = All IsPassing errors × (length errors < 16)

-- the calls that were made gave errors after which a datagram is given up
abbrev pub HasGivenUp : Option (List ErrorKind) → Option (List ErrorKind) → Type 0
HasGivenUp before after =
    (errors : List ErrorKind) × (after ≡ told_then before errors) × GivesUp errors

-- the calls that were made gave errors after which another is made, if they gave any
abbrev pub HasGoneOn : Option (List ErrorKind) → Option (List ErrorKind) → Type 0
HasGoneOn before after =
    (errors : List ErrorKind) × (after ≡ told_then before errors) × GoesOn errors
