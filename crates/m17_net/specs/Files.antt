-- What a file takes of the bytes of a book.
use Rattle.std.specs.Prelude.{◌≡◌, ℕ, ◌-◌, ◌^◌, ◌<◌, List, length, take, All, Option, Result, Ok, Err}
use Rattle.std.specs.Io.KnownBytes.{Appends}
use Rattle.std.specs.IoError.{error_kind}
use Rattle.std.specs.declared.io.Error.{Error}
use Rattle.std.specs.declared.io.ErrorKind.{ErrorKind}
use Rattle.std.specs.declared.io.ErrorKind.TheVariants.{Interrupted}
use Rattle.m17_ports.specs.Told.{told_then}
use Rattle.m17_net.specs.Tries.{GivesUpAfter}

-- What a call answered: how many bytes it took, or the kind of its error.
abbrev pub Answer : Type 0
Answer = Result ℕ ErrorKind

abbrev pub answer_of : Result ℕ Error → Answer
answer_of (Ok n) = Ok n
answer_of (Err e) = Err (error_kind e)

-- Another call is made after this one, while bytes are left: it took some, or was interrupted.
abbrev pub IsGoingOn : Answer → Type 0
IsGoingOn (Ok n) = 0 < n
IsGoingOn (Err kind) = kind ≡ Interrupted

-- the calls that were made answered so that the write is given up, and 2^64 - 1 are made at the most
abbrev pub GivesUpWriting : Option (List Answer) → Option (List Answer) → Type 0
GivesUpWriting before after = (answers : List Answer) × (after ≡ told_then before answers)
    × GivesUpAfter IsGoingOn (2 ^ 64 - 1) answers

-- each of the calls that were made, if any were, took some of the bytes or was interrupted
abbrev pub GoesOnWriting : Option (List Answer) → Option (List Answer) → Type 0
GoesOnWriting before after = (answers : List Answer) × (after ≡ told_then before answers)
    × All IsGoingOn answers

-- A first part of the bytes was appended, or none, and some were not.
abbrev pub AppendsPart : Option (List ℕ) → Option (List ℕ) → List ℕ → Type 0
AppendsPart before after bytes =
    (n : ℕ) × (n < length bytes) × Appends before after (take n bytes)
