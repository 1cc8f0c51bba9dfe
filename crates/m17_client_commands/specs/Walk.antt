-- Where the reading of a script stands between its records. No public clause cites this module.
use Rattle.std.specs.Prelude.{◌≡◌, ℕ, ◌*◌, ◌<◌, List, [], ◌++◌, length, Option, Some, Result, Ok, Err, OnOk, OnErr}
use Rattle.m17_client_commands.specs.declared.reason.ScriptFailure.{ScriptFailure}
use Rattle.m17_client_commands.specs.declared.reason.ScriptFailure.TheVariants.{Refused, Device, NoMemory}
use Rattle.m17_client_commands.specs.declared.reason.ScriptReason.TheVariants.{Large}
use Rattle.m17_client_commands.specs.Script.{most_records, record_size}
use Rattle.m17_io.specs.Sink.{AppendsPrefix}
use Rattle.m17_client.specs.declared.talking.TalkEnd.{TalkEnd}
use Rattle.m17_client_commands.specs.Talked.{talk_line}

-- After as many records as there may be: how the look for one more byte ends, with what was left of the input and what
-- is.
abbrev pub LooksPast : {T : Type 0} → Result T ScriptFailure → List ℕ → Option (List ℕ) → Type 0
LooksPast (Ok _) left rest = (left ≡ []) × (rest ≡ Some [])
LooksPast (Err (Refused place reason)) left rest =
    (reason ≡ Large) × (place ≡ record_size * most_records) × (0 < length left)
LooksPast (Err (Device fault)) left rest = Unit {0}
LooksPast (Err NoMemory) left rest = ⊥

-- the line of this end was appended, or where the sink failed a first part of it
pub record Prints {T E : Type 0} (result : Result T E) (end : TalkEnd)
    (first written : Option (List ℕ)) : Type 0 where
  pub all_of_it : OnOk result ((before : List ℕ) → first ≡ Some before
      → written ≡ Some (before ++ talk_line end))
  pub part_of_it : OnErr result ((before : List ℕ) → first ≡ Some before
      → AppendsPrefix before (talk_line end) written)
