-- What the write of a line came to. No public clause cites this module.
use Rattle.std.specs.Prelude.{◌≡◌, ℕ, List, ◌++◌, Option, Some, Result, OnOk, OnErr}
use Rattle.m17_io.specs.Sink.{AppendsPrefix}
use Rattle.m17_client.specs.declared.crossing.BridgeEnd.{BridgeEnd}
use Rattle.m17_client_commands.specs.Bridged.{bridge_line}

-- the line of this end was appended, or where the sink failed a first part of it
pub record Prints {T E : Type 0} (result : Result T E) (end : BridgeEnd)
    (first written : Option (List ℕ)) : Type 0 where
  pub all_of_it : OnOk result ((before : List ℕ) → first ≡ Some before
      → written ≡ Some (before ++ bridge_line end))
  pub part_of_it : OnErr result ((before : List ℕ) → first ≡ Some before
      → AppendsPrefix before (bridge_line end) written)
