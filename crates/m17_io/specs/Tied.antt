-- Reading while output may be held back.
use Rattle.std.specs.Prelude.{◌≡◌, ◌⊎◌, ℕ, Bool, true, Option, None, Some, Result, Ok, Err}
use Rattle.m17_io.specs.declared.fault.Fault.{Fault}

-- A read may be begun: bytes are at hand, so that it does not wait, or the sink holds nothing back.
abbrev pub MayRead : Bool → ℕ → Type 0
MayRead at_hand held_back = (at_hand ≡ true) ⊎ (held_back ≡ 0)

-- which device a call says that failed, if one did
abbrev pub fault_of : {T : Type 0} → Result T Fault → Option Fault
fault_of (Ok _) = None
fault_of (Err fault) = Some fault
