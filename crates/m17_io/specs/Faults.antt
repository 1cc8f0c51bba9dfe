-- How a call ended, as the devices' counts of faults tell it.
use Rattle.std.specs.Prelude.{◌≡◌, ◌≢◌, ℕ, ◌+◌, ◌-◌, ◌^◌, ◌≤◌, min, Option, Some, Result, OnOk, OnErr}
use Rattle.m17_io.specs.declared.fault.Fault.{Fault}
use Rattle.m17_io.specs.declared.fault.Fault.TheVariants.{Read, Write}

-- The count rose between the two moments. One that has come to its type's end stays there, and then
-- this says that it stands there.
abbrev pub HasRisen : ℕ → ℕ → Type 0
HasRisen before after = min (before + 1) (2 ^ 64 - 1) ≤ after

-- How a call of one device ended: the count never falls, it rose where a failure is told, and
-- success leaves it.
pub record HasCause {T E : Type 0} (before after : ℕ) (result : Result T E) : Type 0 where
  pub counted : before ≤ after
  pub failed : OnErr result (HasRisen before after)
  pub no_fault : OnOk result (after ≡ before)

-- How a call over a source and a sink ended, by the counts of both (source, sink) before and after: the
-- device that is told to have failed has a higher count, and the other's stands.
pub record HasCauses (before after : ℕ × ℕ) (fault : Option Fault) : Type 0 where
  pub reads_counted : before.0 ≤ after.0
  pub writes_counted : before.1 ≤ after.1
  pub read_failed : fault ≡ Some Read → HasRisen before.0 after.0
  pub write_failed : fault ≡ Some Write → HasRisen before.1 after.1
  pub no_read_fault : fault ≢ Some Read → after.0 ≡ before.0
  pub no_write_fault : fault ≢ Some Write → after.1 ≡ before.1
