-- What an ear tells, and what it has heard.
use Rattle.std.specs.Prelude.{◌≡◌, ◌⊎◌, ℕ, ◌-◌, ◌^◌, ◌≤◌, List, ◌++◌, take, replicate, Contains, Option, Some}
use Rattle.m17_values.specs.declared.heard.Heard.{Heard}
use Rattle.m17_values.specs.declared.heard.Heard.TheVariants.{End, Fault}
use Rattle.m17_io.specs.Faults.{HasRisen}
use Rattle.m17_ports.specs.Told.{told_then, StartsEmpty}
use Rattle.m17_ports.specs.Marks.{Device, EarMark, IsNumbered, ear_number}

-- All that an ear with labels of this kind tells: what was heard so far, where it tells that, how often it failed, and
-- which ear it is.
pub record EarTold (L : Type 0) : Type 0 where
  pub heard : Option (List Heard)
  pub faults : ℕ
  pub device : Device EarMark L

-- What was heard follows the script: a prefix of it, or all of it and then Ends.
abbrev pub FollowsScript : List Heard → List Heard → Type 0
FollowsScript script heard = ((n : ℕ) × (heard ≡ take n script))
    ⊎ ((n : ℕ) × (heard ≡ script ++ replicate n End))

-- What is told ends in as many Ends as are counted, 2^64 - 1, or more.
abbrev pub EndsPastCount : Option (List Heard) → Type 0
EndsPastCount told =
    (front : List Heard) × (n : ℕ) × (2 ^ 64 - 1 ≤ n) × (told ≡ Some (front ++ replicate n End))

-- The ear heard these entries. Its count never falls; it rose where one is a Fault, and stands where none is. Of an ear
-- that was asked past 2^64 - 1 Ends it is not told what it heard. It is the same ear.
pub record HasHeard {L : Type 0} (before : EarTold L) (entries : List Heard) (after : EarTold L)
    : Type 0 where
  pub told : (EndsPastCount before.heard → ⊥) → after.heard ≡ told_then before.heard entries
  pub counted : before.faults ≤ after.faults
  pub fault : Contains entries Fault → HasRisen before.faults after.faults
  pub no_fault : (Contains entries Fault → ⊥) → after.faults ≡ before.faults
  pub same_device : after.device ≡ before.device

-- A new ear, which the call with this number handed out: nothing was heard, and nothing failed.
pub record IsNewEar {L : Type 0} (call : ℕ) (ear : EarTold L) : Type 0 where
  pub heard : StartsEmpty ear.heard
  pub faults : ear.faults ≡ 0
  pub numbered : IsNumbered (ear_number ear.device.mark) call
