-- What ends an ear before its moment.
use Rattle.std.specs.Prelude.{◌≡◌, Bool, true, false}

-- whether there is such a thing, and whether the ear has seen that it ends
pub record StopKept : Type 0 where
  pub there : Bool
  pub seen : Bool

-- there is none
abbrev pub no_stop : StopKept
no_stop = record { there = false; seen = false }

-- One look, and whether it is seen now: what was seen once is seen from then on, and where there is none nothing is.
pub record LooksSo (before : StopKept) (seen : Bool) (after : StopKept) : Type 0 where
  pub told : after.seen ≡ seen
  pub same : after.there ≡ before.there
  pub stays : before.seen ≡ true → after.seen ≡ true
  pub none : before.there ≡ false → after.seen ≡ false
