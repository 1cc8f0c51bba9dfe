-- How a job starts: the order that it waits for.
use Rattle.std.specs.Prelude.{◌≡◌, ℕ, Bool, if◌then◌else◌, [], ◌∷◌, ◌++◌, replicate}
use Rattle.m17_crew.specs.declared.order.Order.{Order}
use Rattle.m17_crew.specs.declared.order.Order.TheVariants.{Go, Quit, Stop}
use Rattle.m17_lane.specs.Ends.{PopEnd}
use Rattle.m17_lane.specs.Rows.{pops}

-- Some Stops were popped, and then the order that says whether the job goes: Go or Quit. No more.
pub record HasStarted (before : PopEnd Order) (goes : Bool) (after : PopEnd Order) : Type 0 where
  pub stops : ℕ
  pub orders : after ≡ pops before (replicate stops Stop ++ (if goes then Go else Quit) ∷ [])
