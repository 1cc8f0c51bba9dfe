-- Looking back through a list by position. Positions count from 0.
use Rattle.std.specs.Prelude.{ℕ, zero, suc, Bool, Option, None, Some, if◌then◌else◌}

-- the greatest position below n that passes the test
unfoldable pub last_below : (ℕ → Bool) → ℕ → Option ℕ
last_below test zero = None
last_below test (suc n) = if test n then Some n else last_below test n
