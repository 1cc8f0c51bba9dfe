-- What contracts see of a buffer over a device.
use Rattle.std.specs.Prelude.{ℕ, List, ◌++◌, Option, None, Some}

-- the bytes in the buffer, and the device below
pub record Buffered (D : Type 0) : Type 0 where
  pub held : List ℕ
  pub device : D

-- what is buffered, and then what is left below, where that is told
abbrev pub held_then : List ℕ → Option (List ℕ) → Option (List ℕ)
held_then held None = None
held_then held (Some below) = Some (held ++ below)
