-- What contracts see of the devices in memory.
use Rattle.std.specs.Prelude.{ℕ, List}

-- a source in memory: the bytes that are left, the number of the next call, the numbers of the calls that are
-- to fail, and how often it has failed
pub record BytesLeft : Type 0 where
  pub left : List ℕ
  pub next_call : ℕ
  pub fails : List ℕ
  pub faults : ℕ

-- a sink in memory: the bytes written, how many it may hold, and the rest as for a source
pub record BytesKept : Type 0 where
  pub written : List ℕ
  pub room : ℕ
  pub next_call : ℕ
  pub fails : List ℕ
  pub faults : ℕ

-- an outlet in memory: the bytes sent, how many it takes at a time at most, and the rest as for a source
pub record BytesSent : Type 0 where
  pub sent : List ℕ
  pub most : ℕ
  pub next_call : ℕ
  pub fails : List ℕ
  pub faults : ℕ
