-- When the entries of an evening come.
use Rattle.std.specs.Prelude.{ℕ, ◌+◌, ◌-◌, ◌*◌, ◌/◌, nat_lt, if◌then◌else◌}

-- how many hotspots there are; each joins by an entry of its own before all else
abbrev pub hotspots : ℕ
hotspots = 12

-- the moment of an entry, in milliseconds: 0 while the hotspots join, and then 40 more for each three entries
abbrev pub entry_moment : ℕ → ℕ
entry_moment j = if nat_lt j hotspots then 0 else 40 * ((j - hotspots) / 3 + 1)
