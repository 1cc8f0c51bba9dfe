-- What an ear makes of the instants that its clock reads.
use Rattle.std.specs.Prelude.{◌≡◌, ℕ, ◌-◌, ◌/◌, ◌^◌, min, max, List, [], ◌∷◌, Option, Result, Ok, Err}
use Rattle.std.specs.Time.{instant_nanos}
use Rattle.std.specs.declared.time.Instant.{Instant}
use Rattle.m17_ports.specs.Told.{told_then}

-- A reading that gave an instant is told by that, and one that gave an error is not.
abbrev pub TellsReading : {E : Type 0} → Result Instant E
    → Option (List Instant) → Option (List Instant) → Type 0
TellsReading (Ok now) before after = after ≡ told_then before (now ∷ [])
TellsReading (Err _) before after = after ≡ before

-- The moment of an instant: the whole milliseconds since the start, which is 0 before it, and 2^64 - 1 at the most.
abbrev pub moment_between : Instant → Instant → ℕ
moment_between start now = min ((instant_nanos now - instant_nanos start) / 1_000_000) (2 ^ 64 - 1)

-- What an ear's clock told, and the ear's last moment, before and after a call: one instant was read, and the moment is
-- the instant's, or stays where that would lie before it.
abbrev pub ReadsMoment : Instant → Option (List Instant) × ℕ → Option (List Instant) × ℕ → Type 0
ReadsMoment start (before, last) (after, moment) = (now : Instant)
    × (after ≡ told_then before (now ∷ [])) × (moment ≡ max last (moment_between start now))
