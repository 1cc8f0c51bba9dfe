-- What the plain program has looked up so far.
use Rattle.std.specs.Prelude.{◌&&◌, ℕ, suc, Bool, false, List, length, slice_get, nat_lt, Option, None, unwrap_or}
use Rattle.std.specs.Option.{option_map_or}
use Rattle.m17_values.specs.declared.member.Member.{Member}
use Rattle.m17_floor.specs.declared.act.Act.{Act}
use Rattle.m17_floor.specs.declared.verdict.Verdict.{Verdict}
use Rattle.m17_lookup.specs.Lookup.{last_below}
use Rattle.m17_floor.specs.Setup.{FloorSetup}
use Rattle.m17_floor.specs.Acts.{kind_at, moment_at, joined_at}
use Rattle.m17_floor.specs.Floor.{Past, admits, opens, is_packet_of}

-- the acts so far, and what they were answered
abbrev pub past_answered : FloorSetup → List Act → List (Option Verdict) → Past
past_answered setup acts answered =
    record { setup = setup; acts = acts; verdicts = answered }

-- the act at position a was admitted, or opened the floor
abbrev pub was_answered : List (Option Verdict) → ℕ → Bool
was_answered answered a = admits (unwrap_or (slice_get answered a) None)

abbrev pub was_answered_opened : List (Option Verdict) → ℕ → Bool
was_answered_opened answered a = opens (unwrap_or (slice_get answered a) None)

-- the moment of the last position at or below a that opened the floor
abbrev pub opened_answered : List Act → List (Option Verdict) → ℕ → ℕ
opened_answered acts answered a =
    option_map_or (moment_at acts) (last_below (was_answered_opened answered) (suc a)) 0

-- the member is in at the end, by a Join below position a
abbrev pub has_been_in : ℕ → List Act → Member → ℕ → Bool
has_been_in places acts k a =
    option_map_or (λ j. nat_lt j a) (joined_at places acts k (length acts)) false

-- the position is an admitted packet of the member since its Join
abbrev pub is_answered_own : ℕ → List Act → List (Option Verdict) → Member → ℕ → Bool
is_answered_own places acts answered k a =
    was_answered answered a && is_packet_of k (kind_at acts a) && has_been_in places acts k a
