-- What happened in a module, and what is looked up in the list of it. Positions count from 0.
use Rattle.std.specs.Prelude.{◌==◌, ◌&&◌, ℕ, suc, Bool, true, false, List, [], ◌∷◌, ◌++◌, map, take, fold, max, slice_get, nat_lt, Option, None, Some, IsSome, option_and_then, if◌then◌else◌}
use Rattle.m17_lookup.specs.Lookup.{last_below}
use Rattle.m17_values.specs.declared.member.Member.{Member}
use Rattle.m17_floor.specs.declared.act.Act.{Act}
use Rattle.m17_floor.specs.declared.act.ActKind.{ActKind}
use Rattle.m17_floor.specs.declared.act.ActKind.TheVariants.{Join, Leave, Packet, Other}

-- the list, and then one act more
abbrev pub with_act : List Act → Act → List Act
with_act acts act = acts ++ act ∷ []

-- what happened at a position; nothing of note past the end
abbrev pub kind_or_other : Option Act → ActKind
kind_or_other None = Other
kind_or_other (Some act) = act.kind

abbrev pub kind_at : List Act → ℕ → ActKind
kind_at acts n = kind_or_other (slice_get acts n)

-- the act is a packet
abbrev pub is_packet : ActKind → Bool
is_packet (Packet k p) = true
is_packet _ = false

-- the greatest of the moments of these acts, and 0 where there are none
abbrev pub greatest_moment : List Act → ℕ
greatest_moment acts = fold max 0 (map (λ act. act.at) acts)

-- the moment before position n: the greatest of acts 0 to n - 1
abbrev pub moment_before : List Act → ℕ → ℕ
moment_before acts n = greatest_moment (take n acts)

-- the moment at position n: the greatest of acts 0 to n
abbrev pub moment_at : List Act → ℕ → ℕ
moment_at acts n = greatest_moment (take (suc n) acts)

-- the two are one membership
abbrev pub is_same : Member → Member → Bool
is_same a b = (a.place == b.place) && (a.generation == b.generation)

-- the act is a Join of the member
abbrev pub is_join_of : Member → ActKind → Bool
is_join_of k (Join member listens) = is_same member k
is_join_of k _ = false

-- the act decides whether the member is in: a Join at its place, its own too, or a Leave of it
abbrev pub settles : Member → ActKind → Bool
settles k (Join member listens) = member.place == k.place
settles k (Leave member) = is_same member k
settles k _ = false

-- The position of the Join by which the member is in before position n: the last one below n that
-- decides whether it is in, where that is its Join and its place is one of the module's places.
unfoldable pub joined_at : ℕ → List Act → Member → ℕ → Option ℕ
joined_at places acts k n =
    if nat_lt k.place places
    then option_and_then (λ j. if is_join_of k (kind_at acts j) then Some j else None)
    (last_below (λ j. settles k (kind_at acts j)) n)
    else None

-- the member is in before position n
abbrev pub IsMember : ℕ → List Act → Member → ℕ → Type 0
IsMember places acts k n = IsSome (joined_at places acts k n)
