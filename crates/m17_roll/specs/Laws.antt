-- What a run of a roll means for its members.
use Rattle.std.specs.Prelude.{ℕ, List, length, slice_index, ◌≡◌, ◌≢◌, ◌*◌, ◌<◌}
use Rattle.std.specs.List.{AllPairs, Contains}
use Rattle.m17_values.specs.declared.member.Member.{Member}
use Rattle.m17_roll.specs.Run.{count_at, IsRollRun}

-- no member stands twice
abbrev pub AreDistinct : List Member → Type 0
AreDistinct members = AllPairs (λ a b. a ≢ b) members

-- In a run no two claims, of one seat or of two, are of the same member.
abbrev pub NoMemberIsClaimedTwice : Type 0
NoMemberIsClaimedTwice =
    (ws : List ℕ) (claimed given : List Member) → IsRollRun ws claimed given → AreDistinct claimed

-- In a run in which every claimed member was given back, every place is left free, for the generation behind its last.
abbrev pub GivenBackIsFree : Type 0
GivenBackIsFree =
    (ws : List ℕ) (claimed given : List Member) → IsRollRun ws claimed given
    → ((m : Member) → Contains claimed m → Contains given m)
    → (q : ℕ) → q < length ws → slice_index ws q ≡ 2 * count_at q claimed
