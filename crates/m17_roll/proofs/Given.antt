-- In a run in which every claimed member was given back.
use Rattle.std.proofs.Common.{◌≡◌, ℕ, ◌-◌, ◌*◌, ◌<◌, List, length, get_or, inl, inr, arith}
use Rattle.std.specs.List.{Contains}
use mathlib.Core.Logic.{dite}
use native.Mathlib.Decide.{dec_le}
use Rattle.m17_values.specs.declared.member.Member.{Member}
use Rattle.m17_roll.specs.Run.{count_at, last_of, IsRollRun}
use Rattle.m17_roll.proofs.Running.{stands, times_weighs}

-- the last member of a place that was claimed stands among the claims
last_stands : (ws : List ℕ) (claimed given : List Member) → IsRollRun ws claimed given
    → (q : ℕ) → q < length ws → 0 < count_at q claimed → Contains claimed (last_of q claimed)
last_stands ws claimed given run q lt some =
    let one = run.each_once q (count_at q claimed - 1) lt (omega arith) in
    let is = times_weighs q (count_at q claimed - 1) claimed in
    stands q (count_at q claimed - 1) claimed (omega (arith, one, is))

pub all_free : (ws : List ℕ) (claimed given : List Member) → IsRollRun ws claimed given
    → ((m : Member) → Contains claimed m → Contains given m)
    → (q : ℕ) → q < length ws → get_or ws q 0 ≡ 2 * count_at q claimed
all_free ws claimed given run back q lt =
    let free = (run.word q lt).0 in
    dite (dec_le 1 (count_at q claimed))
    (λ some. free (inr (omega (arith, some), back (last_of q claimed) (last_stands ws claimed given run q lt (omega (arith, some))))))
    (λ none. free (inl (omega (arith, none))))
