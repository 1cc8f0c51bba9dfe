-- In a run no member is claimed twice.
use Rattle.std.proofs.Common.{◌≡◌, ◌≢◌, ℕ, zero, suc, ◌+◌, ◌<◌, ◌≤◌, List, [], ◌∷◌, length, get_or, sym, refl, ap, arith, lt_of_not-le}
use Rattle.std.specs.List.{AllPairs, Contains}
use mathlib.Core.Logic.{dite}
use native.Mathlib.Decide.{dec_le}
use Rattle.m17_values.specs.declared.member.Member.{Member}
use Rattle.m17_roll.specs.Run.{count_at, IsRollRun}
use Rattle.m17_roll.specs.Rule.{weigh}
use Rattle.m17_roll.proofs.Marks.{mark, mark_here, weigh_has}
use Rattle.m17_roll.proofs.Running.{times_weighs}

-- two places of a list have their weights in the sum
both_weigh : (h : ℕ → ℕ → ℕ) (ms : List Member) (i j : ℕ) (d : Member) → i < j → j < length ms
    → h (get_or ms i d).place (get_or ms i d).generation + h (get_or ms j d).place (get_or ms j d).generation ≤ weigh h ms
both_weigh h [] i j d lt in_list = absurd (omega arith)
both_weigh h (m ∷ ms) i zero d lt in_list = absurd (omega arith)
both_weigh h (m ∷ ms) zero (suc j) d lt in_list = let r = weigh_has h ms j d (omega arith) in omega arith
both_weigh h (m ∷ ms) (suc i) (suc j) d lt in_list = let r = both_weigh h ms i j d (omega arith) (omega arith) in omega arith

get_or_any : (ms : List Member) (i : ℕ) (d e : Member) → i < length ms → get_or ms i d ≡ get_or ms i e
get_or_any [] i d e lt = absurd (omega arith)
get_or_any (m ∷ ms) zero d e lt = refl
get_or_any (m ∷ ms) (suc i) d e lt = get_or_any ms i d e (omega arith)

same_there : (ms : List Member) (i : ℕ) (d : Member) → i < length ms → Contains ms (get_or ms i d)
same_there ms i d lt = (i, lt, sym (get_or_any ms i d (get_or ms i d) lt))

pub never_twice : (words : List ℕ) (claimed given : List Member) → IsRollRun words claimed given → AllPairs (λ a b. a ≢ b) claimed
never_twice words claimed given run i j d lt in_list same =
    let a = get_or claimed i d in
    let b = get_or claimed j d in
    let q : ℕ = a.place in
    let g : ℕ = a.generation in
    let first = mark_here q g a.place a.generation refl refl in
    let second = mark_here q g b.place b.generation (ap (λ (m : Member). m.place) (sym same)) (ap (λ (m : Member). m.generation) (sym same)) in
    let both = both_weigh (mark q g) claimed i j d lt in_list in
    let is = times_weighs q g claimed in
    let within = run.within a (same_there claimed i d (omega arith)) in
    dite (dec_le (count_at q claimed) g)
    (λ le. let z = run.no_other q g within le in omega arith)
    (λ not. let z = run.each_once q g within (lt_of_not-le not) in omega arith)
