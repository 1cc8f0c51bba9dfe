use Rattle.std.proofs.Common.{◌≡◌, ℕ, List, [], ◌∷◌, All, sym, subst, ap, ◌∙◌}
use Rattle.std.proofs.lemmas.List.Elements.{All-from_recursion}
use Rattle.m17_lane.specs.Ends.{PopEnd}
use Rattle.m17_device_and_lane_tests.proofs.grid_tests.lanes_of_one_producer_give_their_trails_in_order.Goals as goal

pub finish_row-requires-clause-alone : goal.finish_row-requires-clause-alone
finish_row-requires-clause-alone g c =
    let count : PopEnd ℕ → ℕ = λ p. p.producers in
    let first = ap count c.in_ok-first.ensures.popper in
    let second = ap count c.pop_waiting.ensures ∙ ap count c.in_ok-second.ensures.popper in
    subst (λ (ps : List (PopEnd ℕ)). All (λ p. p.producers ≡ 1) ps) (sym c.in_ok-poppers.ensures.items)
    (All-from_recursion (λ (p : PopEnd ℕ). p.producers ≡ 1) (c.in_ok-first.from_first ∷ c.pop_waiting.new.self ∷ []) (first, (second, tt)))
