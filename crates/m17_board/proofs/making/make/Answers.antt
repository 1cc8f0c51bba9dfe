use Rattle.std.proofs.Common.{List, subst, sym, arith}
use Rattle.m17_board.specs.Ends.{PostEnd, EyeEnd, NewPairs}
use Rattle.m17_board.proofs.Made.{one_more, are_pairs}
use Rattle.m17_board.proofs.making.make.Goals as goal

pub loop-number-preserved : goal.loop-number-preserved
loop-number-preserved c =
    let was = c.loop-number.invariant in
    let posters = c.push_reserved.ensures in
    let eyes = c.push_reserved-in-loop-number.ensures in (
      subst (λ (y : List PostEnd × List EyeEnd). NewPairs 0 y.0 y.1) (λ i. (sym posters.items i, sym eyes.items i))
          (one_more 0 c.loop-number.posters.items c.loop-number.eyes.items c.loop-number.number c.in_ok-poster.poster c.in_ok-poster.eye was.0 (omega (arith, was.1, c.loop-number.posters.ok.0))
          c.in_ok-poster.ensures),
      omega (arith, was.1, posters.len),
      omega (arith, was.2, eyes.len),
      omega (arith, was.3, posters.capacity),
      omega (arith, was.4, eyes.capacity),
    )

pub returns-clause-board : goal.returns-clause-board
returns-clause-board c = are_pairs 0 _ _ c.loop-number.invariant.0
