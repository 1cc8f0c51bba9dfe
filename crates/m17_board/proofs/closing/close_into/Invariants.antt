use Rattle.std.proofs.Common.{◌+◌, ◌≤◌, vec_len, vec_capacity}
use Rattle.m17_board.proofs.Pairs.{Closed}
use Rattle.m17_board.proofs.closing.close_into.Given as goal

abbrev pub invariant-loop-poster : goal.invariant-loop-poster
invariant-loop-poster g l =
    Closed l.fn.posters.items l.posters.items l.fn.eyes.items l.eyes.items l.into.items × (vec_len l.into + vec_len l.posters ≤ vec_capacity l.into)

abbrev pub decreases-loop-poster : goal.decreases-loop-poster
decreases-loop-poster g l = vec_len l.posters
