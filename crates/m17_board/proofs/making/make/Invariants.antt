use Rattle.std.proofs.Common.{◌≡◌, vec_len, vec_capacity}
use Rattle.m17_board.specs.Ends.{NewPairs}
use Rattle.m17_board.proofs.making.make.Given as goal

abbrev pub invariant-loop-number : goal.invariant-loop-number
invariant-loop-number l =
    NewPairs 0 l.posters.items l.eyes.items × (vec_len l.posters ≡ l.number) × (vec_len l.eyes ≡ l.number) × (vec_capacity l.posters ≡ l.modules) × (vec_capacity l.eyes ≡ l.modules)
