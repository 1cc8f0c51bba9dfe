use Rattle.std.proofs.Common.{rules}
use Rattle.m17_board.proofs.Moves.{taking}
use Rattle.m17_board.proofs.poster.Poster.take_named.Goals as goal

pub split_pass-requires : goal.split_pass-requires
split_pass-requires g c = (search rules, (search rules, (search rules, taking _ _ _)))
