use Rattle.std.proofs.Common.{rules}
use Rattle.m17_board.proofs.Moves.{telling}
use Rattle.m17_board.proofs.poster.Poster.note.Goals as goal

pub split_pass-pass-requires : goal.split_pass-pass-requires
split_pass-pass-requires c = (search rules, (search rules, (search rules, telling _ _)))
