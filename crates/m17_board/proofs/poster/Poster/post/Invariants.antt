use Rattle.std.proofs.Common.{[], ◌∷◌}
use Rattle.m17_board.proofs.poster.Poster.post.Given as goal

abbrev pub ghosts-put : goal.ghosts-put
ghosts-put g a = record { posted = a.one.now ∷ [] }
