use Rattle.m17_board.proofs.poster.Poster.take.Given as goal

abbrev pub ghosts-take_named : goal.ghosts-take_named
ghosts-take_named a = record { taken = a._bytes.now }
