use Rattle.m17_board.specs.Shows.{shown_of}
use Rattle.m17_board.proofs.Lines.{lines_of}
use Rattle.m17_board.proofs.laws.numbers_of_lines_rise.Goals as goal

pub returns : goal.returns
returns g c j k did fresh = lines_of g.B.Book.told j.modules (shown_of j) c.books_are_written_in_turn.ensures fresh (shown_of k) did.watched
