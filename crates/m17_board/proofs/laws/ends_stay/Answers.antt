use Rattle.m17_board.specs.Shows.{shown_of}
use Rattle.m17_board.proofs.SameEnds.{ends_of}
use Rattle.m17_board.proofs.laws.ends_stay.Goals as goal

pub returns : goal.returns
returns g c j k did =
    let same = ends_of g.B.Book.told j.modules (shown_of j) (shown_of k) did.watched in
    record { cells = same.cells; numbers = same.numbers; board = same.board; device = same.device }
