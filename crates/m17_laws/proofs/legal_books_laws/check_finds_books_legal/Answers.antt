use Rattle.m17_laws.proofs.CheckedBooks.{check_finds_books_legal}
use Rattle.m17_laws.proofs.legal_books_laws.check_finds_books_legal.Goals as goal

pub returns : goal.returns
returns g c = check_finds_books_legal c.legal_books_are_not_refused.ensures
