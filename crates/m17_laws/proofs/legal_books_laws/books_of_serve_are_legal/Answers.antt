use Rattle.m17_laws.proofs.ServeBooks.{books_of_serve_are_legal}
use Rattle.m17_laws.proofs.legal_books_laws.books_of_serve_are_legal.Goals as goal

pub returns : goal.returns
returns g c = books_of_serve_are_legal c.books_of_runs_are_legal.ensures
