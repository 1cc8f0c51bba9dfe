use Rattle.m17_text_commands.proofs.CheckOneText.{legal_is_not_refused}
use Rattle.m17_text_commands.proofs.check_laws.legal_books_are_not_refused.Goals as goal

pub returns : goal.returns
returns c = legal_is_not_refused c.books_are_exact.ensures
