use Rattle.m17_text_commands.proofs.Books.{one_migrated_text}
use Rattle.m17_text_commands.proofs.migrate_laws.one_migrated_text.Goals as goal

pub returns : goal.returns
returns c = one_migrated_text c.books_are_exact.ensures
