use Rattle.std.proofs.Common.{ap, subst}
use Rattle.m17_book.specs.Book.{IsBook}
use Rattle.m17_book.specs.declared.head.Head.{Head}
use Rattle.m17_book.specs.declared.version.Version.TheVariants.{One}
use Rattle.m17_book.proofs.WholeBook.{header_is}
use Rattle.m17_book.proofs.book.read_book_1_for.Goals as goal

pub returns-in-Ok-clause-book : goal.returns-in-Ok-clause-book
returns-in-Ok-clause-book g c = λ bytes left.
    let book = c.in-Ok.ensures.book bytes left in
    subst (λ (h : Head). IsBook One bytes h c.in-Ok.records.items) (header_is c.in-Ok.head book.1.0) book

pub returns-in-Ok-clause-each_book : goal.returns-in-Ok-clause-each_book
returns-in-Ok-clause-each_book g c = λ bytes head records left is.
    let same = c.in-Ok.ensures.each_book bytes head records left is in (ap (λ (h : Head). h.module) same.0, same.1)
