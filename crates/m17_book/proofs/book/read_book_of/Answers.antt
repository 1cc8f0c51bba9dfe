use Rattle.std.proofs.Common.{◌++◌, sym, subst, ap, ◌∙◌}
use Rattle.m17_book.specs.Book.{IsBook, RefusesBook}
use Rattle.m17_book.specs.Laws.{BookKept}
use Rattle.m17_book.specs.Walk.{spot, IsHeaderOf}
use Rattle.m17_book.specs.declared.head.Head.{Head}
use Rattle.m17_book.proofs.WholeBook.{is_book, is_refused}
use Rattle.m17_book.proofs.Exact.{outside_of, outside_or_same}
use Rattle.m17_book.proofs.book.read_book_of.Goals as goal

pub returns-in-Ok-clause-book : goal.returns-in-Ok-clause-book
returns-in-Ok-clause-book g c = λ bytes left.
    let read = c.add_book-read.ensures.read bytes c.new-cursor.ensures.place (bytes, left, ap (λ xs. xs ++ bytes) (sym c.new-cursor.ensures.held)) in
    let book = is_book c.args.version IsHeaderOf c.add_book-read.result c.in-Ok.head bytes c.add_book-read.new.records.items
    (spot c.add_book-read.new.cursor (g.S.Input.told c.add_book-read.new.source).left) c.in-Ok.ensures.ok.0 read in
    subst (λ (h : Head). IsBook c.args.version bytes h c.add_book-read.new.records.items) (sym book.0.2) book.0.1

pub returns-in-Ok-clause-nothing_left : goal.returns-in-Ok-clause-nothing_left
returns-in-Ok-clause-nothing_left g c = λ bytes left.
    let read = c.add_book-read.ensures.read bytes c.new-cursor.ensures.place (bytes, left, ap (λ xs. xs ++ bytes) (sym c.new-cursor.ensures.held)) in
    let book = is_book c.args.version IsHeaderOf c.add_book-read.result c.in-Ok.head bytes c.add_book-read.new.records.items
    (spot c.add_book-read.new.cursor (g.S.Input.told c.add_book-read.new.source).left) c.in-Ok.ensures.ok.0 read in
    ap (λ s. (g.S.Input.told s).left) c.in-Ok.ensures.ok.1 ∙ book.1

pub returns-in-Ok-clause-each_book : goal.returns-in-Ok-clause-each_book
returns-in-Ok-clause-each_book g c = λ bytes head records left is.
    let law = c.books_are_exact.ensures c.args.version in
    let found : BookKept = record { header = c.in-Ok.head; records = c.add_book-read.new.records.items } in
    let same = law.one_value bytes found (record { header = head; records = records }) (returns-in-Ok-clause-book g c bytes left) is in
    (ap (λ (k : BookKept). k.header) same, ap (λ (k : BookKept). k.records) same)

pub returns-in-Ok-clause-each_refusal : goal.returns-in-Ok-clause-each_refusal
returns-in-Ok-clause-each_refusal g c = λ bytes refusal left is.
    let law = c.books_are_exact.ensures c.args.version in
    let found : BookKept = record { header = c.in-Ok.head; records = c.add_book-read.new.records.items } in
    law.not_both bytes found refusal (returns-in-Ok-clause-book g c bytes left) is

pub returns-in-Err-clause-refused : goal.returns-in-Err-clause-refused
returns-in-Err-clause-refused g c = λ bytes left.
    let read = c.add_book-read.ensures.read bytes c.new-cursor.ensures.place (bytes, left, ap (λ xs. xs ++ bytes) (sym c.new-cursor.ensures.held)) in
    is_refused c.args.version IsHeaderOf c.add_book-read.result c.in-Err.refusal bytes c.add_book-read.new.records.items
    (spot c.add_book-read.new.cursor (g.S.Input.told c.add_book-read.new.source).left) read
    c.in-Err.ensures.err c.in-Err.ensures.outside (rw c.most_bytes.ensures at c.in-Err.ensures.settled)

pub returns-in-Err-clause-each_book : goal.returns-in-Err-clause-each_book
returns-in-Err-clause-each_book g c = λ bytes head records left is.
    outside_of c.in-Err.refusal (RefusesBook c.args.version bytes c.in-Err.refusal)
    ((c.books_are_exact.ensures c.args.version).not_both bytes (record { header = head; records = records }) c.in-Err.refusal is)
    (returns-in-Err-clause-refused g c bytes left)

pub returns-in-Err-clause-each_refusal : goal.returns-in-Err-clause-each_refusal
returns-in-Err-clause-each_refusal g c = λ bytes refusal left is.
    outside_or_same (RefusesBook c.args.version bytes) ((c.books_are_exact.ensures c.args.version).one_refusal bytes) c.in-Err.refusal refusal is
    (returns-in-Err-clause-refused g c bytes left)
