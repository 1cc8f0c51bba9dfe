use Rattle.std.proofs.Common.{◌≡◌, ◌++◌, Some, ap, sym, ◌∙◌}
use Rattle.std.proofs.lemmas.Result.{IfOk-weaker}
use Rattle.m17_book.specs.Walk.{spot}
use Rattle.m17_book.proofs.SeenBook.{found_of, left_of, refused_of}
use Rattle.m17_book.proofs.check_book.check_book_for.Goals as goal

pub returns-clause-checked : goal.returns-clause-checked
returns-clause-checked g c =
    found_of c.follow_book-read.result c.settle.result (λ bytes. (g.S.Input.told c.args.s.now).left ≡ Some bytes)
    (spot c.follow_book-read.new.cursor (g.S.Input.told c.follow_book-read.new.source).left)
    (λ bytes left. c.follow_book-read.ensures.read bytes c.new-cursor.ensures.place (bytes, left, ap (λ xs. xs ++ bytes) (sym c.new-cursor.ensures.held)))
    (λ _. c.settle.new.source ≡ c.follow_book-read.new.source) c.settle.ensures.ok

pub returns-clause-nothing_left : goal.returns-clause-nothing_left
returns-clause-nothing_left g c =
    IfOk-weaker c.settle.result _ _ (λ found h bytes left. let e = h bytes left in ap (λ s. (g.S.Input.told s).left) e.1 ∙ e.0)
    (left_of c.follow_book-read.result c.settle.result (λ bytes. (g.S.Input.told c.args.s.now).left ≡ Some bytes)
    (spot c.follow_book-read.new.cursor (g.S.Input.told c.follow_book-read.new.source).left)
    (λ bytes left. c.follow_book-read.ensures.read bytes c.new-cursor.ensures.place (bytes, left, ap (λ xs. xs ++ bytes) (sym c.new-cursor.ensures.held)))
    (λ _. c.settle.new.source ≡ c.follow_book-read.new.source) c.settle.ensures.ok)

pub returns-clause-refused : goal.returns-clause-refused
returns-clause-refused g c =
    refused_of c.follow_book-read.result c.settle.result (λ bytes. (g.S.Input.told c.args.s.now).left ≡ Some bytes)
    (spot c.follow_book-read.new.cursor (g.S.Input.told c.follow_book-read.new.source).left)
    (λ bytes left. c.follow_book-read.ensures.read bytes c.new-cursor.ensures.place (bytes, left, ap (λ xs. xs ++ bytes) (sym c.new-cursor.ensures.held)))
    c.settle.ensures.err c.settle.ensures.outside (rw c.most_bytes.ensures at c.settle.ensures.settled)
