use Rattle.std.proofs.Common.{◌≡◌, ℕ, List, ◌++◌, ap, sym, subst, ◌∙◌}
use Rattle.std.proofs.lemmas.Option.{none-some}
use Rattle.m17_ports.specs.Book.{HasText}
use Rattle.m17_book.specs.Versions.{book_header, FitsHeader}
use Rattle.m17_book.specs.declared.head.Head.{Head}
use Rattle.m17_book.specs.declared.version.Version.TheVariants.{Two}
use Rattle.m17_worker.specs.WorkerDid.{head_of}
use Rattle.m17_worker.proofs.Texts.{text_untold}
use Rattle.m17_worker.proofs.worker.Worker.begin.Goals as goal

pub returns-then-not-is_kept-clause-text : goal.returns-then-not-is_kept-clause-text
returns-then-not-is_kept-clause-text g c = λ start text h.
    text_untold c.books_are_written_in_turn.ensures start text (book_header Two (head_of c.args.self.now))
    (g.B.Book.told c.args.self.now.book) c.args.self.now.book_failed (c.is_kept.ensures.untold c.if-not-is_kept.true).0 h

pub returns-clause-text : goal.returns-clause-text
returns-clause-text g c = λ start text h.
    let with_letter : ℕ → Head = λ letter. record { «module» = letter; limit = c.args.self.now.limit } in
    let header : c.write_header.result ≡ book_header Two (head_of c.args.self.now) =
    c.write_header.ensures.header ∙ ap (λ letter. book_header Two (with_letter letter)) c.in-Some.ensures.same in
    let T : List ℕ → Type 0 = λ bytes. HasText start (text ++ bytes) c.write_whole.new.failed
    (g.B.Book.told c.write_whole.new.book) in
    subst T header (c.write_whole.ensures start text h)

pub returns-then-not-is_kept-clause-header : goal.returns-then-not-is_kept-clause-header
returns-then-not-is_kept-clause-header g c = λ bytes is.
    absurd (none-some bytes (sym (c.is_kept.ensures.untold c.if-not-is_kept.true).0 ∙ is))

pub returns-clause-header : goal.returns-clause-header
returns-clause-header g c = λ bytes is.
    let F : ℕ → Type 0 = λ letter. FitsHeader Two (record { «module» = letter; limit = c.args.self.now.limit }) in
    subst F c.in-Some.ensures.same c.write_header.ensures.in_range
