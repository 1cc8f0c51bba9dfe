use Rattle.std.proofs.Common.{◌+◌, drop, inr, ap, ◌∙◌, arith}
use Rattle.m17_book.specs.Ahead.{held}
use Rattle.m17_book.specs.Book.{BookHeaderFlaw}
use Rattle.m17_book.specs.Limits.{told}
use Rattle.m17_book.specs.Versions.{header_size}
use Rattle.m17_book.proofs.NextStep.{window, header_told, passed, is_enough, same_told}
use Rattle.m17_book.proofs.steps.pass_header.Goals as goal

pub returns-in-Ok-parse_header-clause-header : goal.returns-in-Ok-parse_header-clause-header
returns-in-Ok-parse_header-clause-header g c = λ ahead before.
    let found = rw c.held-held.ensures at c.in-Ok-parse_header.ensures in
    let size = c.header_bytes.ensures in
    passed c.args.version c.in-Ok-parse_header.head (held c.fill.new.self) (held c.pass.new.self) ahead c.args.cursor.now.place c.pass.new.self.place _
    (c.fill.ensures.kept ahead before) found.1 found.2 (c.pass.ensures.held ∙ ap (λ n. drop n (held c.fill.new.self)) size)
    (c.pass.ensures.place ∙ ap (λ n. told (c.fill.new.self.place + n)) size ∙ ap (λ n. told (n + header_size c.args.version)) c.fill.ensures.place)

pub returns-in-Err-clause-header : goal.returns-in-Err-clause-header
returns-in-Err-clause-header g c = λ ahead before.
    let is = c.fill.ensures.kept ahead before in
    let b = held c.fill.new.self in
    let enough = is_enough _ _ ahead _ _ before c.in-Ok.ensures.enough in
    let tells = header_told c.args.version b ahead c.in-Err.flaw c.fill.new.self.place (omega arith) (window b ahead (g.S.Input.told c.fill.new.source).left is enough) (rw c.held-held.ensures at c.in-Err.ensures) in
    inr (rw c.refusal_of.ensures.told (same_told (BookHeaderFlaw c.args.version) ahead c.fill.new.self.place c.args.cursor.now.place c.place.result c.held-held.result.now b c.in-Err.flaw
    c.fill.ensures.place c.place.ensures c.held-held.ensures tells))
