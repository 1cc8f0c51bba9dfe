use Rattle.std.proofs.Common.{◌+◌, inr, ap, ◌∙◌}
use Rattle.m17_book.specs.Ahead.{held}
use Rattle.m17_book.specs.Book.{MagicFlaw, trace_magic}
use Rattle.m17_book.specs.Limits.{told}
use Rattle.m17_book.proofs.NextStep.{window, is_enough, same_told}
use Rattle.m17_book.proofs.EntryWindow.{magic_told}
use Rattle.m17_book.proofs.Passing.{passed_magic}
use Rattle.m17_book.proofs.steps.pass_magic.Goals as goal

pub returns-in-Ok-parse_magic-clause-magic : goal.returns-in-Ok-parse_magic-clause-magic
returns-in-Ok-parse_magic-clause-magic g c = λ ahead before.
    let found = rw c.held-held.ensures at c.in-Ok-parse_magic.ensures in
    passed_magic trace_magic (held c.fill.new.self) (held c.pass.new.self) ahead c.args.cursor.now.place c.pass.new.self.place _
    (c.fill.ensures.kept ahead before) found.1 c.pass.ensures.held
    (c.pass.ensures.place ∙ ap (λ n. told (n + 8)) c.fill.ensures.place)

pub returns-in-Err-clause-magic : goal.returns-in-Err-clause-magic
returns-in-Err-clause-magic g c = λ ahead before.
    let is = c.fill.ensures.kept ahead before in
    let b = held c.fill.new.self in
    let enough = is_enough _ _ ahead _ _ before c.in-Ok.ensures.enough in
    let tells = magic_told trace_magic b ahead c.in-Err.flaw c.fill.new.self.place (window b ahead (g.S.Input.told c.fill.new.source).left is enough) (rw c.held-held.ensures at c.in-Err.ensures) in
    inr (
      is,
      c.fill.ensures.place,
      (rw c.refusal_of.ensures.told (same_told (MagicFlaw trace_magic) ahead c.fill.new.self.place c.args.cursor.now.place c.place.result c.held-held.result.now b c.in-Err.flaw
          c.fill.ensures.place c.place.ensures c.held-held.ensures tells)),
    )
