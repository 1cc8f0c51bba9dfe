use Rattle.std.proofs.Common.{ap, sym, ◌∙◌}
use Rattle.m17_book.specs.Checked.{Checking}
use Rattle.m17_book.proofs.SeenBook.{told_of, none_told}
use Rattle.m17_book.proofs.checker.Checker.outcome.Goals as goal

pub returns-in-Some : goal.returns-in-Some
returns-in-Some c = λ limit records seen.
    told_of limit c.args.self.now records c.self.inside.breach (ap (λ (x : Checking). x.breach) (sym c.self.view_is)) seen c.in-Some.breach c.in-Some.is

pub returns-in-None : goal.returns-in-None
returns-in-None c = λ limit records seen.
    let has = none_told limit c.args.self.now records (ap (λ (x : Checking). x.breach) (sym c.self.view_is) ∙ c.in-None.is) seen in
    (has.legal, ap (λ (x : Checking). x.report) c.self.view_is ∙ has.report)
