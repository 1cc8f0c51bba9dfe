use Rattle.std.proofs.Common.{◌≡◌, None, length, ap, sym, subst, ◌∙◌}
use Rattle.m17_book.specs.Checks.{report_of}
use Rattle.m17_book.specs.Checked.{Checking}
use Rattle.m17_book.specs.Tried.{Keeps}
use Rattle.m17_book.specs.declared.report.Breach.{Breach}
use Rattle.m17_book.specs.declared.report.Report.{Report}
use Rattle.m17_book.proofs.MoreChecked.{checked_more, breaks_first}
use Rattle.m17_book.proofs.checker.Checker.next.Goals as goal

pub returns-in-None-clause-checks : goal.returns-in-None-clause-checks
returns-in-None-clause-checks c = λ limit records has few.
    let after : Checking = record { people = c.self-2.inside.roster; moment = c.self-2.inside.moment; report = c.self-2.inside.report; breach = c.self-2.inside.breach } in
    let keeps : Keeps limit after records c.args.one.now = subst (λ (x : Checking). Keeps limit x records c.args.one.now) (sym c.self-2.view_is) (c.in-None.ensures.tries limit records has) in
    let broken : after.breach ≡ None = ap (λ (x : Checking). x.breach) c.self-2.view_is ∙ c.in-None.ensures.breach ∙ has.unbroken in
    let told : after.report ≡ report_of records = ap (λ (x : Checking). x.report) c.self-2.view_is ∙ c.in-None.ensures.report ∙ has.report in
    checked_more c.books_are_judged_act_by_act.ensures.one_more c.books_are_judged_act_by_act.ensures.next c.the_greatest_moment_counts.ensures.after
    limit c.args.self.now after c.counted-self-inside.result records c.args.one.now has keeps broken (c.counted-self-inside.ensures records few told)

pub returns-in-Some-try_rules-clause-checks : goal.returns-in-Some-try_rules-clause-checks
returns-in-Some-try_rules-clause-checks c = λ limit records has few.
    let told : c.self-2.inside.report ≡ report_of records = ap (λ (x : Checking). x.report) c.self-2.view_is ∙ c.in-Some-try_rules.ensures.report ∙ has.report in
    let breach : Breach = record { position = c.self-2.inside.report.records; rule = c.in-Some-try_rules.rule } in
    let place : breach.position ≡ length records = ap (λ (r : Report). r.records) told in (
      place,
      breaks_first c.books_are_judged_act_by_act.ensures.next c.books_are_judged_act_by_act.ensures.later limit records c.args.one.now breach has.legal place
          (c.in-Some-try_rules.ensures.tries limit records has),
    )
