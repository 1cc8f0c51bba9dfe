use Rattle.std.proofs.Common.{Err, sym, subst}
use Rattle.m17_book.specs.declared.refusal.FormRefusal.TheVariants as form
use Rattle.m17_print.specs.declared.ending.TextEnding.{TextEnding}
use Rattle.m17_text_commands.specs.Judged.{HasJudged}
use Rattle.m17_text_commands.specs.declared.check_reason.CheckReason.{CheckReason}
use Rattle.m17_text_commands.proofs.CheckComing.{refused_is}
use Rattle.m17_text_commands.proofs.check_command.read_report.Goals as goal

pub returns-in-Err-Cut-clause-judged : goal.returns-in-Err-Cut-clause-judged
returns-in-Err-Cut-clause-judged g c = λ bytes left.
    let P : TextEnding CheckReason → Type 0 = λ e. HasJudged (Err e) bytes (g.S.Input.told c.check_book_for.new.s).left in
    subst P (sym c.refused.ensures) (refused_is bytes c.in-Err-Cut.field-0 (form.Cut c.in-Err-Cut.at) c.in-Err-Cut.field-0-is (λ b. b) (c.in-Err-Cut.ensures.refused bytes left))

pub returns-in-Err-Kind-clause-judged : goal.returns-in-Err-Kind-clause-judged
returns-in-Err-Kind-clause-judged g c = λ bytes left.
    let P : TextEnding CheckReason → Type 0 = λ e. HasJudged (Err e) bytes (g.S.Input.told c.check_book_for.new.s).left in
    subst P (sym c.refused-in-Err-Kind.ensures)
    (refused_is bytes c.in-Err-Kind.field-0 (form.Kind c.in-Err-Kind.at c.in-Err-Kind.byte) c.in-Err-Kind.field-0-is (λ b. b) (c.in-Err-Kind.ensures.refused bytes left))

pub returns-in-Err-Field-clause-judged : goal.returns-in-Err-Field-clause-judged
returns-in-Err-Field-clause-judged g c = λ bytes left.
    let P : TextEnding CheckReason → Type 0 = λ e. HasJudged (Err e) bytes (g.S.Input.told c.check_book_for.new.s).left in
    subst P (sym c.refused-in-Err-Field.ensures)
    (refused_is bytes c.in-Err-Field.field-0 (form.Field c.in-Err-Field.at) c.in-Err-Field.field-0-is (λ b. b) (c.in-Err-Field.ensures.refused bytes left))
