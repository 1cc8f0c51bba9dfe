use Rattle.std.proofs.Common.{sym, subst}
use Rattle.m17_book.specs.declared.refusal.FormRefusal.TheVariants as form
use Rattle.m17_text_commands.specs.Moved.{EndsUnread}
use Rattle.m17_text_commands.proofs.MigrateComing.{refused_is}
use Rattle.m17_text_commands.proofs.migrate_command.read_records.Goals as goal

pub returns-in-Err-Cut-clause-read : goal.returns-in-Err-Cut-clause-read
returns-in-Err-Cut-clause-read g c = λ bytes left.
    subst (EndsUnread bytes) (sym c.refused.ensures)
    (refused_is bytes c.in-Err-Cut.field-0 (form.Cut c.in-Err-Cut.at) c.in-Err-Cut.field-0-is (λ b. b) (c.in-Err-Cut.ensures.refused bytes left))

pub returns-in-Err-Kind-clause-read : goal.returns-in-Err-Kind-clause-read
returns-in-Err-Kind-clause-read g c = λ bytes left.
    subst (EndsUnread bytes) (sym c.refused-in-Err-Kind.ensures)
    (refused_is bytes c.in-Err-Kind.field-0 (form.Kind c.in-Err-Kind.at c.in-Err-Kind.byte) c.in-Err-Kind.field-0-is (λ b. b) (c.in-Err-Kind.ensures.refused bytes left))

pub returns-in-Err-Field-clause-read : goal.returns-in-Err-Field-clause-read
returns-in-Err-Field-clause-read g c = λ bytes left.
    subst (EndsUnread bytes) (sym c.refused-in-Err-Field.ensures)
    (refused_is bytes c.in-Err-Field.field-0 (form.Field c.in-Err-Field.at) c.in-Err-Field.field-0-is (λ b. b) (c.in-Err-Field.ensures.refused bytes left))

pub returns-in-Err-Large-clause-read : goal.returns-in-Err-Large-clause-read
returns-in-Err-Large-clause-read g c = λ bytes left.
    subst (EndsUnread bytes) (sym c.refused-in-Err-Large.ensures)
    (refused_is bytes c.in-Err-Large.field-0 (form.Large c.in-Err-Large.at) c.in-Err-Large.field-0-is (λ b. b) (c.in-Err-Large.ensures.refused bytes left))

pub returns-in-Ok-read_book_1_for-clause-read : goal.returns-in-Ok-read_book_1_for-clause-read
returns-in-Ok-read_book_1_for-clause-read g c = λ bytes left.
    (c.in-Ok-read_book_1_for.ensures.book bytes left, c.in-Ok-read_book_1_for.ensures.nothing_left bytes left)
