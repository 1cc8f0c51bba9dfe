use Rattle.std.proofs.Common.{◌≡◌, length, rules}
use Rattle.m17_book.specs.declared.version.Version.TheVariants.{Two}
use Rattle.m17_book.proofs.OneRecord.{whole, longer, flawed, empty}
use Rattle.m17_book.proofs.one_record.read_record.Goals as goal

pub returns-then-is_empty : goal.returns-then-is_empty
returns-then-is_empty c =
    let none : length c.args.b.now ≡ 0 = search rules in
    record { spelled = empty (c.records_are_clear.ensures Two) c.args.b.now none }

pub returns-then-size-b : goal.returns-then-size-b
returns-then-size-b c =
    let all : c.in-Ok.size ≡ length c.args.b.now = search rules in
    record { spelled = whole (c.records_are_clear.ensures Two) c.args.b.now c.in-Ok.record c.in-Ok.size c.in-Ok.ensures all }

pub returns-else-size-b : goal.returns-else-size-b
returns-else-size-b c =
    let more : c.in-Ok.size ≡ length c.args.b.now → ⊥ = search rules in
    record { spelled = longer (c.records_are_clear.ensures Two) c.args.b.now c.in-Ok.record c.in-Ok.size c.in-Ok.ensures more }

pub returns-in-Err : goal.returns-in-Err
returns-in-Err c = record { spelled = flawed (c.records_are_clear.ensures Two) c.args.b.now c.in-Err.field-0 c.in-Err.ensures }
