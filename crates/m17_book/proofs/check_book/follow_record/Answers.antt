use Rattle.std.proofs.Common.{[], ◌∷◌, ◌++◌, inl, inr, refl}
use Rattle.m17_book.specs.Ahead.{held}
use Rattle.m17_book.specs.Flaws.{RecordFlaw}
use Rattle.m17_book.specs.Records.{SpellsRecord}
use Rattle.m17_book.proofs.Passing.{some_passed, none_next}
use Rattle.m17_book.proofs.WholeTrace.{fault_is_outside}
use Rattle.m17_book.proofs.check_book.follow_record.Goals as goal
use Rattle.m17_book.specs.declared.version.Version.TheVariants.{Two}

pub returns-in-Ok-Some-clause-read : goal.returns-in-Ok-Some-clause-read
returns-in-Ok-Some-clause-read g c = λ limit ahead records before seen few. (
  records ++ c.in-Ok-Some.found ∷ [],
  c.see.ensures limit records seen few,
  (
    c.in-Ok-Some.found,
    refl,
    some_passed (SpellsRecord Two) (RecordFlaw Two) c.in-Ok-Some.field-0 c.in-Ok-Some.found ahead (held c.next_record.new.cursor)
        (g.S.Input.told c.next_record.new.source).left c.args.cursor.now.place c.next_record.new.cursor.place c.in-Ok-Some.field-0-is (c.in-Ok-Some.ensures.next ahead before),
  ),
)

pub returns-in-Ok-None-clause-read : goal.returns-in-Ok-None-clause-read
returns-in-Ok-None-clause-read g c = λ limit ahead records before seen few. let h = none_next (SpellsRecord Two) (RecordFlaw Two) c.in-Ok-None.field-0 ahead (held c.next_record.new.cursor)
    (g.S.Input.told c.next_record.new.source).left c.args.cursor.now.place c.next_record.new.cursor.place c.in-Ok-None.field-0-is (c.in-Ok-None.ensures.next ahead before) in (records, seen, (refl, h.0, h.1, h.2))

pub returns-in-Err-clause-read : goal.returns-in-Err-clause-read
returns-in-Err-clause-read g c = λ limit ahead records before seen few. (
  records,
  seen,
  elim (c.in-Err.ensures.next ahead before) [
    | inl fault ↦ inl (fault_is_outside c.in-Err.refusal fault)
    | inr tells ↦ inr (refl, c.in-Err.ensures.kept ahead before, c.in-Err.ensures.place, tells)
  ],
)
