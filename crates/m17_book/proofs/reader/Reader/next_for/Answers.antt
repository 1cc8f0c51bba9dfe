use Rattle.std.proofs.Common.{Ok, Err}
use Rattle.m17_book.specs.declared.version.Version.TheVariants.{Two}
use Rattle.m17_book.proofs.NextRight.{record_right, end_right}
use Rattle.m17_book.proofs.reader.Reader.next_for.Goals as goal

pub returns-in-Ok-clause-each_record : goal.returns-in-Ok-clause-each_record
returns-in-Ok-clause-each_record g c = λ none bytes records next before there.
    record_right (c.records_are_clear.ensures Two) (Ok c.in-Ok.next) c.advance.new.self (g.S.Input.told c.advance.new.source).left bytes records next (c.in-Ok.ensures.answers bytes records before) there

pub returns-in-Ok-clause-each_end : goal.returns-in-Ok-clause-each_end
returns-in-Ok-clause-each_end g c = λ none bytes head records before whole.
    end_right (c.records_are_clear.ensures Two) (Ok c.in-Ok.next) c.advance.new.self (g.S.Input.told c.advance.new.source).left bytes head records (c.in-Ok.ensures.answers bytes records before) whole

pub returns-in-Err-clause-each_record : goal.returns-in-Err-clause-each_record
returns-in-Err-clause-each_record g c = λ none bytes records next before there.
    record_right (c.records_are_clear.ensures Two) (Err c.in-Err.refusal) c.advance.new.self (g.S.Input.told c.advance.new.source).left bytes records next
    (c.in-Err.ensures.answers bytes records before) there

pub returns-in-Err-clause-each_end : goal.returns-in-Err-clause-each_end
returns-in-Err-clause-each_end g c = λ none bytes head records before whole.
    end_right (c.records_are_clear.ensures Two) (Err c.in-Err.refusal) c.advance.new.self (g.S.Input.told c.advance.new.source).left bytes head records
    (c.in-Err.ensures.answers bytes records before) whole
