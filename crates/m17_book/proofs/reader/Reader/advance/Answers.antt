use Rattle.std.proofs.Common.{is_some, sym, ap, subst, ◌∙◌}
use Rattle.m17_book.specs.Progress.{Progress, progress}
use Rattle.m17_book.specs.Reading.{HasRead}
use Rattle.m17_book.proofs.Within.{is_within, has_read, refused_with, answers, header_of_some}
use Rattle.m17_book.proofs.reader.Reader.advance.Goals as goal

pub returns-in-Ok-clause-answers : goal.returns-in-Ok-clause-answers
returns-in-Ok-clause-answers g c = λ bytes records before.
    let r = c.self.inside in
    let begun = header_of_some r.header (ap (λ (p : Progress). is_some p.header) c.self.view_is ∙ c.in-Ok.ensures.header_read) in
    let seen = subst (λ (p : Progress). HasRead p (g.S.Input.told c.begin.new.source).left bytes records) (sym c.self.view_is)
    (c.begin.ensures.passed bytes records before) in
    let within = is_within begun.0 (progress r.cursor r.header r.refusal) _ bytes records begun.1 seen in
    answers begun.0 c.next_record.result (progress c.next_record.new.cursor r.header r.refusal)
    _ (g.S.Input.told c.begin.new.source).left _ _ bytes records begun.1 within (c.next_record.ensures.next within.rest within.ahead)

pub returns-in-Ok-clause-stands : goal.returns-in-Ok-clause-stands
returns-in-Ok-clause-stands g c = refused_with c.next_record.result (λ kept same. λ bytes records before.
    let r = c.self.inside in
    let begun = header_of_some r.header (ap (λ (p : Progress). is_some p.header) c.self.view_is ∙ c.in-Ok.ensures.header_read) in
    let seen = subst (λ (p : Progress). HasRead p (g.S.Input.told c.begin.new.source).left bytes records) (sym c.self.view_is)
    (c.begin.ensures.passed bytes records before) in
    let within = is_within begun.0 (progress r.cursor r.header r.refusal) _ bytes records begun.1 seen in
    has_read begun.0 (progress c.next_record.new.cursor r.header r.refusal) _ bytes records begun.1 (record {
      front = within.front;
      rest = within.rest;
      split = within.split;
      form = within.form;
      ahead = kept within.rest within.ahead;
      place_is = same ∙ within.place_is;
    })) c.next_record.ensures.kept c.next_record.ensures.place
