use Rattle.std.proofs.Common.{◌≡◌, ◌∙◌, is_some, false, Some, refl, sym, subst, rules}
use Rattle.m17_book.specs.Progress.{Progress, progress}
use Rattle.m17_book.specs.Reading.{HasRead}
use Rattle.m17_book.proofs.Within.{is_fresh, none_is, past_header, bad_header, has_read, has_fresh}
use Rattle.m17_book.proofs.reader.Reader.begin.Goals as goal

pub returns-in-Ok-clause-passed : goal.returns-in-Ok-clause-passed
returns-in-Ok-clause-passed g c = λ bytes records before.
    let r = c.self.inside in
    let none : is_some r.header ≡ false = search rules in
    let seen = subst (λ (p : Progress). HasRead p (g.S.Input.told c.args.source.now).left bytes records) (sym c.self.view_is) before in
    let fresh = is_fresh (progress r.cursor r.header r.refusal) _ bytes records (none_is r.header none) seen in
    has_read c.in-Ok.head (progress c.pass_header.new.cursor (Some c.in-Ok.head) r.refusal) _ bytes records refl
    (past_header c.in-Ok.head bytes _ _ _ _ records (c.in-Ok.ensures.header bytes fresh.0) fresh.1 fresh.2)

pub returns-in-Err-clause-refused : goal.returns-in-Err-clause-refused
returns-in-Err-clause-refused g c = λ bytes records before.
    let r = c.self.inside in
    let none : is_some r.header ≡ false = search rules in
    let seen = subst (λ (p : Progress). HasRead p (g.S.Input.told c.args.source.now).left bytes records) (sym c.self.view_is) before in
    let fresh = is_fresh (progress r.cursor r.header r.refusal) _ bytes records (none_is r.header none) seen in
    bad_header c.in-Err.refusal r.header bytes r.cursor.place (c.in-Err.ensures.header bytes fresh.0) (none_is r.header none) fresh.1 records fresh.2

pub returns-in-Err-clause-passed : goal.returns-in-Err-clause-passed
returns-in-Err-clause-passed g c = λ bytes records before.
    let r = c.self.inside in
    let none : is_some r.header ≡ false = search rules in
    let seen = subst (λ (p : Progress). HasRead p (g.S.Input.told c.args.source.now).left bytes records) (sym c.self.view_is) before in
    let fresh = is_fresh (progress r.cursor r.header r.refusal) _ bytes records (none_is r.header none) seen in
    has_fresh (progress c.pass_header.new.cursor r.header r.refusal) _ bytes records (none_is r.header none)
    (c.in-Err.ensures.kept bytes fresh.0) (c.in-Err.ensures.place ∙ fresh.1) fresh.2
