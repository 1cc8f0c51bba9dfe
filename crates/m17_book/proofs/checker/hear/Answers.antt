use Rattle.std.proofs.Common.{◌≡◌, Some, sym, ap, ◌∙◌, rules}
use Rattle.m17_floor.specs.Legal.{book_setup}
use Rattle.m17_book.proofs.MoreChecked.{same_some}
use Rattle.m17_book.proofs.checker.hear.Goals as goal

pub returns-then-eq : goal.returns-then-eq
returns-then-eq c = λ limit acts moment stands.
    let judged = c.judge.ensures.stands limit acts c.args.at moment stands in
    let ruled = c.one_act_more_goes_by_what_is_left.ensures.verdict (book_setup limit) acts c.args.at c.args.k c.args.p.now in
    let same : c.judge.result ≡ c.args.kept = search rules in
    (judged.0, λ bad. bad, λ other. other (ap Some (sym same) ∙ sym judged.1 ∙ ruled))

pub returns-else-eq : goal.returns-else-eq
returns-else-eq c = λ limit acts moment stands.
    let judged = c.judge.ensures.stands limit acts c.args.at moment stands in
    let ruled = c.one_act_more_goes_by_what_is_left.ensures.verdict (book_setup limit) acts c.args.at c.args.k c.args.p.now in
    let differs : c.judge.result ≡ c.args.kept → ⊥ = search rules in
    (λ is. differs (same_some c.judge.result c.args.kept (sym judged.1 ∙ ruled ∙ sym is)), λ bad. bad)
