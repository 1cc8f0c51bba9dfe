use Rattle.std.proofs.Common.{ap, sym, is_some, ◌∙◌}
use Rattle.m17_book.proofs.checker.go.Goals as goal

pub returns-in-Some : goal.returns-in-Some
returns-in-Some c = λ limit acts at stands. (
  c.leave.ensures limit acts at stands,
  λ wrong. wrong (ap (λ o. is_some o) (stands.stays c.args.k ∙ sym c.in-Some.ensures)),
  λ bad. bad,
)
