use Rattle.std.proofs.Common.{refl, sym, ◌∙◌}
use Rattle.m17_book.proofs.MoreChecked.{held_is_in}
use Rattle.m17_book.proofs.Rosters.{nobody_there, none_is_some}
use Rattle.m17_book.proofs.checker.come.Goals as goal

pub returns-in-Some : goal.returns-in-Some
returns-in-Some c = λ limit acts at stands.
    (record { place = c.args.k.place; generation = c.in-Some.field-0.generation }, refl, held_is_in limit c.args.roster.now acts c.args.k.place c.in-Some.field-0 c.in-Some.ensures stands)

pub returns-in-None : goal.returns-in-None
returns-in-None c = λ limit acts at stands. (
  c.join.ensures limit acts at stands,
  λ wrong. none_is_some _ (stands.stays wrong.0 ∙ nobody_there c.args.roster.now.stays c.args.k wrong.0 (sym c.in-None.ensures) (sym wrong.1)) wrong.2,
  λ bad. bad,
)
