use Rattle.std.proofs.Common.{arith, refl}
use Rattle.m17_app.proofs.habits.of_serve.Goals as goal

pub returns : goal.returns
returns c = record {
  rests = refl;
  books = omega (arith, c.saturating_add-books.ensures, c.kept_of.ensures.kept, c.kept_of.ensures.few, c.one_if.ensures.one, c.one_if.ensures.at_most);
  lock = c.in_ok-lock_of.ensures;
  stop = refl;
}
