use Rattle.std.proofs.Common.{None, inl, inr, arith}
use Rattle.std.proofs.lemmas.Bool.{cases_lt}
use Rattle.std.proofs.lemmas.List.{get_or_past}
use Rattle.m17_book.proofs.roster.nobody.Goals as goal

pub returns-clause-none : goal.returns-clause-none
returns-clause-none c = λ place. elim (cases_lt place 256) [
  | inl h ↦ let found = c.from_fn.ensures.items.at place None h in let met = found.2.met in met
  | inr g ↦ get_or_past c.from_fn.result place None (omega (arith, c.from_fn.ensures.items.long))
]
