use Rattle.m17_words.proofs.Parrots.{no_parrots}
use Rattle.m17_words.proofs.values.parrots.Goals as goal

pub returns-in-Some-clause-none : goal.returns-in-Some-clause-none
returns-in-Some-clause-none c = rw c.in-Some.is (no_parrots c.in-Some.text.now c.modules.result c.args.modules.now c.modules.ensures.none)
