use Rattle.std.proofs.Common.{List, ℕ, sym, subst, ◌^◌, ◌-◌}
use Rattle.clap.specs.Words.{found_of, rows_of}
use Rattle.m17_words.specs.Values.{IsNumber}
use Rattle.m17_words.proofs.Parrots.{no_make}
use Rattle.m17_words.proofs.reading.make_of.Goals as goal

pub returns-in_default-clause-refused : goal.returns-in_default-clause-refused
returns-in_default-clause-refused c = λ e. no_make (rows_of (found_of c.args.matches.now))
    (λ seed count make. c.in_default.ensures.none seed (subst (λ (t : List ℕ). IsNumber 0 (2 ^ 64 - 1) t seed) (sym c.text_or.ensures) make.seed_is))

pub returns-in-None-clause-refused : goal.returns-in-None-clause-refused
returns-in-None-clause-refused c = λ e. no_make (rows_of (found_of c.args.matches.now))
    (λ seed count make. c.in-None.ensures.none count (subst (λ (t : List ℕ). IsNumber 0 100000 t count) (sym c.text_or-2.ensures) make.count_is))
