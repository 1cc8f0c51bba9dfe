use Rattle.std.proofs.Common.{ap, ◌∙◌, string_bytes, String, Global}
use Rattle.m17_words.proofs.Named.{first_of, word_is, first_is}
use Rattle.m17_words.proofs.reading.read_words.Goals as goal

pub returns-in-None-clause-refused : goal.returns-in-None-clause-refused
returns-in-None-clause-refused c = λ e given named. c.in-None.ensures.no_word (first_of given)
    (c.as_str.ensures.value ∙ ap (λ (s : String Global). string_bytes s) c.first-item.is
    ∙ first_is c.args.words.now c.first-item.result given named ∙ word_is given)
