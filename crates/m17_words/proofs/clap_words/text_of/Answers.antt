use Rattle.std.proofs.Common.{◌∙◌}
use Rattle.clap.specs.Words.{found_of}
use Rattle.clap.proofs.WalkLemmas.{first_value-rows}
use Rattle.m17_words.specs.Tables.{text_of}
use Rattle.m17_words.proofs.clap_words.text_of.Goals as goal

pub returns : goal.returns
unfolding text_of
returns c = c.get_str.ensures ∙ first_value-rows (found_of c.args.matches.now) c.args.name.now
