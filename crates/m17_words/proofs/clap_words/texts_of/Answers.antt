use Rattle.std.proofs.Common.{◌∙◌}
use Rattle.clap.specs.Words.{found_of}
use Rattle.clap.proofs.WalkLemmas.{raw_values-rows}
use Rattle.m17_words.specs.Tables.{texts_of}
use Rattle.m17_words.proofs.clap_words.texts_of.Goals as goal

pub returns : goal.returns
unfolding texts_of
returns c = c.get_strs.ensures ∙ raw_values-rows (found_of c.args.matches.now) c.args.name.now
