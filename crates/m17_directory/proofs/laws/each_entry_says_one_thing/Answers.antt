use Rattle.m17_directory.proofs.LawSays.{says_one}
use Rattle.m17_directory.proofs.laws.each_entry_says_one_thing.Goals as goal

pub returns : goal.returns
returns c = says_one c.decoding_is_exact.ensures
