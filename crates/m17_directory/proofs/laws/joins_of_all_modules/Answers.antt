use Rattle.m17_directory.proofs.LawAll.{all_modules}
use Rattle.m17_directory.proofs.laws.joins_of_all_modules.Goals as goal

pub returns : goal.returns
returns c = all_modules
