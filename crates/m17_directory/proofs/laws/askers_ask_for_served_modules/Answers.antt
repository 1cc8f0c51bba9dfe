use Rattle.m17_directory.proofs.LawAskers.{askers_served}
use Rattle.m17_directory.proofs.laws.askers_ask_for_served_modules.Goals as goal

pub returns : goal.returns
returns c = askers_served
