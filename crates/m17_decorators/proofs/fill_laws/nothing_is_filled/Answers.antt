use Rattle.m17_decorators.proofs.Hearing.{all_stay, heard_as}
use Rattle.m17_decorators.proofs.fill_laws.nothing_is_filled.Goals as goal

pub returns-clause-entries : goal.returns-clause-entries
returns-clause-entries g c = all_stay

pub returns-clause-ears : goal.returns-clause-ears
returns-clause-ears g c = heard_as g.E.Ear.told
