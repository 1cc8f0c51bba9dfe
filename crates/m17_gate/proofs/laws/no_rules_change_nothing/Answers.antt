use Rattle.m17_gate.proofs.OpenLemmas.{all_pass, heard_as}
use Rattle.m17_gate.proofs.laws.no_rules_change_nothing.Goals as goal

pub returns-clause-entries : goal.returns-clause-entries
returns-clause-entries g c = all_pass

pub returns-clause-ears : goal.returns-clause-ears
returns-clause-ears g c = heard_as g.E.Ear.told
