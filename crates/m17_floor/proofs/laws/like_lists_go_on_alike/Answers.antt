use Rattle.m17_floor.proofs.LikeLists.{nothing_alike, idle_alike, joins_alike, replacements_alike, leaves_alike, packets_alike}
use Rattle.m17_floor.proofs.laws.like_lists_go_on_alike.Goals as goal

pub returns-clause-nothing : goal.returns-clause-nothing
returns-clause-nothing c = nothing_alike

pub returns-clause-idle : goal.returns-clause-idle
returns-clause-idle c = idle_alike

pub returns-clause-joins : goal.returns-clause-joins
returns-clause-joins c = joins_alike

pub returns-clause-replacements : goal.returns-clause-replacements
returns-clause-replacements c = replacements_alike

pub returns-clause-leaves : goal.returns-clause-leaves
returns-clause-leaves c = leaves_alike

pub returns-clause-packets : goal.returns-clause-packets
returns-clause-packets c = packets_alike
