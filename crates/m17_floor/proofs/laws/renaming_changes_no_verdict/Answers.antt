use Rattle.m17_floor.proofs.RenamedMembers.{joined_renamed}
use Rattle.m17_floor.proofs.RenamedVerdicts.{verdict_renamed, none_renamed}
use Rattle.m17_floor.proofs.laws.renaming_changes_no_verdict.Goals as goal

pub returns-clause-members : goal.returns-clause-members
returns-clause-members c = joined_renamed

pub returns-clause-verdicts : goal.returns-clause-verdicts
returns-clause-verdicts c = verdict_renamed

pub returns-clause-floor : goal.returns-clause-floor
returns-clause-floor c = none_renamed
