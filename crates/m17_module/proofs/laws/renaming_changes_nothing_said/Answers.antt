use Rattle.m17_module.proofs.RenamedEvents.{FloorRenamed, verdict_renamed}
use Rattle.m17_module.proofs.RenamedItems.{items_renamed}
use Rattle.m17_module.proofs.laws.renaming_changes_nothing_said.Goals as goal

pub returns-clause-said : goal.returns-clause-said
returns-clause-said c =
    let law : FloorRenamed = record {
      members = c.renaming_changes_no_verdict.ensures.members;
      verdicts = c.renaming_changes_no_verdict.ensures.verdicts;
      floor = c.renaming_changes_no_verdict.ensures.floor;
    } in items_renamed law

pub returns-clause-verdicts : goal.returns-clause-verdicts
returns-clause-verdicts c = verdict_renamed c.renaming_changes_no_verdict.ensures.verdicts
