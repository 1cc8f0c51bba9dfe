use Rattle.m17_module.proofs.EchoesBefore.{Later}
use Rattle.m17_module.proofs.EchoItems.{items_before}
use Rattle.m17_module.proofs.laws.later_events_change_no_items.Goals as goal

pub returns : goal.returns
returns c =
    let later : Later = record {
      verdicts = c.later_acts_change_no_verdict.ensures;
      members = c.later_acts_change_nothing_before.ensures.members;
      moments = c.later_acts_change_nothing_before.ensures.moments;
      kinds = c.later_acts_change_nothing_before.ensures.kinds;
    } in items_before later
