use Rattle.std.proofs.Common.{length, count_by, is_some, sym, ap, ◌∙◌}
use Rattle.std.proofs.lemmas.List.FromFn.{length-map-range_with_len}
use Rattle.m17_replay.specs.Tapes.{packet_on, verdicts_on, OutcomesKept}
use Rattle.m17_replay.proofs.TapeSteps.{filled_count}
use Rattle.m17_replay.proofs.replay_run_outcomes.Outcomes.count.Goals as goal

pub returns-clause-verdicts : goal.returns-clause-verdicts
returns-clause-verdicts c =
    let link = c.self.inside.link.items in
    c.count_filled.ensures ∙ ap (count_by (λ cell. is_some cell)) c.deref.ensures.value ∙ filled_count link ∙ ap (λ (o : OutcomesKept). length o.verdicts) c.self.view_is

pub returns-clause-packets : goal.returns-clause-packets
returns-clause-packets c =
    let link = c.self.inside.link.items in
    let tapes = c.self.inside.modules.items in
    c.count_filled.ensures ∙ ap (count_by (λ cell. is_some cell)) c.deref.ensures.value ∙ filled_count link
    ∙ sym (length-map-range_with_len (packet_on c.self.inside.served tapes (verdicts_on link)) 0 (length (verdicts_on link)))
    ∙ ap (λ (o : OutcomesKept). length o.packets) c.self.view_is
