use Rattle.std.proofs.Common.{◌≡◌, false, List, sym, subst, ◌∙◌}
use Rattle.std.specs.Prelude.{is_some}
use Rattle.m17_gate.specs.Asking.{asked_in}
use Rattle.m17_gate.specs.Gated.{is_denied}
use Rattle.m17_gate.specs.declared.rule.Rule.{Rule}
use Rattle.m17_gate.proofs.OpenLemmas.{open_rules}
use Rattle.m17_gate.proofs.QuickLemmas.{allowed_talk, denied_talk}
use Rattle.m17_gate.proofs.quick.QuickRules.denies.Goals as goal

pub returns-then-lets_talk-clause-answer : goal.returns-then-lets_talk-clause-answer
returns-then-lets_talk-clause-answer c =
    subst (λ (rules : List Rule). false ≡ is_denied rules c.args.bytes.now)
    (open_rules c.self.inside.shut c.self.inside.rules c.args.self.now c.self.view_is c.if-self.false)
    (allowed_talk c.self.inside.rules c.args.bytes.now c.get_48.result c.if-bytes-ne-TALK_BYTES.false
    c.get_48.ensures.within
    c.get_48.ensures.field (sym c.lets_talk.ensures.answer ∙ c.if-lets_talk.true))

pub returns-clause-answer : goal.returns-clause-answer
returns-clause-answer c = c.asks_to_talk.ensures
    ∙ subst (λ (rules : List Rule). is_some (asked_in c.args.bytes.now) ≡ is_denied rules c.args.bytes.now)
    (open_rules c.self.inside.shut c.self.inside.rules c.args.self.now c.self.view_is c.if-self.false)
    (denied_talk c.self.inside.rules c.args.bytes.now c.get_48.result c.if-bytes-ne-TALK_BYTES.false
    c.get_48.ensures.within
    c.get_48.ensures.field (sym c.lets_talk.ensures.answer ∙ c.if-lets_talk.false))
