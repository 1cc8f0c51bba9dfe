use Rattle.std.proofs.Common.{◌≡◌, ℕ, Option, sym, ap, subst, Some, ◌∙◌, rules}
use Rattle.m17_floor.specs.Kept.{frame_seen}
use Rattle.m17_floor.specs.Rule.{Frame, Incoming, incoming, frame_from, frame_beside}
use Rattle.m17_floor.specs.StandsFor.{packet_act, IsJudged}
use Rattle.m17_floor.proofs.Opened.{kept_told}
use Rattle.m17_floor.proofs.Standing.{state, judged_admitted, judged_refused}
use Rattle.m17_floor.proofs.floor.Floor.judge.Goals as goal

pub returns-then-is_admitted-clause-by_rule : goal.returns-then-is_admitted-clause-by_rule
returns-then-is_admitted-clause-by_rule c =
    let limit : c.args.self.now.limit ≡ c.self.inside.limit = search rules in
    λ setup acts moment floor own speaks at.
    let kept : Option Frame = Some (frame_seen c.of-frame.result) in
    let new : Incoming = incoming c.args.sender c.args.at c.args.p.now in
    subst (λ (l : ℕ). IsJudged setup acts (packet_act moment c.args.sender c.args.p.now) c.args.sender c.verdict-verdict.result (state l kept) kept) limit
    (subst (λ (frame : Frame). IsJudged setup acts (packet_act moment c.args.sender c.args.p.now) c.args.sender c.verdict-verdict.result (state c.args.self.now.limit (Some frame)) (Some frame))
    (sym (c.of-frame.ensures ∙ ap (λ x. frame_from x new) c.opening.ensures ∙ kept_told c.args.self.now.limit c.args.self.now.frame c.args.own.now new c.verdict-verdict.result c.verdict-verdict.ensures (sym c.is_admitted.ensures ∙ c.if-is_admitted.true)))
    (judged_admitted setup acts moment c.args.sender c.args.p.now c.args.self.now c.args.own.now c.args.at c.verdict-verdict.result floor own speaks at c.verdict-verdict.ensures (sym c.is_admitted.ensures ∙ c.if-is_admitted.true)))

pub returns-then-is_admitted-clause-admitted : goal.returns-then-is_admitted-clause-admitted
returns-then-is_admitted-clause-admitted c =
    λ admitted.
    let new : Incoming = incoming c.args.sender c.args.at c.args.p.now in
    let kept : frame_seen c.of-frame.result ≡ frame_beside c.args.self.now.limit c.args.self.now.frame new =
    c.of-frame.ensures ∙ ap (λ x. frame_from x new) c.opening.ensures ∙ kept_told c.args.self.now.limit c.args.self.now.frame c.args.own.now new c.verdict-verdict.result c.verdict-verdict.ensures admitted in
    (ap Some kept, ap Some kept)

pub returns-else-is_admitted-clause-by_rule : goal.returns-else-is_admitted-clause-by_rule
returns-else-is_admitted-clause-by_rule c =
    λ setup acts moment floor own speaks at.
    judged_refused setup acts moment c.args.sender c.args.p.now c.args.self.now c.args.own.now c.args.at c.verdict-verdict.result floor own speaks at c.verdict-verdict.ensures (sym c.is_admitted.ensures ∙ c.if-is_admitted.false)
