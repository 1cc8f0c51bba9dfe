use Rattle.std.proofs.Common.{List, sym, subst, arith}
use Rattle.m17_floor.specs.declared.act.Act.{Act}
use Rattle.m17_floor.specs.declared.act.ActKind.TheVariants.{Packet}
use Rattle.m17_floor.specs.StandsFor.{IsJudged}
use Rattle.m17_text_commands.specs.Judge.{judge_setup, talker}
use Rattle.m17_text_commands.specs.Table.{TableKept, TableStandsFor}
use Rattle.m17_text_commands.proofs.Standing.{judged_more, ruled_at}
use Rattle.m17_text_commands.proofs.table.Table.judge.Goals as goal

-- what was kept before
abbrev kept : goal.After-self-2-1 → TableKept
kept c = record { floor = c.self.inside.floor; owns = c.self.inside.owns.items; moment = c.self.inside.moment }

kept_stands : (c : goal.After-self-2-1) (acts : List Act) → TableStandsFor acts c.args.self.now → TableStandsFor acts (kept c)
kept_stands c acts stands = subst (λ (k : TableKept). TableStandsFor acts k) (sym c.self.view_is) stands

-- the judgement, by the rule of the acts that the table stands for
judged : (c : goal.After-self-2-1) (acts : List Act) → TableStandsFor acts c.args.self.now
    → IsJudged judge_setup acts (record { at = c.args.at; kind = Packet (talker c.args.place) c.args.p.now }) (talker c.args.place) c.judge.result c.judge.new.self c.judge.new.own
judged c acts stands =
    ruled_at acts c.args.at c.args.place c.from.result c.args.p.now c.judge.result (kept c) c.judge.new.self c.index_mut-own.result.now c.judge.new.own
    c.max-self-inside.result c.from.ensures c.index_mut-own.ensures.value
    (omega (arith, c.self.invariant)) (omega arith) c.max-self-inside.ensures (kept_stands c acts stands) c.judge.ensures.by_rule

pub returns-clause-stands : goal.returns-clause-stands
returns-clause-stands c = λ acts stands. rw c.max-self-inside.ensures
    (judged_more acts _ c.args.place c.judge.result (kept c) _ _ (omega (arith, c.self.invariant)) (kept_stands c acts stands) (judged c acts stands))

pub returns-clause-ruled : goal.returns-clause-ruled
returns-clause-ruled c = λ acts stands. (judged c acts stands).verdict_is
