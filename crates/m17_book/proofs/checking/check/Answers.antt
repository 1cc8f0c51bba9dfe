use Rattle.std.proofs.Common.{◌<◌, ◌-◌, ◌^◌, Err, length, take, ap, arith}
use Rattle.std.proofs.lemmas.List.{length-take-le}
use Rattle.m17_book.specs.Checks.{IsFirstBreachOf}
use Rattle.m17_book.proofs.FirstBreach.{first_of_all, same_breach}
use Rattle.m17_book.proofs.checking.check.Goals as goal

-- the breach that was found is the first of all records
found : (c : goal.In-Err) → IsFirstBreachOf c.args.limit c.args.records.now c.in-Err.breach
found c =
    let few : length (take c.loop-one.one-index c.args.records.now) < 2 ^ 64 - 1 = omega (arith, length-take-le c.loop-one.one-index c.args.records.now (omega arith)) in
    let told = c.in-Err.ensures.checks c.args.limit (take c.loop-one.one-index c.args.records.now) c.loop-one.invariant few in
    first_of_all c.books_are_judged_act_by_act.ensures.later c.args.limit c.args.records.now c.loop-one.one-index c.one-item.result c.in-Err.breach (omega arith) c.one-item.is told.0 told.1

pub returns-in-Err-clause-answers : goal.returns-in-Err-clause-answers
returns-in-Err-clause-answers c = found c

pub returns-in-Err-clause-each_legal : goal.returns-in-Err-clause-each_legal
returns-in-Err-clause-each_legal c = λ legal. absurd (legal c.in-Err.breach.position c.in-Err.breach.rule (found c).breach)

pub returns-in-Err-clause-each_breach : goal.returns-in-Err-clause-each_breach
returns-in-Err-clause-each_breach c = λ breach first. ap Err (same_breach c.books_are_judged_act_by_act.ensures.one_first c.args.limit c.args.records.now c.in-Err.breach breach (found c) first)
