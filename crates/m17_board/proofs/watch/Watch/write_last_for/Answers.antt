use Rattle.std.proofs.Common.{◌≡◌, ◌+◌, true, false, sym, ◌∙◌, arith}
use Rattle.m17_board.proofs.LastLines.{below_all, few, next_place}
use Rattle.m17_board.proofs.watch.Watch.write_last_for.Goals as goal

pub write_last_of-requires-clause-number : goal.write_last_of-requires-clause-number
write_last_of-requires-clause-number g c =
    let below = below_all c.args.self.now.modules c.args.letter c.requires.low c.requires.high (sym c.has.ensures ∙ c.if-has.true) in
    omega (arith, below, c.requires.at, c.requires.numbers)

pub write_last_of-requires-clause-glance : goal.write_last_of-requires-clause-glance
write_last_of-requires-clause-glance g c =
    let below = below_all c.args.self.now.modules c.args.letter c.requires.low c.requires.high (sym c.has.ensures ∙ c.if-has.true) in
    omega (arith, below, c.requires.at, c.requires.glances)

pub returns-then-has-clause-next : goal.returns-then-has-clause-next
returns-then-has-clause-next g c =
    next_place c.args.self.now.modules c.args.letter true c.args.place c.requires.low (sym c.has.ensures ∙ c.if-has.true) c.requires.at

pub overflow_add-result : goal.overflow_add-result
overflow_add-result g c =
    let below = below_all c.args.self.now.modules c.args.letter c.requires.low c.requires.high (sym c.has.ensures ∙ c.if-has.true) in
    omega (arith, below, few c.args.self.now.modules, c.requires.at)

pub returns-clause-next : goal.returns-clause-next
returns-clause-next g c =
    let same : c.args.place ≡ c.args.place + 0 = omega arith in
    same ∙ next_place c.args.self.now.modules c.args.letter false c.args.place c.requires.low (sym c.has.ensures ∙ c.if-has.false) c.requires.at
