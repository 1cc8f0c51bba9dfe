use Rattle.std.proofs.Common.{Option, Some, subst, arith}
use Rattle.m17_control.specs.declared.item.Item.{Item}
use Rattle.m17_sender.specs.SoFar.{at_rest, GoesOn, with_item}
use Rattle.m17_sender.proofs.Queued.{goes_on}
use Rattle.m17_sender.proofs.sender.Sender.try_queue.Goals as goal

pub take-requires-clause-shaped : goal.take-requires-clause-shaped
take-requires-clause-shaped g c = (c.next-next.ensures.goes_on c.args.kept.now.noted).grows.shaped c.requires.shaped

pub take-requires-clause-row : goal.take-requires-clause-row
take-requires-clause-row g c =
    let same = (c.next-next.ensures.goes_on c.args.kept.now.noted).grows.same_modules in
    omega (arith, same, c.requires.row, c.args.self.now.queues.ok.0, c.next-next.new.self.queues.ok.0)

pub take-requires-clause-at : goal.take-requires-clause-at
take-requires-clause-at g c =
    let same = (c.next-next.ensures.goes_on c.args.kept.now.noted).grows.same_places in omega (arith, same, c.requires.at)

pub returns-in-Some-clause-goes_on : goal.returns-in-Some-clause-goes_on
returns-in-Some-clause-goes_on g c =
    goes_on g.M.Mouth.told (at_rest c.args.self.now c.args.kept.now.noted)
    (with_item c.next-next.new.self c.args.kept.now.noted c.args.row c.args.at (Some c.in-Some.item))
    (at_rest c.take.new.self c.take.new.kept.noted)
    (subst (λ (item : Option Item). GoesOn g.M.Mouth.told
    (at_rest c.args.self.now c.args.kept.now.noted) (with_item c.next-next.new.self c.args.kept.now.noted c.args.row c.args.at item))
    c.in-Some.is (c.next-next.ensures.goes_on c.args.kept.now.noted))
    c.take.ensures.goes_on

pub returns-in-None-clause-goes_on : goal.returns-in-None-clause-goes_on
returns-in-None-clause-goes_on g c =
    subst (λ (item : Option Item). GoesOn g.M.Mouth.told
    (at_rest c.args.self.now c.args.kept.now.noted) (with_item c.next-next.new.self c.args.kept.now.noted c.args.row c.args.at item))
    c.in-None.is (c.next-next.ensures.goes_on c.args.kept.now.noted)
