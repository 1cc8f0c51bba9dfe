use Rattle.std.proofs.Common.{ℕ, [], ◌∷◌, length, length-append, ap, arith}
use Rattle.m17_decorators.proofs.New.{new-push}
use Rattle.m17_decorators.proofs.guards.Guards.make.Goals as goal

pub take-preserved : goal.take-preserved
take-preserved c =
    let items = c.in_ok-push.ensures.items in (
      omega (
        arith,
        ap length items,
        length-append c.take.memories.items (c.in_ok-make.field-0 ∷ []),
        c.take-test.true,
        c.len.ensures,
        c.take.memories.ok.0,
      ),
      new-push c.take.memories.items c.push.new.self.items c.in_ok-make.field-0 items
          c.take.invariant.1 c.in_ok-make.ensures.whole c.in_ok-make.ensures.empty,
    )
