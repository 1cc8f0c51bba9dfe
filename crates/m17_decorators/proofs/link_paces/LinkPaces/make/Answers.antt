use Rattle.std.proofs.Common.{[], ◌∷◌, length, length-append, ap, arith}
use Rattle.m17_decorators.proofs.Paces.{new-push}
use Rattle.m17_decorators.proofs.link_paces.LinkPaces.make.Goals as goal

pub fill-preserved : goal.fill-preserved
fill-preserved c =
    let items = c.in_ok-push.ensures.items in (
      omega (
        arith,
        ap length items,
        length-append c.fill.made.items (c.in_ok-make.field-0 ∷ []),
        c.fill-test.true,
        c.len.ensures,
        c.fill.made.ok.0,
      ),
      new-push c.args.most c.fill.made.items c.push.new.self.items c.in_ok-make.field-0 items
          c.fill.invariant.1 c.in_ok-make.ensures,
    )
