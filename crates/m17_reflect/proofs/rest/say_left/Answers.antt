use Rattle.std.proofs.Common.{[], ◌∷◌, ◌++◌, ◌∙◌, subst, arith}
use Rattle.m17_reflect.specs.Saying.{SaysItems}
use Rattle.m17_reflect.proofs.RestSaid.{items_none, items_then, passed_none, passed_more, passed_all, passed_left, fewer_left}
use Rattle.m17_reflect.proofs.rest.say_left.Goals as goal

pub loop-item-init : goal.loop-item-init
loop-item-init g c = (
  [],
  passed_none c.args.queue.now,
  items_none g.M.Mouth.told c.mouths_say_in_turn.ensures c.args.name c.args.mouths.now.items,
)

pub loop-item-preserved : goal.loop-item-preserved
loop-item-preserved g c =
    let (xs, passed, said) = c.loop-item.invariant in (
      xs ++ c.in-Some.item ∷ [],
      passed_more c.args.queue.now c.loop-item.queue c.left.new.self xs c.in-Some.item passed c.in-Some.ensures.left,
      items_then g.M.Mouth.told c.mouths_say_in_turn.ensures c.spelled_part_by_part.ensures c.args.name xs (c.in-Some.item ∷ [])
          c.args.mouths.now.items c.loop-item.mouths.items c.say.new.mouths.items said c.say.ensures,
    )

pub loop-item-smaller : goal.loop-item-smaller
loop-item-smaller g c =
    let (rest, more) = c.in-Some.ensures.all_popped in
    let (same, one, less) = fewer_left c.loop-item.queue c.left.new.self c.in-Some.item rest c.in-Some.ensures.left more in
    omega arith

pub returns-clause-said : goal.returns-clause-said
returns-clause-said g c =
    let (xs, passed, said) = c.loop-item.invariant in
    subst (λ ys. SaysItems g.M.Mouth.told c.args.name ys c.args.mouths.now.items c.loop-item.mouths.items)
    (passed_left c.args.queue.now c.loop-item.queue xs passed c.in_default.ensures.all_popped) said

pub returns-clause-drained : goal.returns-clause-drained
returns-clause-drained g c =
    let (xs, passed, said) = c.loop-item.invariant in
    c.in_default.ensures.left ∙ passed_all c.args.queue.now c.loop-item.queue xs passed c.in_default.ensures.all_popped
