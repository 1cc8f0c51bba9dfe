use Rattle.std.proofs.Common.{[], ◌∷◌, ◌++◌, ◌∙◌, subst, arith}
use Rattle.m17_reflect.specs.Saying.{SaysReplies}
use Rattle.m17_reflect.proofs.RestSaid.{replies_none, replies_then, passed_none, passed_more, passed_all, passed_left, fewer_left}
use Rattle.m17_reflect.proofs.rest.say_door.Goals as goal

pub loop-reply-init : goal.loop-reply-init
loop-reply-init g c = (
  [],
  passed_none c.args.door.now,
  replies_none g.M.Mouth.told c.mouths_say_in_turn.ensures c.args.mouths.now.items,
)

pub loop-reply-preserved : goal.loop-reply-preserved
loop-reply-preserved g c =
    let (xs, passed, said) = c.loop-reply.invariant in (
      xs ++ c.in-Some.reply ∷ [],
      passed_more c.args.door.now c.loop-reply.door c.left.new.self xs c.in-Some.reply passed c.in-Some.ensures.left,
      replies_then g.M.Mouth.told c.mouths_say_in_turn.ensures c.spelled_part_by_part.ensures xs (c.in-Some.reply ∷ [])
          c.args.mouths.now.items c.loop-reply.mouths.items c.answer.new.mouths.items said c.answer.ensures,
    )

pub loop-reply-smaller : goal.loop-reply-smaller
loop-reply-smaller g c =
    let (rest, more) = c.in-Some.ensures.all_popped in
    let (same, one, less) = fewer_left c.loop-reply.door c.left.new.self c.in-Some.reply rest c.in-Some.ensures.left more in
    omega arith

pub returns-clause-said : goal.returns-clause-said
returns-clause-said g c =
    let (xs, passed, said) = c.loop-reply.invariant in
    subst (λ ys. SaysReplies g.M.Mouth.told ys c.args.mouths.now.items c.loop-reply.mouths.items)
    (passed_left c.args.door.now c.loop-reply.door xs passed c.in_default.ensures.all_popped) said

pub returns-clause-drained : goal.returns-clause-drained
returns-clause-drained g c =
    let (xs, passed, said) = c.loop-reply.invariant in
    c.in_default.ensures.left ∙ passed_all c.args.door.now c.loop-reply.door xs passed c.in_default.ensures.all_popped
