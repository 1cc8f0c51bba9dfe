use Rattle.std.proofs.Common.{arith}
use Rattle.m17_reflect.proofs.RestSaid.{reply_said, reply_passed}
use Rattle.m17_reflect.proofs.rest.answer.Goals as goal

pub returns-then-reply-len : goal.returns-then-reply-len
returns-then-reply-len g c =
    reply_said g.M.Mouth.told c.mouths_say_in_turn.ensures c.args.reply.now
    c.args.mouths.now.items c.say_reply.new.mouths.items c.say_reply.ensures
    (omega (arith, c.if-reply-len.true, c.len.ensures, c.args.mouths.now.ok.0))

pub returns-else-reply-len : goal.returns-else-reply-len
returns-else-reply-len g c =
    reply_passed g.M.Mouth.told c.mouths_say_in_turn.ensures c.args.reply.now
    c.args.mouths.now.items (omega (arith, c.if-reply-len.false, c.len.ensures, c.args.mouths.now.ok.0))
