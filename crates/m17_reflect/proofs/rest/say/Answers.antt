use Rattle.std.proofs.Common.{arith}
use Rattle.m17_reflect.proofs.RestSaid.{item_said, item_passed}
use Rattle.m17_reflect.proofs.rest.say.Goals as goal

pub returns-then-item-len : goal.returns-then-item-len
returns-then-item-len g c =
    item_said g.M.Mouth.told c.mouths_say_in_turn.ensures c.args.name c.args.item.now
    c.args.mouths.now.items c.say_item.new.mouths.items c.say_item.ensures
    (omega (arith, c.if-item-len.true, c.len.ensures, c.args.mouths.now.ok.0))

pub returns-else-item-len : goal.returns-else-item-len
returns-else-item-len g c =
    item_passed g.M.Mouth.told c.mouths_say_in_turn.ensures c.args.name c.args.item.now
    c.args.mouths.now.items (omega (arith, c.if-item-len.false, c.len.ensures, c.args.mouths.now.ok.0))
