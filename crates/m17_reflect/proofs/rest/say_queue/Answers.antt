use Rattle.std.proofs.Common.{Some}
use Rattle.m17_sender.specs.Places.{held_in}
use Rattle.m17_reflect.specs.Left.{left}
use Rattle.m17_reflect.proofs.RestSaid.{items_then}
use Rattle.m17_reflect.proofs.rest.say_queue.Goals as goal

pub returns-clause-said : goal.returns-clause-said
returns-clause-said g c =
    items_then g.M.Mouth.told c.mouths_say_in_turn.ensures c.spelled_part_by_part.ensures c.args.name
    (held_in (Some c.args.held)) (left c.args.queue.now) c.args.mouths.now.items c.say_held.new.mouths.items c.say_left.new.mouths.items
    c.say_held.ensures c.say_left.ensures.said
