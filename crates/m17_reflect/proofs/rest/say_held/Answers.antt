use Rattle.std.proofs.Common.{Option, Some, sym, subst}
use Rattle.m17_control.specs.declared.item.Item.{Item}
use Rattle.m17_sender.specs.Places.{held_in}
use Rattle.m17_reflect.specs.Saying.{SaysItems}
use Rattle.m17_reflect.proofs.RestSaid.{items_none}
use Rattle.m17_reflect.proofs.rest.say_held.Goals as goal

pub returns-in-None : goal.returns-in-None
returns-in-None g c =
    subst (λ (held : Option Item). SaysItems g.M.Mouth.told c.args.name (held_in (Some held))
    c.args.mouths.now.items c.args.mouths.now.items) (sym c.in-None.is)
    (items_none g.M.Mouth.told c.mouths_say_in_turn.ensures c.args.name c.args.mouths.now.items)
