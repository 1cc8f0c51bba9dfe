use Rattle.std.proofs.Common.{arith}
use Rattle.m17_control.specs.Spelled.{packet_said}
use Rattle.m17_sender.proofs.Spoken.{says_nothing}
use Rattle.m17_sender.proofs.saying.say_item.Goals as goal

pub returns-in_default : goal.returns-in_default
returns-in_default g c =
    says_nothing g.M.Mouth.told
    c.mouths_say_in_turn.ensures c.args.mouths.now.items c.args.item.now.link c.args.item.now.peer
    (packet_said c.args.item.now.body c.args.name) (omega (arith, c.requires, c.args.mouths.now.ok.0)) c.in_default.ensures.said
