use Rattle.std.proofs.Common.{codes}
use Rattle.m17_ports.specs.Tallies.{IsTallied}
use Rattle.m17_port_memory.specs.Peers.{tally_at}
use Rattle.m17_house.proofs.Tallies.{say_framed}
use Rattle.m17_house.proofs.voice.say_frame.Goals as goal

pub returns : goal.returns
returns c =
    let told : IsTallied (tally_at c.args.mouth.now.entries) c.args.item.now.peer (codes "M17 ") (tally_at c.say.new.self.entries) = rw c.say.ensures.never_fails at c.say.ensures.tallied in
    say_framed c.args.item.now c.args.name c.args._packet.now c.args.mouth.now c.say.new.self c.requires told
    (record { peers = c.say.ensures.same_device.1; number = c.say.ensures.same_device.0 })
