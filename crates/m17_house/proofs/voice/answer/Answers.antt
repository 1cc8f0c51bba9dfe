use Rattle.std.proofs.Common.{subst, List, ℕ}
use Rattle.m17_ports.specs.Tallies.{IsTallied}
use Rattle.m17_port_memory.specs.Peers.{tally_at}
use Rattle.m17_house.proofs.Tallies.{say_reply}
use Rattle.m17_house.proofs.voice.answer.Goals as goal

pub returns : goal.returns
returns c =
    let told : IsTallied (tally_at c.args.mouth.now.entries) c.args.direct.now.peer c.as_slice.result.now (tally_at c.say.new.self.entries) = rw c.say.ensures.never_fails at c.say.ensures.tallied in
    say_reply c.args.direct.now c.write.result.items c.args.mouth.now c.say.new.self c.write.ensures
    (subst (λ (bytes : List ℕ). IsTallied (tally_at c.args.mouth.now.entries) c.args.direct.now.peer bytes (tally_at c.say.new.self.entries)) c.as_slice.ensures.value told)
    (record { peers = c.say.ensures.same_device.1; number = c.say.ensures.same_device.0 })
