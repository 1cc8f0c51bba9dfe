use Rattle.std.proofs.Common.{subst, sym, ap, ◌∙◌, not, List, ℕ}
use Rattle.m17_ports.specs.Tallies.{IsTallied}
use Rattle.m17_port_memory.specs.Peers.{tally_at}
use Rattle.m17_house.proofs.Tallies.{say_spelled, say_unnamed, no_tally_there}
use Rattle.m17_house.proofs.voice.say_spelled.Goals as goal

pub returns-then-is_none : goal.returns-then-is_none
returns-then-is_none c =
    say_unnamed c.args.item.now c.args.name c.args.mouth.now
    (sym c.tally.ensures.value ∙ no_tally_there c.tally.result (c.is_none.ensures ∙ ap not c.if-is_none.true))

pub returns-in-Some : goal.returns-in-Some
returns-in-Some c =
    let told : IsTallied (tally_at c.args.mouth.now.entries) c.args.item.now.peer c.as_slice.result.now (tally_at c.say.new.self.entries) = rw c.say.ensures.never_fails at c.say.ensures.tallied in
    say_spelled c.args.item.now c.args.name c.in-Some.datagram.items c.args.mouth.now c.say.new.self
    c.in-Some.ensures.said c.in-Some.ensures.bytes
    (subst (λ (bytes : List ℕ). IsTallied (tally_at c.args.mouth.now.entries) c.args.item.now.peer bytes (tally_at c.say.new.self.entries)) c.as_slice.ensures.value told)
    (record { peers = c.say.ensures.same_device.1; number = c.say.ensures.same_device.0 })
