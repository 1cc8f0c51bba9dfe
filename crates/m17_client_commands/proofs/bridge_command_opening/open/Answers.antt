use Rattle.std.specs.Prelude.{string_bytes}
use Rattle.m17_ports.specs.Ports.{PortsTold}
use Rattle.m17_ports.specs.declared.question.Question.{Question}
use Rattle.m17_ports.specs.declared.question.Question.TheVariants.{Link}
use Rattle.m17_client_commands.specs.Bridged.{until_of}
use Rattle.m17_client_commands.proofs.BridgeCommandQuestions.{asked_both, failed_second}
use Rattle.m17_client_commands.proofs.bridge_command_opening.open.Goals as goal

pub returns-in-Err-known_link-clause-failed : goal.returns-in-Err-known_link-clause-failed
returns-in-Err-known_link-clause-failed g c =
    let before : PortsTold = g.P.Ports.told c.args.ports.now in
    let mid : PortsTold = g.P.Ports.told c.known_link.new.self in
    let after : PortsTold = g.P.Ports.told c.known_link-2.new.self in
    let near : Question = Link (string_bytes c.args.order.now.near) (until_of c.args.order.now.seconds) in
    let far : Question = Link (string_bytes c.args.order.now.far) (until_of c.args.order.now.seconds) in
    failed_second before mid after near far
    (asked_both c.ports_are_asked_in_turn.ensures before mid after near far
    (rw (c.as_str.ensures.value, c.until_of-until.ensures) at c.known_link.ensures.asked)
    (rw (c.as_str-2.ensures.value, c.until_of-until.ensures) at c.known_link-2.ensures.asked))
    c.in-Ok.ensures.cause.no_fault c.in-Err-known_link.ensures.cause.failed
