use Rattle.std.proofs.Common.{None, refl, inr}
use Rattle.std.specs.Prelude.{string_bytes}
use Rattle.std.specs.Option.{option_map}
use Rattle.m17_ports.specs.declared.question.Question.TheVariants.{Link}
use Rattle.m17_client_commands.proofs.TalkQuestions.{asked_both, failed_at_last, fails_behind}
use Rattle.m17_client_commands.proofs.talk_opening.open.Goals as goal

pub returns-in-Ok-open_book-clause-asked : goal.returns-in-Ok-open_book-clause-asked
returns-in-Ok-open_book-clause-asked g c =
    asked_both c.ports_are_asked_in_turn.ensures (g.P.Ports.told c.args.ports.now) (g.P.Ports.told c.link.new.self)
    (g.P.Ports.told c.open_book.new.ports) (Link (string_bytes c.args.order.now.bind) None)
    (option_map string_bytes c.args.order.now.book)
    (rw c.as_str.ensures.value at c.link.ensures.asked) c.open_book.ensures.asked

pub returns-in-Err-open_book-clause-failed : goal.returns-in-Err-open_book-clause-failed
returns-in-Err-open_book-clause-failed g c =
    failed_at_last c.args.order.now (g.P.Ports.told c.args.ports.now) (g.P.Ports.told c.link.new.self)
    (g.P.Ports.told c.open_book.new.ports)
    (asked_both c.ports_are_asked_in_turn.ensures (g.P.Ports.told c.args.ports.now) (g.P.Ports.told c.link.new.self)
    (g.P.Ports.told c.open_book.new.ports) (Link (string_bytes c.args.order.now.bind) None)
    (option_map string_bytes c.args.order.now.book)
    (rw c.as_str.ensures.value at c.link.ensures.asked) c.open_book.ensures.asked)
    c.in-Ok.ensures.cause.no_fault c.in-Err-open_book.ensures.cause.failed

pub returns-in-Err-clause-fails_last : goal.returns-in-Err-clause-fails_last
returns-in-Err-clause-fails_last g c =
    inr (c.args.ports.now, Link c.as_str.result.now None, refl, c.link.ensures.asked)

pub returns-in-Err-open_book-clause-fails_last : goal.returns-in-Err-open_book-clause-fails_last
returns-in-Err-open_book-clause-fails_last g c =
    fails_behind g.P.Ports.told c.args.ports.now c.link.new.self c.open_book.new.ports
    c.in-Ok.ensures.cause.no_fault c.open_book.ensures.fails_last
