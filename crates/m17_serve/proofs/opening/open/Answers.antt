use Rattle.std.proofs.Common.{List, ◌∙◌, inl}
use Rattle.std.specs.Prelude.{string_bytes}
use Rattle.std.specs.Option.{option_map}
use Rattle.m17_ports.specs.Ports.{PortsTold}
use Rattle.m17_ports.specs.declared.question.Question.{Question}
use Rattle.m17_serve.specs.Asked.{board_questions, device_questions}
use Rattle.m17_serve.proofs.Asking.{asked_then, asks_first, fails_behind, fails_later}
use Rattle.m17_serve.proofs.opening.open.Goals as goal

pub returns-in-Err-clause-asks : goal.returns-in-Err-clause-asks
returns-in-Err-clause-asks g c =
    let order = c.args.order.now in
    asks_first c.in-Err.failed (device_questions order) (board_questions (option_map string_bytes order.board)) _ _ c.in-Err.ensures.asks.failed

pub returns-in-Ok-open_lines-clause-asks : goal.returns-in-Ok-open_lines-clause-asks
returns-in-Ok-open_lines-clause-asks g c =
    let order = c.args.order.now in
    let p : PortsTold = g.P.Ports.told c.args.ports.now in
    let q : PortsTold = g.P.Ports.told c.open_devices.new.ports in
    let r : PortsTold = g.P.Ports.told c.open_lines.new.ports in
    let devices : List Question = device_questions order in
    let board : List Question = board_questions (option_map string_bytes order.board) in
    record {
      asked = asked_then devices board p q r c.in-Ok.ensures.asks.asked c.in-Ok-open_lines.ensures.asks.asked;
      no_fault = c.in-Ok-open_lines.ensures.asks.no_fault ∙ c.in-Ok.ensures.asks.no_fault;
      failed = tt;
    }

pub returns-in-Ok-open_lines-clause-board : goal.returns-in-Ok-open_lines-clause-board
returns-in-Ok-open_lines-clause-board g c = rw c.in-Ok.ensures.asks.asked.counted at c.in-Ok-open_lines.ensures.new

pub returns-in-Err-open_lines-clause-asks : goal.returns-in-Err-open_lines-clause-asks
returns-in-Err-open_lines-clause-asks g c =
    let order = c.args.order.now in
    let p : PortsTold = g.P.Ports.told c.args.ports.now in
    let q : PortsTold = g.P.Ports.told c.open_devices.new.ports in
    let r : PortsTold = g.P.Ports.told c.open_lines.new.ports in
    let devices : List Question = device_questions order in
    let board : List Question = board_questions (option_map string_bytes order.board) in
    record {
      asked = tt;
      no_fault = tt;
      failed = fails_later devices board p q r c.in-Ok.ensures.asks.asked c.in-Ok.ensures.asks.no_fault c.in-Err-open_lines.ensures.asks.failed;
    }

pub returns-in-Err-open_lines-clause-fails_last : goal.returns-in-Err-open_lines-clause-fails_last
returns-in-Err-open_lines-clause-fails_last g c =
    fails_behind g.P.Ports.told c.args.ports.now c.open_devices.new.ports c.open_lines.new.ports c.in-Ok.ensures.asks.no_fault c.open_lines.ensures.fails_last

pub returns-in-Ok-open_lines-clause-fails_last : goal.returns-in-Ok-open_lines-clause-fails_last
returns-in-Ok-open_lines-clause-fails_last g c = inl (c.in-Ok-open_lines.ensures.asks.no_fault ∙ c.in-Ok.ensures.asks.no_fault)
