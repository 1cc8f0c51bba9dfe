use Rattle.std.proofs.Common.{◌≡◌, ℕ, ◌+◌, ◌*◌, List, map, length, string_bytes, ap, ◌∙◌, arith, inl}
use Rattle.std.specs.Prelude.{vec_len}
use Rattle.std.specs.Option.{option_map}
use Rattle.std.proofs.lemmas.List.{length-map}
use Rattle.m17_ports.specs.declared.question.Question.{Question}
use Rattle.m17_ports.specs.declared.question.Question.TheVariants.{Link}
use Rattle.m17_ports.specs.Ports.{PortsTold}
use Rattle.m17_serve.specs.Asked.{call_after, link_questions, shelf_questions, until_of}
use Rattle.m17_serve.specs.Devices.{first_book}
use Rattle.m17_serve.specs.Steps.{AreAsked}
use Rattle.m17_serve.proofs.Asking.{asked_then, calls_on, fails_behind, fails_later}
use Rattle.m17_serve.proofs.NewOnes.{there_told}
use Rattle.m17_serve.proofs.opening.open_devices.Goals as goal

pub returns-in-Ok-open_shelves-clause-asks : goal.returns-in-Ok-open_shelves-clause-asks
returns-in-Ok-open_shelves-clause-asks g c =
    let order = c.args.order.now in
    let p : PortsTold = g.P.Ports.told c.args.ports.now in
    let q : PortsTold = g.P.Ports.told c.open_links.new.ports in
    let r : PortsTold = g.P.Ports.told c.open_shelves.new.ports in
    let links : List Question = link_questions (map string_bytes order.binds.items) (until_of order.seconds) in
    let shelves : List Question = shelf_questions order (option_map string_bytes order.book) in
    let first : AreAsked links p q = rw (c.as_slice-binds.ensures.value, c.until_of-until.ensures) at c.in-Ok.ensures.asks.asked in
    record {
      asked = asked_then links shelves p q r first c.in-Ok-open_shelves.ensures.asks.asked;
      no_fault = c.in-Ok-open_shelves.ensures.asks.no_fault ∙ c.in-Ok.ensures.asks.no_fault;
      failed = tt;
    }

pub returns-in-Err-open_shelves-clause-asks : goal.returns-in-Err-open_shelves-clause-asks
returns-in-Err-open_shelves-clause-asks g c =
    let order = c.args.order.now in
    let p : PortsTold = g.P.Ports.told c.args.ports.now in
    let q : PortsTold = g.P.Ports.told c.open_links.new.ports in
    let r : PortsTold = g.P.Ports.told c.open_shelves.new.ports in
    let links : List Question = link_questions (map string_bytes order.binds.items) (until_of order.seconds) in
    let shelves : List Question = shelf_questions order (option_map string_bytes order.book) in
    let first : AreAsked links p q = rw (c.as_slice-binds.ensures.value, c.until_of-until.ensures) at c.in-Ok.ensures.asks.asked in
    record {
      asked = tt;
      no_fault = tt;
      failed = fails_later links shelves p q r first c.in-Ok.ensures.asks.no_fault c.in-Err-open_shelves.ensures.asks.failed;
    }

pub returns-in-Ok-open_shelves-clause-new : goal.returns-in-Ok-open_shelves-clause-new
returns-in-Ok-open_shelves-clause-new g c =
    let order = c.args.order.now in
    let call : ℕ = (g.P.Ports.told c.args.ports.now).calls in
    let count : ℕ = vec_len order.binds in
    let binds : List (List ℕ) = map string_bytes order.binds.items in
    let p : PortsTold = g.P.Ports.told c.args.ports.now in
    let q : PortsTold = g.P.Ports.told c.open_links.new.ports in
    let first : AreAsked (link_questions binds (until_of order.seconds)) p q = rw (c.as_slice-binds.ensures.value, c.until_of-until.ensures) at c.in-Ok.ensures.asks.asked in
    let long : length (link_questions binds (until_of order.seconds)) ≡ count =
    omega (arith, length-map binds (λ bind. Link bind (until_of order.seconds)), length-map order.binds.items string_bytes, order.binds.ok.0) in
    let trace : (g.P.Ports.told c.open_links.new.ports).calls ≡ call_after call count = first.counted ∙ ap (call_after call) long in
    let twice : count + count ≡ 2 * count = omega arith in
    let book : call_after (g.P.Ports.told c.open_links.new.ports).calls count ≡ first_book order call =
    ap (λ (n : ℕ). call_after n count) trace ∙ calls_on call count count ∙ ap (call_after call) twice in
    record {
      ears = rw c.as_slice-binds.ensures.len at c.in-Ok.ensures.ears;
      mouths = rw c.as_slice-binds.ensures.len at c.in-Ok.ensures.mouths;
      traces = rw trace at c.in-Ok-open_shelves.ensures.traces;
      books = rw (book, c.requires.modules) at c.in-Ok-open_shelves.ensures.books;
      traces_there = there_told _ string_bytes _ _ c.in-Ok-open_shelves.ensures.traces_there;
      books_there = there_told _ string_bytes _ _ c.in-Ok-open_shelves.ensures.books_there;
    }

pub returns-in-Err-open_shelves-clause-fails_last : goal.returns-in-Err-open_shelves-clause-fails_last
returns-in-Err-open_shelves-clause-fails_last g c =
    fails_behind g.P.Ports.told c.args.ports.now c.open_links.new.ports c.open_shelves.new.ports
    c.in-Ok.ensures.asks.no_fault c.open_shelves.ensures.fails_last

pub returns-in-Ok-open_shelves-clause-fails_last : goal.returns-in-Ok-open_shelves-clause-fails_last
returns-in-Ok-open_shelves-clause-fails_last g c = inl (c.in-Ok-open_shelves.ensures.asks.no_fault ∙ c.in-Ok.ensures.asks.no_fault)
