use Rattle.std.proofs.Common.{List, map, string_bytes, sym, subst, arith}
use Rattle.m17_ports.specs.declared.question.Question.{Question}
use Rattle.m17_ports.specs.declared.question.Question.TheVariants.{Book}
use Rattle.m17_ports.specs.Ports.{PortsTold}
use Rattle.m17_serve.specs.Steps.{Asks}
use Rattle.m17_serve.proofs.Asking.{asks_then, fails_behind}
use Rattle.m17_serve.proofs.NewOnes.{empty_new}
use Rattle.m17_serve.proofs.opening.open_shelves.Goals as goal

pub returns-in-Ok-clause-asks : goal.returns-in-Ok-clause-asks
returns-in-Ok-clause-asks g c =
    let p : PortsTold = g.P.Ports.told c.args.ports.now in
    let q : PortsTold = g.P.Ports.told c.open_books.new.ports in
    let r : PortsTold = g.P.Ports.told c.open_books-in-Ok.new.ports in
    let traces : List Question = map Book (map string_bytes c.args.names.now.traces.items) in
    let books : List Question = map Book (map string_bytes c.args.names.now.books.items) in
    subst (λ (qs : List Question). Asks c.open_books-in-Ok.result qs p r) (sym c.requires.names.questions)
    (asks_then c.open_books-in-Ok.result traces books p q r (rw c.as_slice.ensures.value at c.in-Ok.ensures.asks.asked) c.in-Ok.ensures.asks.no_fault
    (rw c.as_slice-in-Ok.ensures.value at c.open_books-in-Ok.ensures.asks))

pub returns-in-None-clause-traces : goal.returns-in-None-clause-traces
returns-in-None-clause-traces g c =
    let shelves = c.leave_empty.new.shelves in
    empty_new _ _ _ shelves.items (omega (arith, c.leave_empty.ensures.count, c.len.ensures, shelves.ok.0)) c.leave_empty.ensures.empty

pub returns-in-None-clause-books : goal.returns-in-None-clause-books
returns-in-None-clause-books g c =
    let shelves = c.leave_empty-in-None.new.shelves in
    empty_new _ _ _ shelves.items (omega (arith, c.leave_empty-in-None.ensures.count, shelves.ok.0)) c.leave_empty-in-None.ensures.empty

pub returns-in-Ok-clause-fails_last : goal.returns-in-Ok-clause-fails_last
returns-in-Ok-clause-fails_last g c =
    fails_behind g.P.Ports.told c.args.ports.now c.open_books.new.ports c.open_books-in-Ok.new.ports
    c.in-Ok.ensures.asks.no_fault c.open_books-in-Ok.ensures.fails_last
