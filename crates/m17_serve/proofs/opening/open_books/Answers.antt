use Rattle.std.proofs.Common.{ℕ, List, [], ◌∷◌, map, string_bytes, sym, ap, subst, ◌∙◌, arith, inl, inr}
use Rattle.std.proofs.lemmas.List.{take_all}
use Rattle.m17_ports.specs.Book.{IsNewBook}
use Rattle.m17_ports.specs.Ports.{HasAsked, PortsTold}
use Rattle.m17_ports.specs.declared.question.Question.{Question}
use Rattle.m17_ports.specs.declared.question.Question.TheVariants.{Book}
use Rattle.m17_client_commands.specs.Devices.{FailsAmong}
use Rattle.m17_serve.specs.Devices.{told_of_shelf}
use Rattle.m17_serve.proofs.Asking.{asked_more, at_call, fails_at}
use Rattle.m17_serve.proofs.Lists.{map_twice}
use Rattle.m17_serve.proofs.NewOnes.{new_pushed, on_shelf, there_pushed}
use Rattle.m17_serve.proofs.opening.open_books.Goals as goal

pub returns-in-Err-clause-asks : goal.returns-in-Err-clause-asks
returns-in-Err-clause-asks g c =
    let p : PortsTold = g.P.Ports.told c.args.ports.now in
    let q : PortsTold = g.P.Ports.told c.loop-name.ports in
    let r : PortsTold = g.P.Ports.told c.book.new.self in
    let x : List ℕ = string_bytes c.name-item.result in
    let next : HasAsked (Book x ∷ []) q r = rw c.as_str.ensures.value at c.book.ensures.asked in
    record {
      asked = tt;
      no_fault = tt;
      failed = subst (λ (qs : List Question). FailsAmong qs p r) (sym (map_twice Book string_bytes c.args.names.now))
          (fails_at (λ name. Book (string_bytes name)) c.args.names.now c.loop-name.name-index c.name-item.result p q r c.loop-name-test.true c.name-item.is
          c.loop-name.invariant.asked c.loop-name.invariant.same next c.in-Err.ensures.cause.failed);
    }

pub loop-name-preserved : goal.loop-name-preserved
loop-name-preserved g c =
    let p : PortsTold = g.P.Ports.told c.args.ports.now in
    let q : PortsTold = g.P.Ports.told c.loop-name.ports in
    let r : PortsTold = g.P.Ports.told c.book.new.self in
    let x : List ℕ = string_bytes c.name-item.result in
    let next : HasAsked (Book x ∷ []) q r = rw c.as_str.ensures.value at c.book.ensures.asked in
    let at = at_call (λ name. Book (string_bytes name)) c.args.names.now c.loop-name.name-index p q (omega arith) c.loop-name.invariant.asked in
    record {
      asked = asked_more (λ name. Book (string_bytes name)) c.args.names.now c.loop-name.name-index c.name-item.result p q r c.loop-name-test.true c.name-item.is
          c.loop-name.invariant.asked next;
      same = c.in-Ok.ensures.cause.no_fault ∙ c.loop-name.invariant.same;
      new = new_pushed (told_of_shelf g.P.Book.Book.told) IsNewBook _ _ _ _ _ c.push_reserved.ensures.items c.loop-name.invariant.new
          (on_shelf g.P.Book.Book.told c.in-Ok.book _ (subst (λ (call : ℕ). IsNewBook call (g.P.Book.Book.told c.in-Ok.book)) at c.in-Ok.ensures.book));
      there = there_pushed c.loop-name.shelves.items c.push_reserved.new.self.items c.in-Ok.book c.push_reserved.ensures.items c.loop-name.invariant.there;
      room = omega (arith, c.loop-name.invariant.room, c.push_reserved.ensures.capacity);
    }

pub returns-clause-asks : goal.returns-clause-asks
returns-clause-asks g c =
    let names = c.args.names.now in
    let all = ap (map (λ name. Book (string_bytes name))) (take_all c.loop-name.name-index names c.loop-name-test.false) ∙ sym (map_twice Book string_bytes names) in
    record {
      asked = rw all at c.loop-name.invariant.asked;
      no_fault = c.loop-name.invariant.same;
      failed = tt;
    }

pub returns-in-Err-clause-fails_last : goal.returns-in-Err-clause-fails_last
returns-in-Err-clause-fails_last g c =
    inr (c.loop-name.ports, Book c.as_str.result.now, c.loop-name.invariant.same, c.book.ensures.asked)

pub returns-clause-fails_last : goal.returns-clause-fails_last
returns-clause-fails_last g c = inl c.loop-name.invariant.same
