use Rattle.std.proofs.Common.{◌≡◌, ◌++◌, Some, sym, ap, ◌∙◌}
use Rattle.std.proofs.lemmas.Result.{IfOk-weaker}
use Rattle.m17_book.specs.Book.{IsTrace, RefusesTrace}
use Rattle.m17_book.specs.Walk.{spot}
use Rattle.m17_book.proofs.Exact.{each_value, each_refusal}
use Rattle.m17_book.proofs.WholeTrace.{is_trace, is_empty, refused_with}
use Rattle.m17_book.proofs.trace.read_trace_for.Goals as goal

pub returns-clause-trace : goal.returns-clause-trace
returns-clause-trace g c =
    is_trace c.add_trace-read.result c.finish.result (λ bytes. (g.S.Input.told c.args.s.now).left ≡ Some bytes) c.add_trace-read.new.heard.items
    (spot c.add_trace-read.new.cursor (g.S.Input.told c.add_trace-read.new.source).left)
    (λ bytes left. c.add_trace-read.ensures.read bytes c.new-cursor.ensures.place (bytes, left, ap (λ xs. xs ++ bytes) (sym c.new-cursor.ensures.held)))
    (λ found. found.items) (λ _. c.finish.new.source ≡ c.add_trace-read.new.source) c.finish.ensures.ok

pub returns-clause-refused : goal.returns-clause-refused
returns-clause-refused g c =
    refused_with c.add_trace-read.result c.finish.result (λ bytes. (g.S.Input.told c.args.s.now).left ≡ Some bytes) c.add_trace-read.new.heard.items
    (spot c.add_trace-read.new.cursor (g.S.Input.told c.add_trace-read.new.source).left)
    (λ bytes left. c.add_trace-read.ensures.read bytes c.new-cursor.ensures.place (bytes, left, ap (λ xs. xs ++ bytes) (sym c.new-cursor.ensures.held)))
    c.finish.ensures.err c.finish.ensures.outside c.finish.ensures.settled

pub returns-clause-each_trace : goal.returns-clause-each_trace
returns-clause-each_trace g c =
    each_value IsTrace RefusesTrace (λ bytes. (g.S.Input.told c.args.s.now).left ≡ Some bytes) (λ found. found.items) c.traces_are_exact.ensures.not_both
    c.traces_are_exact.ensures.one_value c.finish.result (returns-clause-trace g c) (returns-clause-refused g c)

pub returns-clause-each_refusal : goal.returns-clause-each_refusal
returns-clause-each_refusal g c =
    each_refusal IsTrace RefusesTrace (λ bytes. (g.S.Input.told c.args.s.now).left ≡ Some bytes) (λ found. found.items) c.traces_are_exact.ensures.not_both
    c.traces_are_exact.ensures.one_refusal c.finish.result (returns-clause-trace g c) (returns-clause-refused g c)

pub returns-clause-nothing_left : goal.returns-clause-nothing_left
returns-clause-nothing_left g c =
    IfOk-weaker c.finish.result _ _ (λ found h bytes left. let e = h bytes left in ap (λ s. (g.S.Input.told s).left) e.1 ∙ e.0)
    (is_empty c.add_trace-read.result c.finish.result (λ bytes. (g.S.Input.told c.args.s.now).left ≡ Some bytes) c.add_trace-read.new.heard.items
    (spot c.add_trace-read.new.cursor (g.S.Input.told c.add_trace-read.new.source).left)
    (λ bytes left. c.add_trace-read.ensures.read bytes c.new-cursor.ensures.place (bytes, left, ap (λ xs. xs ++ bytes) (sym c.new-cursor.ensures.held)))
    (λ found. found.items) (λ _. c.finish.new.source ≡ c.add_trace-read.new.source) c.finish.ensures.ok)
