use Rattle.std.proofs.Common.{true, Result, Err, subst}
use Rattle.m17_values.specs.declared.failures.Failed.{Failed}
use Rattle.m17_replay.specs.Run.{text_of_all, text_so_far, Prints}
use Rattle.m17_replay.proofs.Printed.{all_counts, all_lines}
use Rattle.m17_replay.proofs.Writing.{prints_part, prints_same, prints_then}
use Rattle.m17_replay.proofs.printer.Printer.finish.Goals as goal

pub returns-then-not-self : goal.returns-then-not-self
returns-then-not-self g c = λ first outcomes tally was are.
    prints_same c.args.self.now.written _ _ first _ (all_lines c.args.self.now.summary outcomes tally c.args.named.now c.if-not-self.true) was.prints

pub returns-in-Ok : goal.returns-in-Ok
returns-in-Ok g c = λ first outcomes tally was are.
    let so = c.if-not-self.false in
    let so_far = subst (λ (r : Result (Unit {0}) Failed). Prints r (text_so_far c.args.self.now.summary outcomes) first (g.K.Sink.told c.args.out.now)) c.in-Ok.is was.prints in
    prints_same c.print_summary.result _ _ first _ (all_counts c.args.self.now.summary outcomes tally c.args.named.now so)
    (prints_then tt c.print_summary.result _ _ first _ _ so_far
    (record { cause = c.print_summary.ensures.cause; writes = c.print_summary.ensures.writes outcomes tally was.count (was.counts so) are }))

pub returns-in-Err : goal.returns-in-Err
returns-in-Err g c = λ first outcomes tally was are.
    let so_far = subst (λ (r : Result (Unit {0}) Failed). Prints r (text_so_far c.args.self.now.summary outcomes) first (g.K.Sink.told c.args.out.now)) c.in-Err.is was.prints in
    prints_same (Err c.in-Err.failed) _ _ first _ (all_counts c.args.self.now.summary outcomes tally c.args.named.now c.if-not-self.false)
    (prints_part c.in-Err.failed _ (text_of_all true outcomes tally c.args.named.now) first _ so_far)
