use Rattle.std.proofs.Common.{◌++◌, Result, refl, sym, subst, arith}
use Rattle.m17_values.specs.declared.failures.Failed.{Failed}
use Rattle.m17_replay.specs.Run.{text_so_far, Prints}
use Rattle.m17_replay.specs.Lines.{verdict_line}
use Rattle.m17_replay.proofs.Printed.{counted_one, printed_one}
use Rattle.m17_replay.proofs.Writing.{prints_part, prints_then, writes_same}
use Rattle.m17_replay.proofs.printer.Printer.take.Goals as goal

pub returns-then-self-clause-taken : goal.returns-then-self-clause-taken
returns-then-self-clause-taken g c = λ first before was.
    counted_one c.args.self.now _ before _ first _ c.if-self.true refl refl refl was
    (c.count.ensures before (omega (arith, was.count, c.requires.room)) (was.counts c.if-self.true))

pub returns-in-Ok-clause-taken : goal.returns-in-Ok-clause-taken
returns-in-Ok-clause-taken g c = λ first before was.
    let so_far = subst (λ (r : Result (Unit {0}) Failed). Prints r (text_so_far c.args.self.now.summary before) first (g.K.Sink.told c.args.out.now)) c.in-Ok.is was.prints in
    printed_one c.args.self.now _ before _ first _ _ c.if-self.false refl refl was
    (prints_then tt c.write_line-self.result _ _ first _ _ so_far
    (record { cause = c.write_line-self.ensures.cause; writes = writes_same c.write_line-self.result _ _ _ _ c.make_verdict_line.ensures c.write_line-self.ensures.writes }))

pub returns-in-Err-clause-taken : goal.returns-in-Err-clause-taken
returns-in-Err-clause-taken g c = λ first before was.
    let so_far = subst (λ (r : Result (Unit {0}) Failed). Prints r (text_so_far c.args.self.now.summary before) first (g.K.Sink.told c.args.out.now)) c.in-Err.is was.prints in
    printed_one c.args.self.now _ before _ first _ _ c.if-self.false refl refl was
    (subst (λ (r : Result (Unit {0}) Failed). Prints r (text_so_far c.args.self.now.summary before ++ verdict_line c.args.self.now.count c.args.l.now c.args.v.now) first (g.K.Sink.told c.args.out.now)) (sym c.in-Err.is)
    (prints_part c.in-Err.field-0 _ (verdict_line c.args.self.now.count c.args.l.now c.args.v.now) first _ so_far))
