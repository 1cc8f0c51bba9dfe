-- One letter more is counted where it is served.
use Rattle.std.proofs.Common.{◌≡◌, ◌+◌, cond, arith, ap, sym, ◌∙◌}
use Rattle.m17_control.proofs.ModuleSets.{counted_more}
use Rattle.m17_control.proofs.modules.Modules.count.Goals as goal
use Rattle.m17_control.proofs.modules.Modules.count.Goals.{then-has, else-has}

pub loop-letter-preserved : goal.loop-letter-preserved
loop-letter-preserved c = elim c.if-has.branch [
  | then-has w ↦
      (let test = sym c.has.ensures ∙ w.if-has.true in
      record {
        counted = counted_more c.args.self.now c.loop-letter.letter c.loop-letter.count c.if-has.count c.loop-letter.auto.letter c.loop-letter-test.true c.loop-letter.invariant.counted
            (w.count-is ∙ ap (λ b. c.loop-letter.count + cond b 1 0) (sym test));
        few = omega arith;
      })
  | else-has w ↦
      (let test = sym c.has.ensures ∙ w.if-has.false in
      record {
        counted = counted_more c.args.self.now c.loop-letter.letter c.loop-letter.count c.if-has.count c.loop-letter.auto.letter c.loop-letter-test.true c.loop-letter.invariant.counted
            (w.count-is ∙ (let zero : c.loop-letter.count ≡ c.loop-letter.count + 0 = omega arith in zero) ∙ ap (λ b. c.loop-letter.count + cond b 1 0) (sym test));
        few = omega arith;
      })
]
