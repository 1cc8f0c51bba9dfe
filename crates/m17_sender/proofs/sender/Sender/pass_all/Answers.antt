use Rattle.std.proofs.Common.{sym, ◌∙◌, arith}
use Rattle.m17_sender.specs.SoFar.{at_rest}
use Rattle.m17_sender.proofs.Queued.{goes_on}
use Rattle.m17_sender.proofs.Rests.{all_rest, rows_rest}
use Rattle.m17_sender.proofs.sender.Sender.pass_all.Goals.{then-pass_row, else-pass_row}
use Rattle.m17_sender.proofs.sender.Sender.pass_all.Goals as goal

pub loop-row-preserved : goal.loop-row-preserved
loop-row-preserved g c = record {
  shaped = c.pass_row.ensures.goes_on.grows.shaped c.loop-row.invariant.shaped;
  goes_on = goes_on g.M.Mouth.told
      (at_rest c.args.self.now c.args.kept.now.noted) (at_rest c.loop-row.self c.loop-row.kept.noted)
      (at_rest c.pass_row.new.self c.pass_row.new.kept.noted) c.loop-row.invariant.goes_on c.pass_row.ensures.goes_on;
  vain = λ e. elim c.if-pass_row.branch [
    | then-pass_row w ↦ absurd (let is = w.did-is in let bad : ⊥ = cc in bad)
    | else-pass_row w ↦
        let old = c.pass_row.ensures.vain w.if-pass_row.false in
        let same = c.loop-row.invariant.goes_on.grows.same_places in
        rows_rest c.loop-row.self c.pass_row.new.self c.loop-row.kept.noted c.pass_row.new.kept.noted c.loop-row.row
        c.args.self.now.places (c.loop-row.invariant.vain (sym w.did-is ∙ e))
        (old.0, λ q lt. old.1 q (omega (arith, same, lt)))
  ];
}

pub returns-clause-vain : goal.returns-clause-vain
returns-clause-vain g c = λ e.
    let modules = c.loop-row.invariant.goes_on.grows.same_modules in
    let places = c.loop-row.invariant.goes_on.grows.same_places in
    all_rest c.loop-row.self c.loop-row.kept.noted c.loop-row.row c.args.self.now.places c.loop-row.invariant.shaped
    (omega (arith, modules, c.loop-row-test.false, c.loop-row.auto.row-end, c.len-row-end.ensures, c.args.self.now.queues.ok.0))
    (omega (arith, places)) (c.loop-row.invariant.vain e)
