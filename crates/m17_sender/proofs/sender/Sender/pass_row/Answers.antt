use Rattle.std.proofs.Common.{sym, ◌∙◌}
use Rattle.m17_sender.specs.SoFar.{at_rest}
use Rattle.m17_sender.proofs.Queued.{goes_on}
use Rattle.m17_sender.proofs.Rests.{in_vain, row_rests}
use Rattle.m17_sender.proofs.sender.Sender.pass_row.Goals.{then-did, else-did}
use Rattle.m17_sender.proofs.sender.Sender.pass_row.Goals as goal

pub loop-at-preserved : goal.loop-at-preserved
loop-at-preserved g c = record {
  shaped = c.try_queue.ensures.goes_on.grows.shaped c.loop-at.invariant.shaped;
  goes_on = goes_on g.M.Mouth.told
      (at_rest c.args.self.now c.args.kept.now.noted) (at_rest c.loop-at.self c.loop-at.kept.noted)
      (at_rest c.try_queue.new.self c.try_queue.new.kept.noted) c.loop-at.invariant.goes_on c.try_queue.ensures.goes_on;
  vain = λ e. elim c.if-did.branch [
    | then-did w ↦ absurd (let is = w.did-is in let bad : ⊥ = cc in bad)
    | else-did w ↦ row_rests c.args.self.now c.loop-at.self c.try_queue.new.self c.args.kept.now.noted c.loop-at.kept.noted
        c.try_queue.new.kept.noted c.args.row c.loop-at.at (c.loop-at.invariant.vain (sym w.did-is ∙ e))
        (in_vain c.try_queue.result _ (sym c.did.ensures ∙ w.if-did.false) c.try_queue.ensures.vain)
  ];
}
