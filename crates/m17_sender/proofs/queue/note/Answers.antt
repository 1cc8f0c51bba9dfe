use Rattle.std.proofs.Common.{◌≡◌, length, sym, ap, arith}
use Rattle.m17_sender.specs.Sent.{bye_on}
use Rattle.m17_sender.proofs.Notes.{no_bye_on}
use Rattle.m17_sender.proofs.queue.note.Goals as goal

pub returns-in_default : goal.returns-in_default
returns-in_default g c = record {
  notes = sym (c.rows_push.ensures.none (λ i. bye_on i c.args.item.now) 0 c.args.notes.now.items
      (no_bye_on c.args.item.now c.in_default.not-Bye));
  noted = λ i lt fits.
      let none : length (bye_on i c.args.item.now) ≡ 0 = ap length (no_bye_on c.args.item.now c.in_default.not-Bye i) in
      omega (arith, none, fits);
}
