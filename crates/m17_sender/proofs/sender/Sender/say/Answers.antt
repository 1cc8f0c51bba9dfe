use Rattle.std.proofs.Common.{Some, refl, ap, length, ◌∙◌}
use Rattle.std.proofs.lemmas.List.{length-set}
use Rattle.m17_sender.specs.Sent.{bye_on}
use Rattle.m17_sender.specs.SoFar.{at_rest, with_item}
use Rattle.m17_sender.proofs.Notes.{acts_of_item}
use Rattle.m17_sender.proofs.Queued.{goes_with}
use Rattle.m17_sender.proofs.Spoken.{says_item, said_shape}
use Rattle.m17_sender.proofs.sender.Sender.say.Goals as goal

pub returns : goal.returns
returns g c = record {
  goes_on = λ m q free.
      goes_with g.M.Mouth.told
      (with_item c.args.self.now c.args.kept.now.noted m q (Some c.args.item.now))
      (at_rest (record c.args.self.now { mouths = c.say_kept.new.mouths; notes = c.note.new.notes }) c.note.new.noted)
      (acts_of_item m q c.args.item.now)
      (λ j acts h. says_item g.M.Mouth.told
      c.turns_grow.ensures c.rows_push.ensures c.mouths_say_in_turn.ensures c.spelled_part_by_part.ensures j c.args.self.now
      (record c.args.self.now { mouths = c.say_kept.new.mouths; notes = c.note.new.notes }) acts c.args.kept.now.noted c.note.new.noted
      m q c.args.item.now (record { name = refl; places = refl; queues = refl; cells = refl }) refl c.say_kept.ensures
      c.note.ensures.notes c.note.ensures.noted c.requires.link c.requires.there c.requires.in_turn free h)
      (said_shape g.M.Mouth.told c.args.self.now
      (record c.args.self.now { mouths = c.say_kept.new.mouths; notes = c.note.new.notes })
      (record { name = refl; places = refl; queues = refl; cells = refl })
      (ap (λ l. length l) c.note.ensures.notes ∙ c.rows_push.ensures.count (λ i. bye_on i c.args.item.now) 0 c.args.self.now.notes.items)
      (ap (λ l. length l) c.say_kept.ensures.is ∙ length-set c.args.self.now.mouths.items c.args.item.now.link c.say_kept.ensures.now))
      refl refl refl;
}
