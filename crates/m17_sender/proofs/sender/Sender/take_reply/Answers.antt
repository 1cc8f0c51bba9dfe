use Rattle.std.proofs.Common.{refl}
use Rattle.m17_sender.specs.SoFar.{at_rest, with_reply}
use Rattle.m17_sender.proofs.Queued.{goes_on, goes_same}
use Rattle.m17_sender.proofs.Spoken.{pops_reply, said_shape}
use Rattle.m17_sender.proofs.sender.Sender.take_reply.Goals as goal

pub returns-in-Some : goal.returns-in-Some
returns-in-Some g c = record {
  goes_on = λ noted.
      goes_on g.M.Mouth.told
      (at_rest c.args.self.now noted) (with_reply (record c.args.self.now { door = c.try_pop.new.self }) noted c.in-Some.reply)
      (at_rest c.answer.new.self noted)
      (goes_same g.M.Mouth.told
      (at_rest c.args.self.now noted) (with_reply (record c.args.self.now { door = c.try_pop.new.self }) noted c.in-Some.reply)
      (λ j acts h. pops_reply g.M.Mouth.told j c.args.self.now
      (record c.args.self.now { door = c.try_pop.new.self }) acts noted c.in-Some.reply
      (record { name = refl; places = refl; queues = refl; cells = refl }) refl refl c.in-Some.ensures h)
      (said_shape g.M.Mouth.told c.args.self.now
      (record c.args.self.now { door = c.try_pop.new.self })
      (record { name = refl; places = refl; queues = refl; cells = refl }) refl refl)
      refl refl refl)
      (c.answer.ensures.goes_on noted);
}
