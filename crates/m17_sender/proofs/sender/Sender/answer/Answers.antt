use Rattle.std.proofs.Common.{◌∷◌, [], refl, ap, length, ◌∙◌, arith}
use Rattle.std.proofs.lemmas.List.{length-set}
use Rattle.std.proofs.lemmas.Bool.{lt-ltb, le-ltb}
use Rattle.m17_sender.specs.Acts.{Act}
use Rattle.m17_sender.specs.SoFar.{at_rest, with_reply}
use Rattle.m17_sender.proofs.Queued.{goes_same, goes_with}
use Rattle.m17_sender.proofs.Spoken.{passes_reply, said_shape, says_reply}
use Rattle.m17_sender.proofs.sender.Sender.answer.Goals as goal

pub returns-then-reply-len : goal.returns-then-reply-len
returns-then-reply-len g c = record {
  goes_on = λ noted.
      goes_with g.M.Mouth.told
      (with_reply c.args.self.now noted c.args.reply.now)
      (at_rest (record c.args.self.now { mouths = c.say_reply.new.mouths }) noted) (Act.Answers c.args.reply.now ∷ [])
      (λ j acts h. says_reply g.M.Mouth.told
      c.turns_grow.ensures c.rows_push.ensures c.mouths_say_in_turn.ensures c.spelled_part_by_part.ensures j c.args.self.now
      (record c.args.self.now { mouths = c.say_reply.new.mouths }) acts noted c.args.reply.now
      (record { name = refl; places = refl; queues = refl; cells = refl }) refl refl c.say_reply.ensures
      (lt-ltb c.args.reply.now.link (length c.args.self.now.mouths.items)
      (omega (arith, c.if-reply-len.true, c.len.ensures, c.args.self.now.mouths.ok.0))) h)
      (said_shape g.M.Mouth.told c.args.self.now
      (record c.args.self.now { mouths = c.say_reply.new.mouths })
      (record { name = refl; places = refl; queues = refl; cells = refl }) refl
      (ap (λ l. length l) c.say_reply.ensures.is
      ∙ length-set c.args.self.now.mouths.items c.args.reply.now.link c.say_reply.ensures.now))
      refl refl refl;
}

pub returns-else-reply-len : goal.returns-else-reply-len
returns-else-reply-len g c = record {
  goes_on = λ noted.
      goes_same g.M.Mouth.told
      (with_reply c.args.self.now noted c.args.reply.now) (at_rest c.args.self.now noted)
      (λ j acts h. passes_reply g.M.Mouth.told j c.args.self.now acts noted c.args.reply.now
      (le-ltb c.args.reply.now.link (length c.args.self.now.mouths.items)
      (omega (arith, c.if-reply-len.false, c.len.ensures, c.args.self.now.mouths.ok.0))) h)
      (λ h. h) refl refl refl;
}
