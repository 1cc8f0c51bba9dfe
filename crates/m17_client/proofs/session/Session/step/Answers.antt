use Rattle.std.proofs.Common.{refl}
use Rattle.m17_client.specs.Steps.{ClientStep}
use Rattle.m17_client.specs.TalkDevices.{records_of, says_of}
use Rattle.m17_client.proofs.OneStep.{after_step}
use Rattle.m17_client.proofs.OneTurn.{at_more}
use Rattle.m17_client.proofs.session.Session.step.Goals as goal

pub returns : goal.returns
returns g c = λ origin steps to_is h.
    let step : ClientStep = record {
      input = c.args.input.now;
      actions = c.step.new.out.items;
      after = c.step.new.self.client;
    } in (
      step,
      refl,
      at_more origin steps step c.args.self.now
          (record { progress = c.step.new.self; log = c.carry_out.new.self })
          (g.M.Mouth.told c.args.mouth.now)
          (g.M.Mouth.told c.carry_out.new.mouth)
          (g.B.Book.told c.args.book.now)
          (g.B.Book.told c.carry_out.new.book)
          h c.step.ensures.step
          (after_step origin.plan.client steps step c.args.self.now.progress c.step.new.self h.after c.requires refl
          c.step.ensures.connected c.step.ensures.sent c.step.ensures.sent_at)
          (rw to_is (rw c.as_slice.ensures.value at (c.carry_out.ensures.said origin.mouth (says_of steps) (rw to_is at h.said))))
          (rw (c.moment-moment.ensures, c.as_slice.ensures.value) at
          (c.carry_out.ensures.logged origin.book (records_of steps) h.logged)),
    )
