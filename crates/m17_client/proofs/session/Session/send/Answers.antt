use Rattle.std.proofs.Common.{refl}
use Rattle.m17_client.specs.declared.state.Input.TheVariants.{Send}
use Rattle.m17_client.specs.Steps.{ClientStep}
use Rattle.m17_client.specs.TalkDevices.{records_of, says_of}
use Rattle.m17_client.proofs.Due.{due_less}
use Rattle.m17_client.proofs.OneStep.{after_send, send_stays}
use Rattle.m17_client.proofs.OneTurn.{at_more}
use Rattle.m17_client.proofs.session.Session.send.Goals as goal

pub returns-clause-stepped : goal.returns-clause-stepped
returns-clause-stepped g c = λ origin steps to_is h.
    let step : ClientStep = record {
      input = Send c.args.packet;
      actions = c.send.new.out.items;
      after = c.send.new.self.client;
    } in
    let same = send_stays c.args.self.now.progress.client c.args.packet c.send.new.out.items c.send.new.self.client
    c.send.ensures.step in (
      step,
      refl,
      at_more origin steps step c.args.self.now
          (record { progress = c.send.new.self; log = c.carry_out.new.self })
          (g.M.Mouth.told c.args.mouth.now)
          (g.M.Mouth.told c.carry_out.new.mouth)
          (g.B.Book.told c.args.book.now)
          (g.B.Book.told c.carry_out.new.book)
          h c.send.ensures.step
          (after_send origin.plan.client steps step c.args.self.now.progress c.send.new.self h.after refl refl same
          c.requires.connected c.send.ensures.connected c.send.ensures.sent c.send.ensures.sent_at)
          (rw to_is (rw c.as_slice.ensures.value at (c.carry_out.ensures.said origin.mouth (says_of steps) (rw to_is at h.said))))
          (rw (c.moment-moment.ensures, c.as_slice.ensures.value) at
          (c.carry_out.ensures.logged origin.book (records_of steps) h.logged)),
    )

pub returns-clause-due : goal.returns-clause-due
returns-clause-due g c = λ script. due_less c.args.self.now.progress c.send.new.self script
    (send_stays c.args.self.now.progress.client c.args.packet c.send.new.out.items c.send.new.self.client
    c.send.ensures.step) c.send.ensures.connected c.send.ensures.sent c.requires.connected
