use Rattle.std.proofs.Common.{ℕ, [], ◌∷◌, ◌++◌, map, sym, ap, ◌∙◌, subst}
use Rattle.std.proofs.lemmas.List.{append-nil, append_assoc}
use Rattle.m17_stream.specs.declared.packet.StreamPacket.{StreamPacket}
use Rattle.m17_client.specs.declared.state.Input.TheVariants.{Send}
use Rattle.m17_client.specs.Talk.{due_records}
use Rattle.m17_client.specs.TalkSoFar.{IsAt, due_now}
use Rattle.m17_client.proofs.Due.{due_is}
use Rattle.m17_client.proofs.OneTurn.{sent_more}
use Rattle.m17_client.proofs.session.Session.send_due.Goals as goal

pub due-init : goal.due-init
due-init g c = λ origin steps to_is script_is h. (
  [],
  sym (ap (map (λ (due : ℕ × StreamPacket). Send due.1))
      (due_is origin.plan steps c.args.self.now.progress h.after ∙ ap (due_now c.args.self.now.progress) script_is)),
  subst (λ l. IsAt origin l c.args.self.now (g.M.Mouth.told c.args.mouth.now) (g.B.Book.told c.args.book.now))
      (sym (append-nil steps)) h,
)

pub due-preserved : goal.due-preserved
due-preserved g c = λ origin steps to_is script_is h.
    let old = c.due.invariant origin steps to_is script_is h in
    let one = c.send.ensures.stepped origin (steps ++ old.0) to_is old.2 in
    let due = c.in-Some.ensures.due in (
      old.0 ++ one.0 ∷ [],
      sent_more old.0 one.0 due.0 c.in-Some.packet (due_now c.due.self.progress c.args.script.now)
          (due_now c.send.new.self.progress c.args.script.now) due.1
          (map (λ (due : ℕ × StreamPacket). Send due.1) (due_records origin.plan steps))
          one.1 due.2 (c.send.ensures.due c.args.script.now) old.1,
      subst (λ l. IsAt origin l c.send.new.self (g.M.Mouth.told c.send.new.mouth) (g.B.Book.told c.send.new.book))
          (append_assoc steps old.0 (one.0 ∷ [])) one.2,
    )
