use Rattle.std.proofs.Common.{◌≡◌, ◌↔◌, ◌+◌, cond, sym, ap, ◌∙◌, subst, IsTrue, []}
use Rattle.std.proofs.lemmas.List.{append-nil}
use Rattle.m17_values.specs.declared.heard.Heard.TheVariants.{End}
use Rattle.m17_client.specs.declared.run.Run.{Run}
use Rattle.m17_client.specs.Talk.{steps_of}
use Rattle.m17_client.specs.TalkSoFar.{IsAt}
use Rattle.m17_client.proofs.Turns.{no_turn, so_far_more, turn_on}
use Rattle.m17_client.proofs.run.Run.take.Goals as goal

pub returns-in-Some : goal.returns-in-Some
returns-in-Some g c = λ origin turns plan_is h.
    let heard = c.in-Some.ensures.input.0 in
    let session = ap (λ (r : Run). r.session) c.count_fault.ensures in
    let taken = c.turn.ensures origin (steps_of turns) c.args.entry plan_is heard
    (subst (λ s. IsAt origin (steps_of turns) s
    (g.M.Mouth.told c.args.mouth.now)
    (g.B.Book.told c.args.book.now)) (sym session) h.at) in (
      taken.0,
      so_far_more origin turns (record { heard = c.args.entry; steps = taken.0 }) c.args.self.now
          (record { session = c.turn.new.self; faults = c.count_fault.new.self.faults; ended = c.count_fault.new.self.ended })
          (g.M.Mouth.told c.args.mouth.now)
          (g.M.Mouth.told c.turn.new.mouth)
          (g.B.Book.told c.args.book.now)
          (g.B.Book.told c.turn.new.book)
          h taken.2
          (turn_on origin.plan c.args.to.now (steps_of turns) c.args.entry c.in-Some.input taken.0 heard taken.1)
          (ap (λ (r : Run). r.faults) c.count_fault.ensures
          ∙ ap (λ b. cond b (c.args.self.now.faults + 1) 0) c.is_fault.ensures)
          (subst (λ b. IsTrue b ↔ (c.args.entry ≡ End)) (sym (ap (λ (r : Run). r.ended) c.count_fault.ensures))
          c.is_end-self.ensures),
    )

pub returns-in_default : goal.returns-in_default
returns-in_default g c = λ origin turns plan_is h. (
  [],
  so_far_more origin turns (record { heard = c.args.entry; steps = [] }) c.args.self.now c.count_fault.new.self
      (g.M.Mouth.told c.args.mouth.now)
      (g.M.Mouth.told c.args.mouth.now)
      (g.B.Book.told c.args.book.now)
      (g.B.Book.told c.args.book.now)
      h
      (subst (λ l. IsAt origin l c.count_fault.new.self.session
      (g.M.Mouth.told c.args.mouth.now)
      (g.B.Book.told c.args.book.now)) (sym (append-nil (steps_of turns)))
      (subst (λ s. IsAt origin (steps_of turns) s
      (g.M.Mouth.told c.args.mouth.now)
      (g.B.Book.told c.args.book.now))
      (sym (ap (λ (r : Run). r.session) c.count_fault.ensures)) h.at))
      (no_turn origin.plan (steps_of turns) c.args.entry c.in_default.ensures.input)
      (ap (λ (r : Run). r.faults) c.count_fault.ensures
      ∙ ap (λ b. cond b (c.args.self.now.faults + 1) 0) c.is_fault.ensures)
      (subst (λ b. IsTrue b ↔ (c.args.entry ≡ End)) (sym (ap (λ (r : Run). r.ended) c.count_fault.ensures))
      c.is_end-self.ensures),
)
