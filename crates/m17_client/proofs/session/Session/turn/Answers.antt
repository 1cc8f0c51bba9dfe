use Rattle.std.proofs.Common.{[], ◌∷◌, ◌++◌, length, refl, sym, ap, subst, inl, inr}
use Rattle.std.proofs.lemmas.List.{append-nil, append_assoc}
use Rattle.m17_client.specs.Talk.{IsHeardAs}
use Rattle.m17_client.specs.TalkSoFar.{IsAt}
use Rattle.m17_client.proofs.OneTurn.{time_to_leave}
use Rattle.m17_client.proofs.session.Session.turn.Goals as goal

pub returns-then-is_time_to_leave : goal.returns-then-is_time_to_leave
returns-then-is_time_to_leave g c = λ origin steps entry plan_is heard h.
    let on_entry = c.step.ensures origin steps plan_is.to_peer h in
    let on_due = c.send_due.ensures origin (steps ++ on_entry.0 ∷ []) plan_is.to_peer plan_is.of_script on_entry.2 in
    let so_far = subst (λ l. IsAt origin l c.send_due.new.self
    (g.M.Mouth.told c.send_due.new.mouth)
    (g.B.Book.told c.send_due.new.book))
    (append_assoc steps (on_entry.0 ∷ []) on_due.0) on_due.2 in
    let on_leave = c.step-then-is_time_to_leave.ensures origin (steps ++ on_entry.0 ∷ on_due.0)
    plan_is.to_peer so_far in
    let time = time_to_leave origin.plan (steps ++ on_entry.0 ∷ on_due.0) c.send_due.new.self.progress
    (length c.args.script.now) c.args.stay so_far.after (sym (ap length plan_is.of_script)) plan_is.for_stay in (
      (on_entry.0 ∷ on_due.0) ++ on_leave.0 ∷ [],
      record {
        first = on_entry.0;
        sends = on_due.0;
        leave = on_leave.0 ∷ [];
        in_order = refl;
        on_entry = subst (λ i. IsHeardAs origin.plan.to entry i) (sym on_entry.1)
            (subst (λ p. IsHeardAs p entry c.args.input.now) (sym plan_is.to_peer) heard);
        on_due = on_due.1;
        on_leave = inl (time.0 (c.is_time_to_leave.ensures.0 c.if-is_time_to_leave.true), ap (λ i. i ∷ []) on_leave.1);
      },
      subst (λ l. IsAt origin l c.step-then-is_time_to_leave.new.self
          (g.M.Mouth.told c.step-then-is_time_to_leave.new.mouth)
          (g.B.Book.told c.step-then-is_time_to_leave.new.book))
          (append_assoc steps (on_entry.0 ∷ on_due.0) (on_leave.0 ∷ [])) on_leave.2,
    )

pub returns-else-is_time_to_leave : goal.returns-else-is_time_to_leave
returns-else-is_time_to_leave g c = λ origin steps entry plan_is heard h.
    let on_entry = c.step.ensures origin steps plan_is.to_peer h in
    let on_due = c.send_due.ensures origin (steps ++ on_entry.0 ∷ []) plan_is.to_peer plan_is.of_script on_entry.2 in
    let so_far = subst (λ l. IsAt origin l c.send_due.new.self
    (g.M.Mouth.told c.send_due.new.mouth)
    (g.B.Book.told c.send_due.new.book))
    (append_assoc steps (on_entry.0 ∷ []) on_due.0) on_due.2 in
    let time = time_to_leave origin.plan (steps ++ on_entry.0 ∷ on_due.0) c.send_due.new.self.progress
    (length c.args.script.now) c.args.stay so_far.after (sym (ap length plan_is.of_script)) plan_is.for_stay in (
      on_entry.0 ∷ on_due.0,
      record {
        first = on_entry.0;
        sends = on_due.0;
        leave = [];
        in_order = sym (append-nil (on_entry.0 ∷ on_due.0));
        on_entry = subst (λ i. IsHeardAs origin.plan.to entry i) (sym on_entry.1)
            (subst (λ p. IsHeardAs p entry c.args.input.now) (sym plan_is.to_peer) heard);
        on_due = on_due.1;
        on_leave = inr (
          λ leaves. let now = c.is_time_to_leave.ensures.1 (time.1 leaves) in
              let not_now = c.if-is_time_to_leave.false in absurd (cc),
          refl,
        );
      },
      so_far,
    )
