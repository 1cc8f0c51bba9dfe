use Rattle.std.proofs.Common.{sym, ap, ◌∙◌}
use Rattle.m17_values.specs.declared.member.Member.{Member}
use Rattle.m17_lane.specs.Ends.{PopEnd}
use Rattle.m17_receiver.specs.ReceiverDid.{outlets_of}
use Rattle.m17_receiver.specs.SoFar.{Parts, IsSoFar, parts_of, posting}
use Rattle.m17_receiver.proofs.Entered.{so_far_noted, asks_now, through_unasked}
use Rattle.m17_receiver.proofs.receiver.Receiver.enter.Goals as goal

pub returns-in-Asks-clause-through : goal.returns-in-Asks-clause-through
returns-in-Asks-clause-through g c = λ plan entries notice is_plan index says was.
    let old = c.args.self.now in
    let p₀ : Parts = parts_of old c.args.noted.now in
    let first = c.pop_notes.ensures in
    let p₁ : Parts = record {
      directory = c.pop_notes.new.directory;
      out = outlets_of old;
      notes = c.pop_notes.new.notes.popped;
      noted = c.pop_notes.new.noted;
      seat = old.seat;
    } in
    let was₁ : IsSoFar plan entries p₁ =
    so_far_noted plan entries p₀ c.pop_notes.new.directory c.pop_notes.new.notes.popped first.0 c.pop_notes.new.noted was
    (ap (λ (q : PopEnd Member). q.popped) first.1) first.2 in
    let asking = asks_now c.known_laws.ensures plan entries notice p₁ c.hear-verdict.new.self c.hear-verdict.result c.hear-verdict.new.post
    (record { inboxes = c.push_posts.new.inboxes.items; door = c.push_posts.new.door })
    was₁ (c.hear-verdict.ensures.heard notice says entries was₁.stands index) c.hear-verdict.ensures.setup c.hear-verdict.ensures.ended c.in-Asks.is
    (c.push_posts.ensures.pushed ∙ ap (λ m. posting m c.hear-verdict.new.post (outlets_of old)) (sym is_plan.modules)) in
    c.answer.ensures.through plan entries notice (record { patient = is_plan.patient; places = is_plan.places; modules = is_plan.modules }) index asking

pub returns-in_default-clause-through : goal.returns-in_default-clause-through
returns-in_default-clause-through g c = λ plan entries notice is_plan index says was.
    let old = c.args.self.now in
    let p₀ : Parts = parts_of old c.args.noted.now in
    let first = c.pop_notes.ensures in
    let p₁ : Parts = record {
      directory = c.pop_notes.new.directory;
      out = outlets_of old;
      notes = c.pop_notes.new.notes.popped;
      noted = c.pop_notes.new.noted;
      seat = old.seat;
    } in
    let was₁ : IsSoFar plan entries p₁ =
    so_far_noted plan entries p₀ c.pop_notes.new.directory c.pop_notes.new.notes.popped first.0 c.pop_notes.new.noted was
    (ap (λ (q : PopEnd Member). q.popped) first.1) first.2 in
    through_unasked c.known_laws.ensures plan entries notice p₁ c.hear-verdict.new.self c.hear-verdict.result c.hear-verdict.new.post
    (record { inboxes = c.push_posts.new.inboxes.items; door = c.push_posts.new.door })
    was₁ (c.hear-verdict.ensures.heard notice says entries was₁.stands index) c.hear-verdict.ensures.setup c.hear-verdict.ensures.ended c.in_default.not-Asks
    (c.push_posts.ensures.pushed ∙ ap (λ m. posting m c.hear-verdict.new.post (outlets_of old)) (sym is_plan.modules))
