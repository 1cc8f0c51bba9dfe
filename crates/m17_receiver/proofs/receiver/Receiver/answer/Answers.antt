use Rattle.std.proofs.Common.{◌≡◌, ◌↔◌, ℕ, true, List, length, None, IsSome, sym, ap, subst, ◌∙◌}
use Rattle.m17_values.specs.declared.member.Member.{Member}
use Rattle.m17_lane.specs.Ends.{PopEnd}
use Rattle.m17_directory.specs.declared.known.Known.{Known}
use Rattle.m17_directory.specs.StandsFor.{DirectoryKept}
use Rattle.m17_receiver.specs.ReceiverDid.{outlets_of}
use Rattle.m17_receiver.specs.SoFar.{Parts, HasTaken, IsAsking, parts_of, posting}
use Rattle.m17_receiver.proofs.Entered.{asking_noted}
use Rattle.m17_receiver.proofs.Settled.{through_asked}
use Rattle.m17_receiver.proofs.receiver.Receiver.answer.Goals as goal

pub returns-clause-through : goal.returns-clause-through
returns-clause-through g c = λ plan entries notice is_plan index asking.
    let old = c.args.self.now in
    let p₀ : Parts = parts_of old c.args.noted.now in
    let first = c.pop_until_ready.ensures.noted in
    let p₁ : Parts = record {
      directory = c.pop_until_ready.new.directory;
      out = outlets_of old;
      notes = c.pop_until_ready.new.notes.popped;
      noted = c.pop_until_ready.new.noted;
      seat = old.seat;
    } in
    let asking₁ : IsAsking plan entries notice p₁ =
    asking_noted plan entries notice p₀ c.pop_until_ready.new.directory c.pop_until_ready.new.notes.popped first.0 c.pop_until_ready.new.noted asking
    (ap (λ (q : PopEnd Member). q.popped) first.1) first.2 in
    let second = c.claim-claimed.ensures.noted in
    let p₂ : Parts = record {
      directory = c.claim-claimed.new.self.directory;
      out = outlets_of old;
      notes = c.claim-claimed.new.self.notes.popped;
      noted = c.claim-claimed.new.noted;
      seat = old.seat;
    } in
    let asking₂ : IsAsking plan entries notice p₂ =
    asking_noted plan entries notice p₁ c.claim-claimed.new.self.directory c.claim-claimed.new.self.notes.popped second.0 c.claim-claimed.new.noted asking₁
    (ap (λ (q : PopEnd Member). q.popped) second.1) second.2 in
    let same_known : c.claim-claimed.new.self.directory.known ≡ c.pop_until_ready.new.directory.known = ap (λ (k : DirectoryKept). k.known) second.2.same in
    let known : length c.claim-claimed.new.self.directory.known ≡ length c.pop_until_ready.new.directory.known = ap length same_known in
    let asked : c.args.self.now.directory.asked ≡ c.claim-claimed.new.self.directory.asked =
    sym (ap (λ (k : DirectoryKept). k.asked) second.2.same ∙ ap (λ (k : DirectoryKept). k.asked) first.2.same) in
    let taken : HasTaken plan.patient (length entries) c.claim-claimed.result c.claim-claimed.new.self.directory.known old.seat c.claim-claimed.new.self.seat =
    subst (λ (n : ℕ). HasTaken plan.patient n c.claim-claimed.result c.claim-claimed.new.self.directory.known old.seat c.claim-claimed.new.self.seat) index
    (subst (λ b. HasTaken b c.args.index c.claim-claimed.result c.claim-claimed.new.self.directory.known old.seat c.claim-claimed.new.self.seat) (sym is_plan.patient)
    (subst (λ (ks : List Known). HasTaken old.patient c.args.index c.claim-claimed.result ks old.seat c.claim-claimed.new.self.seat) (sym same_known) c.claim-claimed.ensures.taken)) in
    let full : plan.patient ≡ true → (c.claim-claimed.result ≡ None) ↔ (length c.claim-claimed.new.self.directory.known ≡ plan.setup.places) =
    λ patient. let iff = c.claim-claimed.ensures.full (sym is_plan.patient ∙ patient) in
    (λ none. known ∙ iff.0 none ∙ sym is_plan.places, λ all. iff.1 (sym known ∙ all ∙ is_plan.places)) in
    let modules : c.claim-claimed.new.self.modules ≡ plan.setup.modules = ap (λ r. r.modules) c.claim-claimed.ensures.rest ∙ sym is_plan.modules in
    let outlets : outlets_of c.claim-claimed.new.self ≡ outlets_of old = ap outlets_of c.claim-claimed.ensures.rest in
    through_asked c.known_laws.ensures plan entries notice p₂ c.settle-verdict.new.self c.claim-claimed.new.self.seat c.claim-claimed.result
    c.settle-verdict.result c.settle-verdict.new.post (record { inboxes = c.push_posts.new.inboxes.items; door = c.push_posts.new.door })
    asking₂ (subst IsSome asked c.requires.asked) (second.2.waits c.pop_until_ready.ensures.ready)
    (c.settle-verdict.ensures.settled entries notice asking₂.stands) c.settle-verdict.ensures.setup c.settle-verdict.ensures.ended
    taken full
    (c.push_posts.ensures.pushed ∙ ap (λ m. posting m c.settle-verdict.new.post (outlets_of c.claim-claimed.new.self)) modules ∙ ap (posting plan.setup.modules c.settle-verdict.new.post) outlets)
