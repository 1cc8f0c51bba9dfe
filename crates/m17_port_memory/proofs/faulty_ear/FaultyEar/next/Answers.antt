use Rattle.std.proofs.Common.{◌≡◌, ◌<◌, ◌-◌, ◌^◌, true, false, sym, ◌∙◌, arith}
use Rattle.m17_port_memory.specs.Answers.{is_listed}
use Rattle.m17_port_memory.proofs.AnswersLemmas.{in_step-listed, never_past, answered-listed, answered-passed}
use Rattle.m17_port_memory.proofs.faulty_ear.FaultyEar.next.Goals as goal

pub invariant_of-self-then-contains : goal.invariant_of-self-then-contains
invariant_of-self-then-contains g c =
    let e = c.self.inside in
    let value = rw c.deref.ensures.value at c.contains.ensures.value in
    let listed : is_listed e.fails.items e.calls ≡ true = sym value ∙ c.if-contains.true in (
      in_step-listed e.fails.items e.calls (g.E.Ear.told e.inner).heard listed c.self.invariant.0,
      λ few. c.self.invariant.1 (omega arith),
    )

pub returns-then-contains-clause-answered : goal.returns-then-contains-clause-answered
returns-then-contains-clause-answered g c =
    let e = c.self.inside in
    let few : e.calls < 2 ^ 64 - 1 = omega arith in
    let value = rw c.deref.ensures.value at c.contains.ensures.value in
    let listed : is_listed e.fails.items e.calls ≡ true = sym value ∙ c.if-contains.true in
    rw (← c.self.view_is, c.saturating_add-self-inside-then-contains.ensures)
    (answered-listed g.E.Ear.told _ few listed)

pub returns-clause-answered : goal.returns-clause-answered
returns-clause-answered g c =
    let e = c.self.inside in
    let few : e.calls < 2 ^ 64 - 1 = omega arith in
    let value = rw c.deref.ensures.value at c.contains.ensures.value in
    let unlisted : is_listed e.fails.items e.calls ≡ false = sym value ∙ c.if-contains.false in
    let h = c.hear-heard.ensures in
    let said = h.appended (never_past e.fails.items e.calls (g.E.Ear.told e.inner).heard c.self.invariant.0 few) in
    rw (← c.self.view_is)
    (answered-passed g.E.Ear.told _ c.hear-heard.new.self c.hear-heard.result few unlisted said
    h.counted h.fault h.no_fault h.same_device)
