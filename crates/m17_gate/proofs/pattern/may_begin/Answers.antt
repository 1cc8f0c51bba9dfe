use Rattle.std.proofs.Common.{◌<◌, List, ℕ, length, refl, sym, subst, ◌∙◌}
use Rattle.m17_gate.specs.Patterns.{IsFront}
use Rattle.m17_gate.proofs.PatternLemmas.{front_ascii, callsign_front, unended_front, ended_refused}
use Rattle.m17_gate.proofs.pattern.may_begin.Goals as goal

pub returns-in-None-clause-no : goal.returns-in-None-clause-no
returns-in-None-clause-no c = λ _ front. c.in-None.ensures (front_ascii c.args.front.now front)

pub returns-in-Ok-clause-yes : goal.returns-in-Ok-clause-yes
returns-in-Ok-clause-yes c = λ _. subst IsFront c.in-Some.ensures
    (callsign_front c.in-Some.text.now c.in-Ok.field-0
    ((c.in-Ok.ensures.ok c.in-Ok.field-0).0 refl))

pub returns-in-Err-clause-yes : goal.returns-in-Err-clause-yes
returns-in-Err-clause-yes c = λ e. subst IsFront c.in-Some.ensures
    (unended_front c.in-Some.text.now c.in-Err.refusal
    ((c.in-Err.ensures.err c.in-Err.refusal).0 refl)
    (sym c.wants_a_letter.ensures ∙ e))

pub returns-in-Err-clause-no : goal.returns-in-Err-clause-no
returns-in-Err-clause-no c = λ e front.
    ended_refused c.in-Some.text.now c.in-Err.refusal
    (subst (λ (t : List ℕ). 0 < length t) (sym c.in-Some.ensures) c.requires)
    ((c.in-Err.ensures.err c.in-Err.refusal).0 refl) (sym c.wants_a_letter.ensures ∙ e)
    (subst IsFront (sym c.in-Some.ensures) front)
