use Rattle.std.proofs.Common.{List, ℕ, Option, sym, subst, ◌∙◌}
use Rattle.m17_callsign.specs.Callsign.{IsCallsignOf}
use Rattle.m17_words.specs.Values.{IsLimit, IsNumber, NamesModules, NamesParrots}
use Rattle.m17_words.proofs.Parrots.{if_none, same_parrots}
use Rattle.m17_words.proofs.Unnamed.{limit_text}
use Rattle.m17_words.proofs.plan.plan_of.Goals as goal

pub returns-in_err-call-clause-none : goal.returns-in_err-call-clause-none
returns-in_err-call-clause-none c = if_none c.from_residual.result _
    (λ o plan. c.in_err-call.ensures.none o.call (subst (λ (t : List ℕ). IsCallsignOf t o.call) (sym c.text_or.ensures) plan.call_is))

pub returns-in_err-modules-clause-none : goal.returns-in_err-modules-clause-none
returns-in_err-modules-clause-none c = if_none c.from_residual-in_err-modules.result _
    (λ o plan. c.in_err-modules.ensures.none o.modules (subst (λ (t : List ℕ). NamesModules t o.modules) (sym c.text_or-2.ensures) plan.modules_are))

pub returns-in_err-parrots-clause-none : goal.returns-in_err-parrots-clause-none
returns-in_err-parrots-clause-none c = if_none c.from_residual-in_err-parrots.result _
    (λ o plan. c.in_err-parrots.ensures.none o.parrots
    (subst (λ (t : Option (List ℕ)). NamesParrots t c.in_ok-modules.modules o.parrots) (sym c.text_of.ensures)
    (same_parrots c.text_or-2.result.now o.modules c.in_ok-modules.modules _ o.parrots
    (subst (λ (t : List ℕ). NamesModules t o.modules) (sym c.text_or-2.ensures) plan.modules_are)
    c.in_ok-modules.ensures.some plan.parrots_are)))

pub returns-in_err-places-clause-none : goal.returns-in_err-places-clause-none
returns-in_err-places-clause-none c = if_none c.from_residual-in_err-places.result _
    (λ o plan. c.in_err-places.ensures.none o.places (subst (λ (t : List ℕ). IsNumber 1 256 t o.places) (sym c.text_or-3.ensures) plan.places_are))

pub returns-in_err-limit-clause-none : goal.returns-in_err-limit-clause-none
returns-in_err-limit-clause-none c = if_none c.from_residual-in_err-limit.result _
    (λ o plan. c.in_err-limit.ensures.none o.limit (subst (λ (t : List ℕ). IsLimit t o.limit) (sym (c.text_or-4.ensures ∙ limit_text _)) plan.limit_is))

pub returns-clause-some : goal.returns-clause-some
returns-clause-some c = record {
  call_is = subst (λ (t : List ℕ). IsCallsignOf t c.in_ok-call.call) c.text_or.ensures c.in_ok-call.ensures.some;
  modules_are = subst (λ (t : List ℕ). NamesModules t c.in_ok-modules.modules) c.text_or-2.ensures c.in_ok-modules.ensures.some;
  parrots_are = subst (λ (t : Option (List ℕ)). NamesParrots t c.in_ok-modules.modules c.in_ok-parrots.parrots) c.text_of.ensures c.in_ok-parrots.ensures.some;
  places_are = subst (λ (t : List ℕ). IsNumber 1 256 t c.in_ok-places.places) c.text_or-3.ensures c.in_ok-places.ensures.some;
  limit_is = subst (λ (t : List ℕ). IsLimit t c.in_ok-limit.limit) (c.text_or-4.ensures ∙ limit_text _) c.in_ok-limit.ensures.some;
}
