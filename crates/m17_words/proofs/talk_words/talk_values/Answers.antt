use Rattle.std.proofs.Common.{ℕ, List, sym, subst}
use Rattle.m17_callsign.specs.Callsign.{IsCallsignOf}
use Rattle.m17_peer.specs.Text.{IsTextOf}
use Rattle.m17_words.specs.Values.{IsNumber, NamesLetter}
use Rattle.m17_words.proofs.Parrots.{if_none}
use Rattle.m17_words.proofs.talk_words.talk_values.Goals as goal

pub returns-in_err-call-clause-none : goal.returns-in_err-call-clause-none
returns-in_err-call-clause-none c = if_none c.from_residual.result _
    (λ order talk. c.in_err-call.ensures.none order.call (subst (λ (t : List ℕ). IsCallsignOf t order.call) (sym c.text_or.ensures) talk.call_is))

pub returns-in_err-letter-clause-none : goal.returns-in_err-letter-clause-none
returns-in_err-letter-clause-none c = if_none c.from_residual-in_err-letter.result _
    (λ order talk. c.in_err-letter.ensures.none order.letter (subst (λ (t : List ℕ). NamesLetter t order.letter) (sym c.text_or-2.ensures) talk.module_is))

pub returns-in_err-to-clause-none : goal.returns-in_err-to-clause-none
returns-in_err-to-clause-none c = if_none c.from_residual-in_err-to.result _
    (λ order talk. c.in_err-to.ensures.none order.to (subst (λ (t : List ℕ). IsTextOf order.to t) (sym c.text_or-3.ensures) talk.to_is))

pub returns-in_err-stay-clause-none : goal.returns-in_err-stay-clause-none
returns-in_err-stay-clause-none c = if_none c.from_residual-in_err-stay.result _
    (λ order talk. c.in_err-stay.ensures.none order.stay (subst (λ (t : List ℕ). IsNumber 0 86400000 t order.stay) (sym c.text_or-4.ensures) talk.stay_is))

pub returns-clause-some : goal.returns-clause-some
returns-clause-some c = record {
  call_is = subst (λ (t : List ℕ). IsCallsignOf t c.in_ok-call.call) c.text_or.ensures c.in_ok-call.ensures.some;
  module_is = subst (λ (t : List ℕ). NamesLetter t c.in_ok-letter.letter) c.text_or-2.ensures c.in_ok-letter.ensures.some;
  to_is = subst (λ (t : List ℕ). IsTextOf c.in_ok-to.to t) c.text_or-3.ensures c.in_ok-to.ensures.some;
  stay_is = subst (λ (t : List ℕ). IsNumber 0 86400000 t c.in_ok-stay.stay) c.text_or-4.ensures c.in_ok-stay.ensures.some;
}
