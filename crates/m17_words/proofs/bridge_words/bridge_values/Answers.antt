use Rattle.std.proofs.Common.{ℕ, List, Option, sym, subst}
use Rattle.m17_callsign.specs.Callsign.{IsCallsignOf}
use Rattle.m17_peer.specs.Text.{IsTextOf}
use Rattle.m17_words.specs.Values.{IsNumberIfAny, NamesLetter}
use Rattle.m17_words.proofs.Parrots.{if_none}
use Rattle.m17_words.proofs.bridge_words.bridge_values.Goals as goal

pub returns-in_err-call-clause-none : goal.returns-in_err-call-clause-none
returns-in_err-call-clause-none c = if_none c.from_residual.result _
    (λ order bridge. c.in_err-call.ensures.none order.call (subst (λ (t : List ℕ). IsCallsignOf t order.call) (sym c.text_or.ensures) bridge.call_is))

pub returns-in_err-near_peer-clause-none : goal.returns-in_err-near_peer-clause-none
returns-in_err-near_peer-clause-none c = if_none c.from_residual-in_err-near_peer.result _
    (λ order bridge. c.in_err-near_peer.ensures.none order.near_peer (subst (λ (t : List ℕ). IsTextOf order.near_peer t) (sym c.text_or-2.ensures) bridge.near_peer_is))

pub returns-in_err-near_letter-clause-none : goal.returns-in_err-near_letter-clause-none
returns-in_err-near_letter-clause-none c = if_none c.from_residual-in_err-near_letter.result _
    (λ order bridge. c.in_err-near_letter.ensures.none order.near_letter (subst (λ (t : List ℕ). NamesLetter t order.near_letter) (sym c.text_or-3.ensures) bridge.near_module_is))

pub returns-in_err-far_peer-clause-none : goal.returns-in_err-far_peer-clause-none
returns-in_err-far_peer-clause-none c = if_none c.from_residual-in_err-far_peer.result _
    (λ order bridge. c.in_err-far_peer.ensures.none order.far_peer (subst (λ (t : List ℕ). IsTextOf order.far_peer t) (sym c.text_or-4.ensures) bridge.far_peer_is))

pub returns-in_err-far_letter-clause-none : goal.returns-in_err-far_letter-clause-none
returns-in_err-far_letter-clause-none c = if_none c.from_residual-in_err-far_letter.result _
    (λ order bridge. c.in_err-far_letter.ensures.none order.far_letter (subst (λ (t : List ℕ). NamesLetter t order.far_letter) (sym c.text_or-5.ensures) bridge.far_module_is))

pub returns-in_err-seconds-clause-none : goal.returns-in_err-seconds-clause-none
returns-in_err-seconds-clause-none c = if_none c.from_residual-in_err-seconds.result _
    (λ order bridge. c.in_err-seconds.ensures.none order.seconds (subst (λ (t : Option (List ℕ)). IsNumberIfAny 1 1000000 t order.seconds) (sym c.text_of.ensures) bridge.seconds_are))

pub returns-clause-some : goal.returns-clause-some
returns-clause-some c = record {
  call_is = subst (λ (t : List ℕ). IsCallsignOf t c.in_ok-call.call) c.text_or.ensures c.in_ok-call.ensures.some;
  near_peer_is = subst (λ (t : List ℕ). IsTextOf c.in_ok-near_peer.near_peer t) c.text_or-2.ensures c.in_ok-near_peer.ensures.some;
  near_module_is = subst (λ (t : List ℕ). NamesLetter t c.in_ok-near_letter.near_letter) c.text_or-3.ensures c.in_ok-near_letter.ensures.some;
  far_peer_is = subst (λ (t : List ℕ). IsTextOf c.in_ok-far_peer.far_peer t) c.text_or-4.ensures c.in_ok-far_peer.ensures.some;
  far_module_is = subst (λ (t : List ℕ). NamesLetter t c.in_ok-far_letter.far_letter) c.text_or-5.ensures c.in_ok-far_letter.ensures.some;
  seconds_are = subst (λ (t : Option (List ℕ)). IsNumberIfAny 1 1000000 t c.in_ok-seconds.seconds) c.text_of.ensures c.in_ok-seconds.ensures.some;
}
