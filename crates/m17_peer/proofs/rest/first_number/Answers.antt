-- The digits that were read are those of the number.
use Rattle.std.proofs.Common.{ℕ, ◌+◌, ◌*◌, get_or, arith, inl, inr, refl, sym, subst, ◌∙◌}
use Rattle.m17_peer.proofs.Numbers.{IsRead, is_digit, no_digit, one_more, small, number_read}
use Rattle.m17_peer.proofs.rest.first_number.Goals as goal

pub returns-then-i-eq-MAX_DIGITS-clause-number : goal.returns-then-i-eq-MAX_DIGITS-clause-number
returns-then-i-eq-MAX_DIGITS-clause-number c = λ n rest fits ends text.
    let r = number_read c.args.bytes.now c.loop-i.i c.loop-i.value n rest c.loop-i.auto.i-end c.loop-i.invariant (inl c.if-i-eq-MAX_DIGITS.true) fits ends text in
    (c.low_half.ensures ∙ r.0, r.1)

pub returns-then-not-is_ascii_digit-clause-number : goal.returns-then-not-is_ascii_digit-clause-number
returns-then-not-is_ascii_digit-clause-number c = λ n rest fits ends text.
    let r = number_read c.args.bytes.now c.loop-i.i c.loop-i.value n rest c.loop-i.auto.i-end c.loop-i.invariant
    (inr (inr (no_digit c.is_ascii_digit.result _ c.if-not-is_ascii_digit.true c.is_ascii_digit.ensures.cases))) fits ends text in
    (c.low_half-then-not-is_ascii_digit.ensures ∙ r.0, r.1)

pub overflow_mul-value : goal.overflow_mul-value
overflow_mul-value c =
    let few = small c.args.bytes.now c.loop-i.i c.loop-i.value c.loop-i.auto.i-end (omega arith) c.loop-i.invariant in
    omega arith

pub overflow_add-value : goal.overflow_add-value
overflow_add-value c =
    let few = small c.args.bytes.now c.loop-i.i c.loop-i.value c.loop-i.auto.i-end (omega arith) c.loop-i.invariant in
    omega arith

pub loop-i-preserved : goal.loop-i-preserved
loop-i-preserved c =
    let digit = is_digit c.is_ascii_digit.result _ c.if-not-is_ascii_digit.false c.is_ascii_digit.ensures.cases in
    let more = one_more c.args.bytes.now c.loop-i.i c.loop-i.value (get_or c.args.bytes.now c.loop-i.i 0) c.loop-i-test.true (omega arith) refl digit.0 digit.1 c.loop-i.invariant in
    subst (λ (x : ℕ). IsRead c.args.bytes.now (c.loop-i.i + 1) (c.loop-i.value * 10 + x)) (sym c.from.ensures) more

pub returns-clause-number : goal.returns-clause-number
returns-clause-number c = λ n rest fits ends text.
    let r = number_read c.args.bytes.now c.loop-i.i c.loop-i.value n rest c.loop-i.auto.i-end c.loop-i.invariant (inr (inl (omega arith))) fits ends text in
    (c.low_half-2.ensures ∙ r.0, omega (arith, r.1))
