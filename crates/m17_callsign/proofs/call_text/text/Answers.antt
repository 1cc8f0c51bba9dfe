use Rattle.std.proofs.Common.{refl, Some, ◌≡◌, ◌∙◌, arith}
use Rattle.m17_callsign.specs.Callsign.{HasCallsign}
use Rattle.m17_callsign.specs.Letters.{callsign_of}
use Rattle.m17_callsign.proofs.Spelled.{answered, none_computed, plain_computed, group_computed}
use Rattle.m17_callsign.proofs.call_text.text.Goals as goal
use Rattle.m17_callsign.proofs.call_text.text.Goals.{then-value-lt-END_OF_CALLSIGNS, else-value-lt-END_OF_CALLSIGNS}

no_callsign : (c : goal.After-from_residual) → c.from_residual.result ≡ callsign_of c.args.a
no_callsign c =
    let out : HasCallsign c.args.a → ⊥ = λ has. let some = c.in_err-new.ensures.in_range.1 has in cc in
    c.from_residual.ensures ∙ none_computed c.args.a out

its_callsign : (c : goal.Joined-value-lt-END_OF_CALLSIGNS) → Some c.if-value-lt-END_OF_CALLSIGNS.text.bytes ≡ callsign_of c.args.a
its_callsign c =
    let has : HasCallsign c.args.a = c.in_ok-new.ensures.in_range.0 refl in
    let value = c.value-value.ensures.value in
    elim c.if-value-lt-END_OF_CALLSIGNS.branch [
      | then-value-lt-END_OF_CALLSIGNS w ↦
          let low = w.if-value-lt-END_OF_CALLSIGNS.true in
          plain_computed c.args.a c.if-value-lt-END_OF_CALLSIGNS.text.bytes has (omega arith)
          (rw (w.text-is, w.push_letters.ensures, c.new-text.ensures, value) refl)
      | else-value-lt-END_OF_CALLSIGNS w ↦
          let high = w.if-value-lt-END_OF_CALLSIGNS.false in
          let sign = w.push.ensures.ascii (omega arith) in
          group_computed c.args.a c.if-value-lt-END_OF_CALLSIGNS.text.bytes has (omega arith)
          (rw (w.text-is, w.push_letters-else-value-lt-END_OF_CALLSIGNS.ensures, sign, w.from.ensures, c.new-text.ensures, value) refl)
    ]

pub returns-in_err-new-clause-some : goal.returns-in_err-new-clause-some
returns-in_err-new-clause-some c = answered c.from_residual.result c.args.a (no_callsign c)

pub returns-in_err-new-clause-letters : goal.returns-in_err-new-clause-letters
returns-in_err-new-clause-letters c = no_callsign c

pub returns-clause-some : goal.returns-clause-some
returns-clause-some c = answered (Some c.if-value-lt-END_OF_CALLSIGNS.text.bytes) c.args.a (its_callsign c)

pub returns-clause-letters : goal.returns-clause-letters
returns-clause-letters c = its_callsign c
