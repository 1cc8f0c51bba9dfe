use Rattle.std.proofs.Common.{List, ℕ, subst}
use Rattle.m17_callsign.proofs.Exact.{IsRight, exact_ok, exact_err, in_range}
use Rattle.m17_callsign.proofs.encoding.encode.Goals as goal

pub returns-clause-ok : goal.returns-clause-ok
returns-clause-ok c = exact_ok c.args.text.now c.encode_bytes.result
    (subst (λ (t : List ℕ). IsRight t c.encode_bytes.result) c.as_bytes.ensures.value c.encode_bytes.ensures)

pub returns-clause-in_range : goal.returns-clause-in_range
returns-clause-in_range c = in_range c.args.text.now c.encode_bytes.result
    (subst (λ (t : List ℕ). IsRight t c.encode_bytes.result) c.as_bytes.ensures.value c.encode_bytes.ensures)

pub returns-clause-err : goal.returns-clause-err
returns-clause-err c = exact_err c.args.text.now c.encode_bytes.result
    (subst (λ (t : List ℕ). IsRight t c.encode_bytes.result) c.as_bytes.ensures.value c.encode_bytes.ensures)
