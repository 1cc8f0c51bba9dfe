use Rattle.std.proofs.Common.{sym, arith}
use Rattle.std.proofs.lemmas.List.{take_all, length-take-le}
use Rattle.m17_values.proofs.gram.first_of.Goals as goal

-- src/gram.rt:50:9
pub slice_bounds-result-end : goal.slice_bounds-result-end
slice_bounds-result-end c = sym (length-take-le 64 c.args.bytes.now (omega (arith, c.if-bytes-gt-GRAM_BYTES.true)))

-- src/gram.rt:45:1
pub returns-then-bytes-gt-GRAM_BYTES-clause-short :
    goal.returns-then-bytes-gt-GRAM_BYTES-clause-short
returns-then-bytes-gt-GRAM_BYTES-clause-short c =
    let e = length-take-le 64 c.args.bytes.now (omega (arith, c.if-bytes-gt-GRAM_BYTES.true)) in omega arith

-- src/gram.rt:45:1
pub returns-else-bytes-gt-GRAM_BYTES-clause-first :
    goal.returns-else-bytes-gt-GRAM_BYTES-clause-first
returns-else-bytes-gt-GRAM_BYTES-clause-first c = sym (take_all 64 c.args.bytes.now (omega (arith, c.if-bytes-gt-GRAM_BYTES.false)))
