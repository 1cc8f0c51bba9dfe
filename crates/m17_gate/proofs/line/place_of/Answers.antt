use Rattle.std.proofs.Common.{◌==◌, ℕ, length, sym, arith, eq-eqb}
use Rattle.std.proofs.lemmas.List.Sums.{position_or_len_is}
use Rattle.m17_gate.proofs.line.place_of.Goals as goal

pub returns-then-bytes-place-clause-first : goal.returns-then-bytes-place-clause-first
returns-then-bytes-place-clause-first c =
    sym (position_or_len_is (λ (byte : ℕ). byte == c.args.wanted) c.args.bytes.now
    c.loop-place.place 0 (omega arith)
    c.loop-place.invariant (λ _. eq-eqb _ _ c.if-bytes-place.true))

pub returns-clause-first : goal.returns-clause-first
returns-clause-first c =
    sym (position_or_len_is (λ (byte : ℕ). byte == c.args.wanted) c.args.bytes.now
    (length c.args.bytes.now) 0 (omega arith)
    (λ k lt. c.loop-place.invariant k (omega (arith, lt))) (λ lt. absurd (omega (arith, lt))))
