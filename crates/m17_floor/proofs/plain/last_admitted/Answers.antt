use Rattle.std.proofs.Common.{ℕ, Bool, sym, ◌∙◌, arith}
use Rattle.m17_floor.specs.Plain.{was_answered}
use Rattle.m17_lookup.proofs.LastBelow.{found_back, passed_back, none_back}
use Rattle.m17_floor.proofs.plain.last_admitted.Goals as goal

pub returns-then-is_admitted-clause-found : goal.returns-then-is_admitted-clause-found
returns-then-is_admitted-clause-found c =
    let test : ℕ → Bool = was_answered c.args.answered.now in
    sym (found_back test c.loop-a.a (omega arith) (sym c.is_admitted.ensures ∙ c.if-is_admitted.true)) ∙ c.loop-a.invariant.1

pub loop-a-preserved : goal.loop-a-preserved
loop-a-preserved c =
    let test : ℕ → Bool = was_answered c.args.answered.now in
    (omega arith, passed_back test c.loop-a.a (omega arith) (sym c.is_admitted.ensures ∙ c.if-is_admitted.false) ∙ c.loop-a.invariant.1)

pub returns-clause-found : goal.returns-clause-found
returns-clause-found c =
    let test : ℕ → Bool = was_answered c.args.answered.now in
    none_back test c.loop-a.a (omega arith) ∙ c.loop-a.invariant.1
