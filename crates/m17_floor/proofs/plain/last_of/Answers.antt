use Rattle.std.proofs.Common.{ℕ, Bool, sym, ◌∙◌, arith}
use Rattle.m17_floor.specs.Plain.{is_answered_own}
use Rattle.m17_lookup.proofs.LastBelow.{found_back, passed_back, none_back}
use Rattle.m17_floor.proofs.plain.last_of.Goals as goal

pub returns-then-is_own-clause-found : goal.returns-then-is_own-clause-found
returns-then-is_own-clause-found c =
    let test : ℕ → Bool = is_answered_own c.args.places c.args.acts.now c.args.answered.now c.args.k in
    sym (found_back test c.loop-a.a (omega arith) (sym c.is_own.ensures ∙ c.if-is_own.true)) ∙ c.loop-a.invariant.1

pub loop-a-preserved : goal.loop-a-preserved
loop-a-preserved c =
    let test : ℕ → Bool = is_answered_own c.args.places c.args.acts.now c.args.answered.now c.args.k in
    (omega arith, passed_back test c.loop-a.a (omega arith) (sym c.is_own.ensures ∙ c.if-is_own.false) ∙ c.loop-a.invariant.1)

pub returns-clause-found : goal.returns-clause-found
returns-clause-found c =
    let test : ℕ → Bool = is_answered_own c.args.places c.args.acts.now c.args.answered.now c.args.k in
    none_back test c.loop-a.a (omega arith) ∙ c.loop-a.invariant.1
