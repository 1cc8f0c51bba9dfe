use Rattle.std.proofs.Common.{ℕ, Bool, sym, ◌∙◌, arith}
use Rattle.m17_floor.specs.Plain.{was_answered_opened}
use Rattle.m17_lookup.proofs.LastBelow.{found_back, passed_back, none_back}
use Rattle.m17_floor.proofs.plain.last_opened.Goals as goal

pub returns-then-is_opened-clause-found : goal.returns-then-is_opened-clause-found
returns-then-is_opened-clause-found c =
    let test : ℕ → Bool = was_answered_opened c.args.answered.now in
    sym (found_back test c.loop-o.o (omega arith) (sym c.is_opened.ensures ∙ c.if-is_opened.true)) ∙ c.loop-o.invariant.1

pub loop-o-preserved : goal.loop-o-preserved
loop-o-preserved c =
    let test : ℕ → Bool = was_answered_opened c.args.answered.now in
    (omega arith, passed_back test c.loop-o.o (omega arith) (sym c.is_opened.ensures ∙ c.if-is_opened.false) ∙ c.loop-o.invariant.1)

pub returns-clause-found : goal.returns-clause-found
returns-clause-found c =
    let test : ℕ → Bool = was_answered_opened c.args.answered.now in
    none_back test c.loop-o.o (omega arith) ∙ c.loop-o.invariant.1
