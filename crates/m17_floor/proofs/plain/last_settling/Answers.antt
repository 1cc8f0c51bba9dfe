use Rattle.std.proofs.Common.{ℕ, Bool, sym, ◌∙◌, arith}
use Rattle.m17_floor.specs.Acts.{kind_at, settles}
use Rattle.m17_lookup.proofs.LastBelow.{found_back, passed_back, none_back}
use Rattle.m17_floor.proofs.plain.last_settling.Goals as goal

pub returns-then-is_settling : goal.returns-then-is_settling
returns-then-is_settling c =
    let test : ℕ → Bool = λ i. settles c.args.k (kind_at c.args.acts.now i) in
    sym (found_back test c.loop-j.j (omega arith) (cc)) ∙ c.loop-j.invariant

pub loop-j-preserved : goal.loop-j-preserved
loop-j-preserved c =
    let test : ℕ → Bool = λ i. settles c.args.k (kind_at c.args.acts.now i) in
    passed_back test c.loop-j.j (omega arith) (cc) ∙ c.loop-j.invariant

pub returns : goal.returns
returns c =
    let test : ℕ → Bool = λ i. settles c.args.k (kind_at c.args.acts.now i) in
    none_back test c.loop-j.j (omega arith) ∙ c.loop-j.invariant
