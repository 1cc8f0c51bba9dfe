-- The bits below a letter's bit.
use Rattle.std.proofs.Common.{◌-◌, sym, ◌∙◌, arith}
use Rattle.std.proofs.lemmas.Nat.{one_shl, pow_pos}
use Rattle.m17_control.proofs.ModuleSets.{serves_within}
use Rattle.m17_control.proofs.ModuleRanks.{ranks}
use Rattle.m17_control.proofs.modules.Modules.rank.Goals as goal

pub overflow_sub-before : goal.overflow_sub-before
overflow_sub-before c = (serves_within c.args.self.now c.args.letter (sym c.has.ensures ∙ c.if-not-has.false)).0

pub overflow_shl-before : goal.overflow_shl-before
overflow_shl-before c =
    let upper = serves_within c.args.self.now c.args.letter (sym c.has.ensures ∙ c.if-not-has.false) in
    omega (arith, upper.1)

pub overflow_sub-before-2 : goal.overflow_sub-before-2
overflow_sub-before-2 c =
    let upper = serves_within c.args.self.now c.args.letter (sym c.has.ensures ∙ c.if-not-has.false) in
    omega (arith, one_shl (c.args.letter - 65) 32 (omega (arith, upper.1)), pow_pos (c.args.letter - 65))

pub returns : goal.returns
returns c =
    let served = sym c.has.ensures ∙ c.if-not-has.false in
    let upper = serves_within c.args.self.now c.args.letter served in
    (served, ranks c.args.self.now c.args.letter upper.0 upper.1)
