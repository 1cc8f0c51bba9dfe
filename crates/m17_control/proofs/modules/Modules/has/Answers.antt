-- The bit of a letter.
use Rattle.std.proofs.Common.{ℕ, ◌-◌, ◌==◌, ap, sym, ◌∙◌}
use Rattle.std.proofs.lemmas.Nat.Bits.{shr_and_one}
use Rattle.m17_control.proofs.ModuleSets.{serves_is, serves_outside, is_upper, not_upper}
use Rattle.m17_control.proofs.modules.Modules.has.Goals as goal

pub returns-then-is_ascii_uppercase : goal.returns-then-is_ascii_uppercase
returns-then-is_ascii_uppercase c =
    let upper = is_upper c.is_ascii_uppercase.result c.args.letter c.if-is_ascii_uppercase.true c.is_ascii_uppercase.ensures.cases in
    ap (λ (x : ℕ). x == 1) (shr_and_one c.args.self.now.0 (c.args.letter - 65)) ∙ sym (serves_is c.args.self.now c.args.letter upper.0 upper.1)

pub returns-else-is_ascii_uppercase : goal.returns-else-is_ascii_uppercase
returns-else-is_ascii_uppercase c =
    c.if-is_ascii_uppercase.false ∙ sym (serves_outside c.args.self.now c.args.letter (not_upper c.is_ascii_uppercase.result c.args.letter c.if-is_ascii_uppercase.false c.is_ascii_uppercase.ensures.cases))
