use Rattle.std.proofs.Common.{◌≡◌, ℕ, Option, None, Some, IfSome, refl, sym, subst}
use Rattle.m17_callsign.specs.Callsign.{IsCallsignOf}
use Rattle.m17_words.proofs.values.call.Goals as goal

same_in : (P : ℕ → Type 0) (found : Option ℕ) (a : ℕ) → IfSome found (λ x. x ≡ a) → P a → IfSome found P
same_in P None a same h = tt
same_in P (Some x) a same h = subst P (sym same) h

pub returns-in-Ok-clause-some : goal.returns-in-Ok-clause-some
returns-in-Ok-clause-some c =
    same_in (IsCallsignOf c.args.text.now) c.new.result c.in-Ok.address c.new.ensures.same ((c.in-Ok.ensures.ok c.in-Ok.address).0 refl)

pub returns-in-Err-clause-none : goal.returns-in-Err-clause-none
returns-in-Err-clause-none c = λ a is. let bad = (c.in-Err.ensures.ok a).1 is in cc
