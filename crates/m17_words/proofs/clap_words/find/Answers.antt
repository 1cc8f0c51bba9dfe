use Rattle.std.proofs.Common.{◌≡◌, Bool, true, false, ◌&&◌, refl, subst, inl, inr, ◌∙◌}
use Rattle.clap.specs.Words.{IsAmong, Kinds, kind_of}
use Rattle.m17_words.specs.Tables.{IsSimple, Takes, found}
use Rattle.m17_words.proofs.clap_words.find.Goals as goal

both_first : (a b : Bool) → (a && b) ≡ true → a ≡ true
both_first true b e = refl
both_first false b e = e

pub returns-in-Ok-clause-taken : goal.returns-in-Ok-clause-taken
unfolding IsSimple Takes
returns-in-Ok-clause-taken c = c.in-Ok.ensures.kinds c.requires

pub returns-in-Ok-clause-found : goal.returns-in-Ok-clause-found
unfolding IsSimple found
returns-in-Ok-clause-found c = (c.in-Ok.ensures.matches (both_first _ _ c.requires)).0

pub returns-clause-refused : goal.returns-clause-refused
unfolding IsSimple Takes
returns-clause-refused c = λ e taken. elim (c.in-Err.ensures.kinds c.requires) [
  | inl memory ↦ c.in_default.not-OutOfMemory (c.kind.ensures ∙ memory)
  | inr among ↦ subst (λ (kinds : Kinds). IsAmong (kind_of c.in-Err.error) kinds) taken among
]
