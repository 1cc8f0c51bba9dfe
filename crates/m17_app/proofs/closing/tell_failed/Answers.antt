use Rattle.std.proofs.Common.{◌≡◌, ◌⊎◌, None, false, inl, inr}
use Rattle.m17_app.specs.declared.status.Status.TheVariants.{BookFailed, WriteFailed}
use Rattle.m17_app.proofs.closing.tell_failed.Goals as goal

-- a failed book is told by another status than a failed write
other : {A : Type 0} → (BookFailed ≡ WriteFailed) ⊎ A → A
other (inl same) = absurd (let e = same in cc)
other (inr it) = it

pub returns-clause-answer : goal.returns-clause-answer
returns-clause-answer g c = (c.end_with.ensures (record { left = None; at_hand = false; faults = 0 })).answer

pub returns-clause-cause : goal.returns-clause-cause
returns-clause-cause g c = λ is. other ((c.end_with.ensures (record { left = None; at_hand = false; faults = 0 })).failed is)

pub returns-clause-line : goal.returns-clause-line
returns-clause-line g c = c.end_with.ensures
