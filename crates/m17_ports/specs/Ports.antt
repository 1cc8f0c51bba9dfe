-- What ports tell, and what they were asked for.
use Rattle.std.specs.Prelude.{◌≡◌, ◌⊎◌, ℕ, ◌+◌, ◌-◌, ◌^◌, min, List, [], ◌∷◌, length, Option, Some}
use Rattle.m17_ports.specs.Told.{told_then}
use Rattle.m17_ports.specs.declared.question.Question.{Question}

-- All that ports tell: what was asked so far, where they tell it, how many calls there were, which is the number of the
-- next one, and how often they failed.
pub record PortsTold : Type 0 where
  pub asked : Option (List Question)
  pub calls : ℕ
  pub faults : ℕ

-- These questions were asked, in order: each was appended, as far as the ports tell it, and each is a call. Ports may stop
-- telling, and a number of calls that has come to 2^64 - 1 stays there.
pub record HasAsked (questions : List Question) (before after : PortsTold) : Type 0 where
  pub told : (all : List Question) → after.asked ≡ Some all
      → told_then before.asked questions ≡ Some all
  pub counted : after.calls ≡ min (before.calls + length questions) (2 ^ 64 - 1)

-- The number of the next call. One that has come to 2^64 - 1 stays there.
abbrev pub next_number : ℕ → ℕ
next_number n = min (n + 1) (2 ^ 64 - 1)

-- The ports fail at their last question: their count of faults stands, or it stood until that question, which comes after
-- some moment `between`. `told` says what they tell at a moment.
abbrev pub FailsLast : {P : Type 0} → (P → PortsTold) → P → P → Type 0
FailsLast {P} told before after = ((told after).faults ≡ (told before).faults)
    ⊎ ((between : P) × (question : Question) × ((told between).faults ≡ (told before).faults)
    × HasAsked (question ∷ []) (told between) (told after))
