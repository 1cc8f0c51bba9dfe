-- What is told after calls whose answers were each worth another call.
use Rattle.std.proofs.Common.{◌≡◌, refl, ◌∙◌, ap, inr, ℕ, ◌+◌, ◌<◌, List, [], ◌∷◌, ◌++◌, length, All, Option, None, Some, arith, append_assoc, length-append}
use Rattle.std.proofs.lemmas.List.Elements.{All-push}
use Rattle.m17_ports.specs.Told.{told_then}
use Rattle.m17_net.specs.Tries.{GivesUpAfter}

-- so many answers were told, each worth another call
abbrev pub HasTried : {A : Type 0} → (A → Type 0) → ℕ → Option (List A) → Option (List A) → Type 0
HasTried {A} IsWorth tries before after = (answers : List A) × (after ≡ told_then before answers)
    × (length answers ≡ tries) × All IsWorth answers

-- the calls that were made answered so that the thing is given up
abbrev pub HasLetGo : {A : Type 0} → (A → Type 0) → ℕ → Option (List A) → Option (List A) → Type 0
HasLetGo {A} IsWorth most before after = (answers : List A) × (after ≡ told_then before answers)
    × GivesUpAfter IsWorth most answers

told-on : {A : Type 0} (told : Option (List A)) (xs ys : List A)
    → told_then (told_then told xs) ys ≡ told_then told (xs ++ ys)
told-on None xs ys = refl
told-on (Some all) xs ys = ap Some (append_assoc all xs ys)

pub tries-again : {A : Type 0} (IsWorth : A → Type 0) (tries : ℕ)
    (before now after : Option (List A)) (answer : A) → HasTried IsWorth tries before now
    → after ≡ told_then now (answer ∷ []) → IsWorth answer
    → HasTried IsWorth (tries + 1) before after
tries-again IsWorth tries before now after answer (answers, told, many, worth) more is = (
  answers ++ answer ∷ [],
  more ∙ ap (λ t. told_then t (answer ∷ [])) told ∙ told-on before answers (answer ∷ []),
  omega (arith, many, length-append answers (answer ∷ [])),
  All-push IsWorth answers answer worth is,
)

pub lets-go : {A : Type 0} (IsWorth : A → Type 0) (most tries : ℕ)
    (before now after : Option (List A)) (answer : A) → HasTried IsWorth tries before now
    → tries < most → after ≡ told_then now (answer ∷ []) → ¬ (IsWorth answer)
    → HasLetGo IsWorth most before after
lets-go IsWorth most tries before now after answer (answers, told, many, worth) few more is_not = (
  answers ++ answer ∷ [],
  more ∙ ap (λ t. told_then t (answer ∷ [])) told ∙ told-on before answers (answer ∷ []),
  inr (answers, answer, refl, worth, omega (arith, many, few), is_not),
)
