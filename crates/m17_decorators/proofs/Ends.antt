-- The Ends that an ear tells, and those that a memory counts.
use Rattle.std.proofs.Common.{◌≡◌, ◌≢◌, ◌⊎◌, ℕ, zero, suc, ◌+◌, ◌-◌, ◌^◌, ◌<◌, ◌≤◌, Bool, true, List, [], ◌∷◌, ◌++◌, length, replicate, Option, None, Some, inl, inr, refl, sym, ap, subst, ◌∙◌, arith}
use Rattle.std.specs.Prelude.{min, option_map}
use Rattle.m17_values.specs.declared.heard.Heard.{Heard}
use Rattle.m17_values.specs.declared.heard.Heard.TheVariants.{Datagram, Quiet, Fault, End}
use Rattle.m17_ports.specs.Told.{told_then}
use Rattle.m17_ports.specs.Ear.{EndsPastCount}
use Rattle.m17_ports.specs.Untold.{nothing_told}
use Rattle.m17_decorators.specs.declared.memory.Memory.{Memory}
use Rattle.m17_decorators.specs.Guarded.{guarded, guarded_entry, guarded_after}
use Rattle.m17_decorators.specs.Follows.{past_then, guarded-append, guarded-ends}
use Rattle.m17_decorators.specs.GuardMemory.{Remembers, IsInStep, last_ends}

same-list : (x y : List Heard) → Some x ≡ Some y → x ≡ y
same-list x y e = cc

pub past-append : (past xs ys : List Heard) → past_then past (xs ++ ys) ≡ past_then (past_then past xs) ys
past-append past [] ys = refl
past-append past (x ∷ xs) ys = past-append (x ∷ past) xs ys

ends-counted : (past : List Heard) (n : ℕ)
    → last_ends (past_then past (replicate n End)) ≡ last_ends past + n
ends-counted past zero = omega arith
ends-counted past (suc n) = ends-counted (End ∷ past) n ∙ omega arith

-- an ear past the count of Ends has as many
many-ends : (said front : List Heard) (n : ℕ) → 2 ^ 64 - 1 ≤ n → said ≡ front ++ replicate n End
    → 2 ^ 64 - 1 ≤ last_ends (past_then [] said)
many-ends said front n many is =
    let e : last_ends (past_then [] said) ≡ last_ends (past_then [] front) + n =
    ap (λ (l : List Heard). last_ends (past_then [] l)) is
    ∙ ap last_ends (past-append [] front (replicate n End))
    ∙ ends-counted (past_then [] front) n in
    omega arith

pub not-past : (m : Memory) (told : Option (List Heard))
    → ((said : List Heard) → told ≡ Some said → Remembers m (past_then [] said))
    → m.ends ≢ 2 ^ 64 - 1 → EndsPastCount told → ⊥
not-past m told step few past =
    let front = past.0 in
    let n = past.1 in
    let many = many-ends (front ++ replicate n End) front n past.2 refl in
    let ends = (step (front ++ replicate n End) past.3).ends in
    few (omega arith)

-- what ends in Ends
abbrev Front : List Heard → List Heard → Type 0
Front past xs =
    ((xs ≡ replicate (length xs) End) × (last_ends (past_then past xs) ≡ last_ends past + length xs))
    ⊎ ((front : List Heard) × (xs ≡ front ++ replicate (last_ends (past_then past xs)) End))

front-more : (past : List Heard) (x : Heard) (t : List Heard) → last_ends (x ∷ past) ≡ 0
    → Front (x ∷ past) t → Front past (x ∷ t)
front-more past x t none (inl all) = inr (
  x ∷ [],
  (let e : length t ≡ last_ends (past_then (x ∷ past) t) = omega (arith, all.1) in
      ap (λ (l : List Heard). x ∷ l) (all.0 ∙ ap (λ (n : ℕ). replicate n End) e)),
)
front-more past x t none (inr some) = inr (x ∷ some.0, ap (λ (l : List Heard). x ∷ l) some.1)

end-more : (past t : List Heard) → Front (End ∷ past) t → Front past (End ∷ t)
end-more past t (inl all) = inl (
  ap (λ (l : List Heard). End ∷ l) all.0,
  omega (arith, all.1),
)
end-more past t (inr some) = inr (End ∷ some.0, ap (λ (l : List Heard). End ∷ l) some.1)

front-of : (past xs : List Heard) → Front past xs
front-of past [] = inl (refl, omega arith)
front-of past (Datagram from at bytes ∷ t) = front-more past (Datagram from at bytes) t refl
    (front-of (Datagram from at bytes ∷ past) t)
front-of past (Quiet at ∷ t) = front-more past (Quiet at) t refl (front-of (Quiet at ∷ past) t)
front-of past (Fault ∷ t) = front-more past Fault t refl (front-of (Fault ∷ past) t)
front-of past (End ∷ t) = end-more past t (front-of (End ∷ past) t)

guarded-past : (said front : List Heard) (n : ℕ) → 2 ^ 64 - 1 ≤ n → said ≡ front ++ replicate n End
    → EndsPastCount (Some (guarded true said))
guarded-past said front n many is = (
  guarded true front,
  n,
  many,
  ap (λ (l : List Heard). Some (guarded true l)) is
      ∙ ap Some (guarded-append [] front (replicate n End)
      ∙ ap (λ (l : List Heard). guarded true front ++ l) (guarded-ends (past_then [] front) n)),
)

-- where the memory is over, so is what is told
pub is-past : (m : Memory) (said : List Heard) → Remembers m (past_then [] said)
    → m.ends ≡ 2 ^ 64 - 1 → EndsPastCount (Some (guarded true said))
is-past m said r over =
    let ends = r.ends in
    let many : 2 ^ 64 - 1 ≤ last_ends (past_then [] said) = omega arith in
    elim (front-of [] said) [
      | inl all ↦ guarded-past said [] (length said) (omega (arith, all.1)) all.0
      | inr some ↦ guarded-past said some.0 (last_ends (past_then [] said)) many some.1
    ]

-- nothing more has to be told then
pub told-over : (m : Memory) (told : Option (List Heard)) (entries : List Heard)
    → ((said : List Heard) → told ≡ Some said → Remembers m (past_then [] said))
    → m.ends ≡ 2 ^ 64 - 1 → (EndsPastCount (option_map (guarded true) told) → ⊥)
    → option_map (guarded true) told ≡ told_then (option_map (guarded true) told) entries
told-over m None entries step over past = refl
told-over m (Some said) entries step over past = absurd
    (past (is-past m said (step said refl) over))

-- one entry more
pub step-more : (old new : Memory) (told more : Option (List Heard)) (heard : Heard)
    → ((said : List Heard) → told ≡ Some said → Remembers old (past_then [] said))
    → more ≡ told_then told (heard ∷ [])
    → ((past : List Heard) → Remembers old past → Remembers new (heard ∷ past))
    → (said : List Heard) → more ≡ Some said → Remembers new (past_then [] said)
step-more old new None more heard step is next said at = absurd (nothing_told said (sym is ∙ at))
step-more old new (Some before) more heard step is next said at =
    let all : before ++ heard ∷ [] ≡ said = same-list (before ++ heard ∷ []) said (sym is ∙ at) in
    subst (λ (l : List Heard). Remembers new (past_then [] l)) all
    (subst (λ (l : List Heard). Remembers new l) (sym (past-append [] before (heard ∷ [])))
    (next (past_then [] before) (step before refl)))

pub told-more : (old : Memory) (told more : Option (List Heard)) (heard result-is : Heard)
    → ((said : List Heard) → told ≡ Some said → Remembers old (past_then [] said))
    → more ≡ told_then told (heard ∷ [])
    → ((past : List Heard) → Remembers old past → result-is ≡ guarded_entry past heard)
    → option_map (guarded true) more ≡ told_then (option_map (guarded true) told) (result-is ∷ [])
told-more old None more heard result-is step is next = ap (option_map (guarded true)) is
told-more old (Some before) more heard result-is step is next =
    ap (option_map (guarded true)) is
    ∙ ap Some (guarded-append [] before (heard ∷ [])
    ∙ ap (λ (h : Heard). guarded true before ++ h ∷ []) (sym (next (past_then [] before) (step before refl))))

-- the same of what contracts see of an ear
pub step-of : (memory : Option Memory) (m : Memory) (told : Option (List Heard)) → memory ≡ Some m
    → IsInStep memory told → IsInStep (Some m) told
step-of memory m told is step = subst (λ (o : Option Memory). IsInStep o told) is step

pub over-told : (m : Memory) (is_on : Bool) (old told : Option (List Heard)) (entries : List Heard)
    → is_on ≡ true → old ≡ told → IsInStep (Some m) told → m.ends ≡ 2 ^ 64 - 1
    → (EndsPastCount (option_map (guarded is_on) old) → ⊥)
    → option_map (guarded true) told ≡ told_then (option_map (guarded is_on) old) entries
over-told m is_on old told entries on same step ends =
    subst (λ (b : Bool). (EndsPastCount (option_map (guarded b) old) → ⊥)
    → option_map (guarded true) told ≡ told_then (option_map (guarded b) old) entries) (sym on)
    (subst (λ (o : Option (List Heard)). (EndsPastCount (option_map (guarded true) o) → ⊥)
    → option_map (guarded true) told ≡ told_then (option_map (guarded true) o) entries) (sym same)
    (told-over m told entries step.1 ends))

pub more-told : (m : Memory) (is_on : Bool) (old told more : Option (List Heard)) (heard passed : Heard)
    → is_on ≡ true → old ≡ told → IsInStep (Some m) told → m.ends ≢ 2 ^ 64 - 1
    → ((EndsPastCount told → ⊥) → more ≡ told_then told (heard ∷ []))
    → ((past : List Heard) → Remembers m past → passed ≡ guarded_entry past heard)
    → option_map (guarded true) more ≡ told_then (option_map (guarded is_on) old) (passed ∷ [])
more-told m is_on old told more heard passed on same step few appended next =
    subst (λ (b : Bool). option_map (guarded true) more
    ≡ told_then (option_map (guarded b) old) (passed ∷ [])) (sym on)
    (subst (λ (o : Option (List Heard)). option_map (guarded true) more
    ≡ told_then (option_map (guarded true) o) (passed ∷ [])) (sym same)
    (told-more m told more heard passed step.1 (appended (not-past m told step.1 few)) next))
