-- What is told of an ear, and how many Ends stand last in it.
use Rattle.std.proofs.Common.{◌≡◌, ◌≢◌, ℕ, zero, suc, ◌-◌, ◌^◌, ◌≤◌, List, [], ◌∷◌, ◌++◌, replicate, None, Some, refl, sym, ap, ◌∙◌, subst, arith}
use Rattle.std.specs.List.{All}
use Rattle.std.proofs.lemmas.List.{append_assoc, append-nil}
use Rattle.std.proofs.lemmas.List.Elements.{All-head, All-tail}
use Rattle.m17_values.specs.declared.heard.Heard.{Heard}
use Rattle.m17_values.specs.declared.heard.Heard.TheVariants.{End}
use Rattle.m17_ports.specs.Ear.{EndsPastCount}
use Rattle.m17_ports.specs.Laws.{NewEarsTell, EarsTellOn, ToldInTurn, NothingMoreIsTold}

-- the list has no such row of Ends at its end
too_short : (front : List Heard) (n : ℕ) → 2 ^ 64 - 1 ≤ n → front ++ replicate n End ≡ [] → ⊥
too_short [] zero many e = absurd (omega arith)
too_short [] (suc n) many e = absurd (cc)
too_short (x ∷ front) n many e = absurd (cc)

pub new-ears-tell : NewEarsTell
new-ears-tell None empty past = let e = past.3 in absurd (cc)
new-ears-tell (Some all) empty past =
    let is : all ≡ past.0 ++ replicate past.1 End = let e = past.3 in cc in
    too_short past.0 past.1 past.2 (sym is ∙ empty all refl)

-- the last of a first one and these
abbrev last : Heard → List Heard → Heard
last x [] = x
last x (y ∷ ys) = last y ys

last_behind : (x : Heard) (xs : List Heard) (y : Heard) (ys : List Heard) → last x (xs ++ y ∷ ys) ≡ last y ys
last_behind x [] y ys = refl
last_behind x (z ∷ xs) y ys = last_behind z xs y ys

last_end : (n : ℕ) → last End (replicate n End) ≡ End
last_end zero = refl
last_end (suc n) = last_end n

last_of_all : (y : Heard) (ys : List Heard) → All (λ entry. entry ≢ End) (y ∷ ys) → last y ys ≢ End
last_of_all y [] all = All-head (λ entry. entry ≢ End) y [] all
last_of_all y (z ∷ ys) all = last_of_all z ys (All-tail (λ entry. entry ≢ End) y (z ∷ ys) all)

-- what does not end in an End does not end in so many
ends_otherwise : (all : List Heard) (y : Heard) (ys front : List Heard) (n : ℕ)
    → All (λ entry. entry ≢ End) (y ∷ ys) → 2 ^ 64 - 1 ≤ n → all ++ y ∷ ys ≡ front ++ replicate n End → ⊥
ends_otherwise all y ys front zero none many e = absurd (omega arith)
ends_otherwise all y ys front (suc n) none many e =
    last_of_all y ys none (sym (last_behind End all y ys) ∙ ap (λ (l : List Heard). last End l) e
    ∙ (last_behind End front End (replicate n End) ∙ last_end n))

pub ears-tell-on : EarsTellOn
ears-tell-on None more below none past = let e = past.3 in absurd (cc)
ears-tell-on (Some all) [] below none past =
    below (subst EndsPastCount (ap (λ (l : List Heard). Some l) (append-nil all)) past)
ears-tell-on (Some all) (y ∷ ys) below none past =
    let is : all ++ y ∷ ys ≡ past.0 ++ replicate past.1 End = let e = past.3 in cc in
    ends_otherwise all y ys past.0 past.1 none past.2 is

pub told-in-turn : {T : Type 0} → ToldInTurn T
told-in-turn None first second = refl
told-in-turn {T} (Some all) first second = ap (λ (l : List T). Some l) (append_assoc all first second)

pub nothing-more : {T : Type 0} → NothingMoreIsTold T
nothing-more None = refl
nothing-more {T} (Some all) = ap (λ (l : List T). Some l) (append-nil all)
