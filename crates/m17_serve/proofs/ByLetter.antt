-- The letters of modules, one by one.
use Rattle.std.proofs.Common.{◌≡◌, ℕ, ◌+◌, ◌-◌, ◌<◌, ◌≤◌, cond, List, [], ◌∷◌, ◌++◌, take, filter, get_or, sym, ap, ◌∙◌, arith, suc, true, false, length, Bool}
use Rattle.std.specs.List.{range_with_len}
use Rattle.std.proofs.lemmas.List.Elements.{filter_more}
use Rattle.std.proofs.lemmas.List.FromFn.{get_or-range_with_len, length-range_with_len}
use Rattle.m17_control.specs.declared.modules.Modules.{Modules}
use Rattle.m17_control.specs.Modules.{letters_of, serves}

-- one letter more, where it is served
pub served_more : (m : Modules) (letter : ℕ) (was is : List ℕ) → 65 ≤ letter → letter < 91 → was ≡ filter (serves m) (take (letter - 65) (range_with_len 65 26))
    → is ≡ was ++ cond (serves m letter) (letter ∷ []) [] → is ≡ filter (serves m) (take (letter + 1 - 65) (range_with_len 65 26))
served_more m letter was is low high e h =
    let i : letter + 1 - 65 ≡ (letter - 65) + 1 = omega arith in
    let at : get_or (range_with_len 65 26) (letter - 65) 0 ≡ letter = get_or-range_with_len 65 26 (letter - 65) 0 (omega arith) ∙ (let k : 65 + (letter - 65) ≡ letter = omega arith in k) in
    h ∙ ap (λ (l : List ℕ). l ++ cond (serves m letter) (letter ∷ []) []) e
    ∙ ap (λ (x : ℕ). filter (serves m) (take (letter - 65) (range_with_len 65 26)) ++ cond (serves m x) (x ∷ []) []) (sym at)
    ∙ sym (filter_more (serves m) (range_with_len 65 26) (letter - 65) 0 (omega (arith, length-range_with_len 65 26)))
    ∙ ap (λ (x : ℕ). filter (serves m) (take x (range_with_len 65 26))) (sym i)

filter_le : {X : Type 0} (p : X → Bool) (xs : List X) → length (filter p xs) ≤ length xs
filter_le p [] = omega arith
filter_le p (x ∷ xs) = elim (p x) as (λ b. length (cond b (x ∷ filter p xs) (filter p xs)) ≤ suc (length xs)) [ true ↦ omega (arith, filter_le p xs) | false ↦ omega (arith, filter_le p xs) ]

-- there are 26 modules at the most
pub few_letters : (m : Modules) → length (letters_of m) ≤ 26
few_letters m = filter_le (serves m) (range_with_len 65 26)
