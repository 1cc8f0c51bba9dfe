-- How many bytes an input has, while its bytes are passed.
use Rattle.std.proofs.Common.{◌≡◌, ℕ, ◌+◌, List, [], ◌++◌, length, drop, Option, Some, sym, ap, ◌∙◌, arith, length-append}
use Rattle.std.proofs.lemmas.List.{drop_all}
use Rattle.m17_book.specs.Limits.{told}
use Rattle.m17_book.specs.Ahead.{IsAhead, IsMoreOf}
use Rattle.m17_book.proofs.Held.{ahead_more}

-- what is to come, and how many bytes the input then has
abbrev pub IsOf : List ℕ → Option (List ℕ) → ℕ → ℕ → Type 0
IsOf held left place total = (rest : List ℕ) × IsAhead held left rest × (told (place + length rest) ≡ told total)

pub drop_whole : (xs : List ℕ) (n : ℕ) → n ≡ length xs → drop n xs ≡ []
drop_whole xs n e = drop_all n xs (omega arith)

-- all that is held was passed
pub passed_all : (h h' : List ℕ) (left : Option (List ℕ)) (p p' n total : ℕ) → n ≡ length h → h' ≡ drop n h → p' ≡ told (p + n)
    → IsOf h left p total → IsOf h' left p' total
passed_all h h' left p p' n total all same place o =
    let none : h' ≡ [] = same ∙ drop_whole h n all in
    let long : length o.0 ≡ length h + length o.1.0 = ap length o.1.2 ∙ length-append h o.1.0 in (
      o.1.0,
      (o.1.0, o.1.1, ap (λ xs. xs ++ o.1.0) (sym none)),
      omega (arith, long, all, place, o.2),
    )

-- a read added to what is held
pub read_on : (h h' : List ℕ) (left left' : Option (List ℕ)) (p n total : ℕ)
    → ((rest : List ℕ) → left ≡ Some rest → IsMoreOf rest n h h' left') → IsOf h left p total → IsOf h' left' p total
read_on h h' left left' p n total more o = (o.0, ahead_more h h' o.0 left left' n o.1 more, o.2)

-- nothing is held, and a read got nothing: no more is to come
pub all_read : (h h' : List ℕ) (left left' : Option (List ℕ)) (p n total : ℕ) → n ≡ 0 → h ≡ []
    → ((rest : List ℕ) → left ≡ Some rest → IsMoreOf rest n h h' left') → IsOf h left p total → told p ≡ told total
all_read h h' left left' p n total none empty more o =
    let m = more o.1.0 o.1.1 in
    let rest : o.1.0 ≡ [] = m.at_end none in
    let all : length o.0 ≡ 0 = ap length (o.1.2 ∙ ap (λ xs. xs ++ o.1.0) empty ∙ rest) in
    omega (arith, all, o.2)
