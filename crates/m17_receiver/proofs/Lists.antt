-- Lists by position: what stands before what is put behind, and at the end; and one position more.
use Rattle.std.proofs.Common.{◌≡◌, ℕ, zero, suc, ◌+◌, ◌<◌, Bool, cond, [], ◌∷◌, ◌++◌, filter, refl, ap, ◌∙◌, arith}
use Rattle.std.specs.List.{range_with_len}
use Rattle.std.proofs.lemmas.List.Elements.{filter-append}
use Rattle.m17_lists.proofs.Ranges.{range_ends_in_its_last}

pub filter_more : (p : ℕ → Bool) (n : ℕ) → filter p (range_with_len 0 (suc n)) ≡ filter p (range_with_len 0 n) ++ cond (p n) (n ∷ []) []
filter_more p n =
    let at : 0 + n ≡ n = omega arith in
    ap (filter p) (range_ends_in_its_last 0 n)
    ∙ filter-append p (range_with_len 0 n) ((0 + n) ∷ [])
    ∙ ap (λ m. filter p (range_with_len 0 n) ++ cond (p m) (m ∷ []) []) at

pub filter_same : (p q : ℕ → Bool) (from n : ℕ) → ((i : ℕ) → i < from + n → p i ≡ q i) → filter p (range_with_len from n) ≡ filter q (range_with_len from n)
filter_same p q from zero h = refl
filter_same p q from (suc n) h =
    ap (λ b. cond b (from ∷ filter p (range_with_len (from + 1) n)) (filter p (range_with_len (from + 1) n))) (h from (omega arith))
    ∙ ap (λ xs. cond (q from) (from ∷ xs) xs) (filter_same p q (from + 1) n (λ i l. h i (omega arith)))
