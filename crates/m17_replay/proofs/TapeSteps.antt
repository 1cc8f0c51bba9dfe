-- Tapes, one by one.
use Rattle.std.proofs.Common.{◌≡◌, ℕ, zero, suc, ◌+◌, ◌<◌, ◌≤◌, true, false, cond, List, [], ◌∷◌, length, map, is_some, Option, None, Some, refl, ap, ◌∙◌, arith}
use Rattle.std.specs.Prelude.{slice_get, count_by}
use Rattle.std.specs.List.{range_with_len}
use Rattle.std.proofs.lemmas.List.Sums.{sum_by-cons}
use Rattle.std.proofs.lemmas.List.FromFn.{get_or-map-range_with_len, length-map-range_with_len}
use Rattle.std.proofs.lemmas.Option.{same_Some, slice_get-get_or}
use Rattle.m17_directory.specs.declared.verdict.LinkVerdict.{LinkVerdict}
use Rattle.m17_replay.specs.Tapes.{IsFilledInOrder, verdicts_on}

-- Cells that are filled up to a number, and empty behind it.
none_behind : (tape : List (Option LinkVerdict)) → ((i : ℕ) → i < length tape → slice_get tape i ≡ Some None) → verdicts_on tape ≡ []
none_behind [] empty = refl
none_behind (None ∷ tape) empty = none_behind tape (λ i lt. empty (suc i) (omega arith))
none_behind (Some v ∷ tape) empty = absurd (let wrong : Some v ≡ None = same_Some (Some v) None (empty 0 (omega arith)) in cc)

pub in_order : (n : ℕ) (tape : List (Option LinkVerdict)) → ((i : ℕ) → i < n → (v : LinkVerdict) × (slice_get tape i ≡ Some (Some v))) → ((i : ℕ) → n ≤ i → i < length tape → slice_get tape i ≡ Some None) → IsFilledInOrder tape
in_order n [] filled empty = tt
in_order zero (None ∷ tape) filled empty = none_behind tape (λ i lt. empty (suc i) (omega arith) (omega arith))
in_order zero (Some v ∷ tape) filled empty = absurd (let wrong : Some v ≡ None = same_Some (Some v) None (empty 0 (omega arith) (omega arith)) in cc)
in_order (suc n) (None ∷ tape) filled empty =
    let (v, at) = filled 0 (omega arith) in
    absurd (let wrong : None ≡ Some v = same_Some None (Some v) at in cc)
in_order (suc n) (Some v ∷ tape) filled empty = in_order n tape (λ i lt. filled (suc i) (omega arith)) (λ i le lt. empty (suc i) (omega arith) (omega arith))

-- In such a tape the verdicts stand in the first cells.
pub first_cells : (tape : List (Option LinkVerdict)) → IsFilledInOrder tape → (n : ℕ) → n < length (verdicts_on tape) → (v : LinkVerdict) × (slice_get tape n ≡ Some (Some v)) × (slice_get (verdicts_on tape) n ≡ Some v)
first_cells [] in_it n lt = absurd (omega arith)
first_cells (None ∷ tape) in_it n lt = absurd (omega (arith, ap length in_it))
first_cells (Some v ∷ tape) in_it zero lt = (v, refl, refl)
first_cells (Some v ∷ tape) in_it (suc n) lt = first_cells tape in_it n (omega arith)

-- so many cells have one
pub filled_count : (tape : List (Option LinkVerdict)) → count_by (λ (cell : Option LinkVerdict). is_some cell) tape ≡ length (verdicts_on tape)
filled_count [] = refl
filled_count (None ∷ tape) = omega (arith, filled_count tape, sum_by-cons (λ (cell : Option LinkVerdict). cond (is_some cell) 1 0) None tape)
filled_count (Some v ∷ tape) = omega (arith, filled_count tape, sum_by-cons (λ (cell : Option LinkVerdict). cond (is_some cell) 1 0) (Some v) tape)

-- what a function of the numbers of a range has for a number
pub range_there : {A : Type 0} (f : ℕ → A) (n count : ℕ) → n < count → slice_get (map f (range_with_len 0 count)) n ≡ Some (f n)
range_there f n count lt =
    let all = map f (range_with_len 0 count) in
    slice_get-get_or all n (f n) (omega (arith, length-map-range_with_len f 0 count))
    ∙ ap Some (get_or-map-range_with_len f 0 count n n (f n) lt (omega arith))
