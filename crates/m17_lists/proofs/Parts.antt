-- Parts of lists: what is taken from a place on, and the front of two lists that stand one behind the other.
use Rattle.std.proofs.Common.{◌≡◌, ℕ, zero, suc, ◌+◌, ◌≤◌, List, [], ◌∷◌, ◌++◌, length, take, drop, min, Option, Some, sym, ap, ◌∙◌, append_assoc, append-nil, arith}
use Rattle.std.proofs.Math.Seq.{take-append-add}
use Rattle.std.proofs.lemmas.List.{length-take-le, length-drop, take-append-le, take_min}

module _ {A : Type 0} where
  pub part_is_as_long : (n k : ℕ) (xs : List A) → n + k ≤ length xs → length (take k (drop n xs)) ≡ k
  part_is_as_long n k xs h = length-take-le k (drop n xs) (omega (arith, length-drop n xs))

  pub front_goes_past : (n k : ℕ) (xs ys : List A) → k ≡ length xs + n → take k (xs ++ ys) ≡ xs ++ take n ys
  front_goes_past n k [] ys e = let same : k ≡ n = omega arith in ap (λ m. take m ys) same
  front_goes_past n zero (x ∷ xs) ys e = absurd (omega arith)
  front_goes_past n (suc k) (x ∷ xs) ys e = ap (λ (zs : List A). x ∷ zs) (front_goes_past n k xs ys (omega arith))

  -- all of one list, and of the next so many, or all
  pub front_goes_into : (xs ys rest : List A) (n : ℕ) → take (length xs + min n (length ys)) ((xs ++ ys) ++ rest) ≡ xs ++ take n ys
  front_goes_into xs ys rest n =
      ap (take (length xs + min n (length ys))) (append_assoc xs ys rest) ∙ take-append-add xs (ys ++ rest) (min n (length ys))
      ∙ ap (λ (zs : List A). xs ++ zs) (take-append-le (min n (length ys)) ys rest (omega arith) ∙ take_min n ys)

  pub nothing_more_is_as_before : (first written : Option (List A)) (before : List A) → written ≡ first → first ≡ Some before
      → written ≡ Some (before ++ [])
  nothing_more_is_as_before first written before same e = same ∙ e ∙ ap Some (sym (append-nil before))
