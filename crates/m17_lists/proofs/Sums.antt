-- How many of a list pass a test.
use Rattle.std.proofs.Common.{◌≡◌, ◌+◌, Bool, cond, List, [], ◌∷◌, ◌++◌, arith, count_by}
use Rattle.std.proofs.lemmas.List.Sums.{sum_by-append}

module _ {A : Type 0} where
  pub count_of_both : (test : A → Bool) (xs ys : List A) → count_by test (xs ++ ys) ≡ count_by test xs + count_by test ys
  count_of_both test xs ys = sum_by-append (λ x. cond (test x) 1 0) xs ys

  pub count_of_one : (test : A → Bool) (x : A) → count_by test (x ∷ []) ≡ cond (test x) 1 0
  count_of_one test x = omega arith
