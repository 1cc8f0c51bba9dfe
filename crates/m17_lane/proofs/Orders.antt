-- The order of a finished lane as one interleaving of what its pushers pushed.
use Rattle.std.proofs.Common.{◌≡◌, ℕ, zero, suc, ◌+◌, ◌<◌, List, [], ◌∷◌, map, length, All, Some, sym, subst, refl, ap, ◌∙◌, arith}
use Rattle.std.proofs.lemmas.Option.{same_Some, none-some}
use Rattle.std.specs.Prelude.{slice_get}
use Rattle.m17_lane.specs.Ends.{PushEnd, logs_of}
use Rattle.m17_lane.specs.Laws.{OrderIsAShuffle}
use Rattle.m17_lane.specs.Orders.{items_of, picked, EachRow, IsShuffle}
use Rattle.m17_lane.specs.GridLaws.{OrderIsInterleaving}

module _ {T : Type 0} where
  each_told : (f : T → ℕ) (k : ℕ) (row : List (PushEnd T)) → ((i j : ℕ) (q : PushEnd T) → j ≡ k + i → slice_get row i ≡ Some q → All (λ x. f x ≡ j) q.pushed) → EachRow (λ k l. All (λ x. f x ≡ k) l) k (logs_of row)
  each_told f k [] h = tt
  each_told f k (q ∷ row) h = (h 0 k q (omega arith) refl, each_told f (suc k) row (λ i j r is e. h (suc i) j r (omega arith) e))

  parts_at : (f : T → ℕ) (order : List T) (k : ℕ) (row : List (PushEnd T)) → EachRow (λ k l. l ≡ picked f k order) k (logs_of row) → (i j : ℕ) (l : List T) → j ≡ k + i → slice_get (map (λ (q : PushEnd T). q.pushed) row) i ≡ Some l → l ≡ picked f j order
  parts_at f order k [] h i j l is e = absurd (none-some l e)
  parts_at f order k (q ∷ row) h zero j l is e =
      let at : k ≡ j = omega arith in sym (same_Some q.pushed l e) ∙ h.0 ∙ ap (λ (n : ℕ). picked f n order) at
  parts_at f order k (q ∷ row) h (suc i) j l is e = parts_at f order (suc k) row h.1 i j l (omega arith) e

  logs_count : (row : List (PushEnd T)) → length (logs_of row) ≡ length (map (λ (q : PushEnd T). q.pushed) row)
  logs_count [] = refl
  logs_count (q ∷ row) = ap suc (logs_count row)

  pub interleaving : OrderIsAShuffle T → OrderIsInterleaving T
  interleaving law f row p t h tells =
      let shuffle : IsShuffle (logs_of row) t.order = subst (λ logs. IsShuffle logs t.order) h.logs h.whole.1.shuffle in
      let both = law (logs_of row) t.order shuffle f
      (each_told f 0 row (λ i j q is e. let at : i ≡ j = omega arith in subst (λ (n : ℕ). All (λ x. f x ≡ n) q.pushed) at (tells i q e))) in
      record {
        parts = λ i l e. parts_at f (items_of t.order) 0 row both.0 i i l (omega arith) e;
        known = subst (λ (n : ℕ). All (λ x. f x < n) (items_of t.order)) (logs_count row) both.1;
      }
