-- What pushes at the ends of a row come to, one lot after another and place by place.
use Rattle.std.proofs.Common.{◌≡◌, ℕ, zero, suc, ◌+◌, ◌<◌, ◌≤◌, List, [], ◌∷◌, ◌++◌, map, length, set, get_or, Some, sym, refl, ap, ◌∙◌, append_assoc, append-nil, arith}
use Rattle.std.proofs.lemmas.Option.{same_Some, none-some, slice_get_within, get_or_from_slice_get}
use Rattle.std.proofs.lemmas.List.Elements.{recursion_from_All}
use Rattle.std.specs.List.{AllByRecursion}
use Rattle.std.specs.Prelude.{slice_get, option_map}
use Rattle.m17_lane.specs.Ends.{PushEnd}
use Rattle.m17_lane.specs.Rows.{pushes, push_each, only, IsNewPusher, as_new}
use Rattle.m17_lane.specs.RowsLaws.{RowsPush}
use Rattle.m17_lane.proofs.Places.{only_here, only_else}

module _ {T : Type 0} where
  pub nothing : (p : PushEnd T) (xs : List T) → xs ≡ [] → pushes p xs ≡ p
  nothing p xs e = ap (λ (l : List T). record p { pushed = p.pushed ++ l }) e ∙ ap (λ (l : List T). record p { pushed = l }) (append-nil p.pushed)

  pub both : (p : PushEnd T) (xs ys : List T) → pushes (pushes p xs) ys ≡ pushes p (xs ++ ys)
  both p xs ys = ap (λ (l : List T). record p { pushed = l }) (append_assoc p.pushed xs ys)

  pub none : (f : ℕ → List T) (k : ℕ) (ps : List (PushEnd T)) → ((i : ℕ) → f i ≡ []) → push_each f k ps ≡ ps
  none f k [] h = refl
  none f k (p ∷ ps) h = let first = nothing p (f k) (h k) in let rest = none f (suc k) ps h in λ i. first i ∷ rest i

  -- the place is before the first
  pub before : (n : ℕ) (x : T) (k : ℕ) (ps : List (PushEnd T)) → n < k → push_each (only n x) k ps ≡ ps
  before n x k [] lt = refl
  before n x k (p ∷ ps) lt =
      let first = nothing p (only n x k) (only_else n x k (λ is. omega arith)) in
      let rest = before n x (suc k) ps (omega arith) in λ i. first i ∷ rest i

  pub placed : (n : ℕ) (x : T) (k : ℕ) (ps : List (PushEnd T)) (m : ℕ) (d : PushEnd T) → n ≡ k + m → m < length ps → set ps m (pushes (get_or ps m d) (x ∷ [])) ≡ push_each (only n x) k ps
  placed n x k [] m d is lt = absurd (omega arith)
  placed n x k (p ∷ ps) zero d is lt =
      let first = ap (λ (l : List T). pushes p l) (only_here n x k (omega arith)) in
      let rest = before n x (suc k) ps (omega arith) in λ i. sym first i ∷ sym rest i
  placed n x k (p ∷ ps) (suc m) d is lt =
      let first = nothing p (only n x k) (only_else n x k (λ e. omega arith)) in
      let rest = placed n x (suc k) ps m d (omega arith) (omega arith) in λ i. sym first i ∷ rest i

  one : (ps : List (PushEnd T)) (m : ℕ) (p : PushEnd T) (x : T) → slice_get ps m ≡ Some p → set ps m (pushes p (x ∷ [])) ≡ push_each (only m x) 0 ps
  one ps m p x e =
      let is : get_or ps m p ≡ p = get_or_from_slice_get ps m p p e in
      ap (λ (q : PushEnd T). set ps m (pushes q (x ∷ []))) (sym is)
      ∙ placed m x 0 ps m p (omega arith) (slice_get_within ps m p e)

  pub twice : (f g : ℕ → List T) (k : ℕ) (ps : List (PushEnd T)) → push_each g k (push_each f k ps) ≡ push_each (λ i. f i ++ g i) k ps
  twice f g k [] = refl
  twice f g k (p ∷ ps) = let first = both p (f k) (g k) in let rest = twice f g (suc k) ps in λ i. first i ∷ rest i

  pub same_from : (f g : ℕ → List T) (k : ℕ) (ps : List (PushEnd T)) → ((i : ℕ) → k ≤ i → i < k + length ps → f i ≡ g i) → push_each f k ps ≡ push_each g k ps
  same_from f g k [] h = refl
  same_from f g k (p ∷ ps) h =
      let first = ap (λ (l : List T). pushes p l) (h k (omega arith) (omega arith)) in
      let rest = same_from f g (suc k) ps (λ i low high. h i (omega arith) (omega arith)) in λ i. first i ∷ rest i

  same : (f g : ℕ → List T) (ps : List (PushEnd T)) → ((i : ℕ) → i < length ps → f i ≡ g i) → push_each f 0 ps ≡ push_each g 0 ps
  same f g ps h = same_from f g 0 ps (λ i low high. h i (omega arith))

  count : (f : ℕ → List T) (k : ℕ) (ps : List (PushEnd T)) → length (push_each f k ps) ≡ length ps
  count f k [] = refl
  count f k (p ∷ ps) = ap suc (count f (suc k) ps)

  at_from : (f : ℕ → List T) (k : ℕ) (ps : List (PushEnd T)) (m n : ℕ) → n ≡ k + m → slice_get (push_each f k ps) m ≡ option_map (λ p. pushes p (f n)) (slice_get ps m)
  at_from f k [] m n is = refl
  at_from f k (p ∷ ps) zero n is = let e : k ≡ n = omega arith in ap (λ (j : ℕ). Some (pushes p (f j))) e
  at_from f k (p ∷ ps) (suc m) n is = at_from f (suc k) ps m n (omega arith)

  kept : (f : ℕ → List T) (k : ℕ) (ps : List (PushEnd T)) → map as_new (push_each f k ps) ≡ map as_new ps
  kept f k [] = refl
  kept f k (p ∷ ps) = ap (λ (l : List (PushEnd T)). as_new p ∷ l) (kept f (suc k) ps)

  new_from : (f : ℕ → List T) (k : ℕ) (ps : List (PushEnd T)) (m n : ℕ) (q : PushEnd T) → AllByRecursion IsNewPusher ps → n ≡ k + m → slice_get (push_each f k ps) m ≡ Some q → q.pushed ≡ f n
  new_from f k [] m n q h is e = absurd (none-some q e)
  new_from f k (p ∷ ps) zero n q h is e =
      let at : k ≡ n = omega arith in
      sym (ap (λ (r : PushEnd T). r.pushed) (same_Some (pushes p (f k)) q e)) ∙ ap (λ (l : List T). l ++ f k) h.0.0 ∙ ap f at
  new_from f k (p ∷ ps) (suc m) n q h is e = new_from f (suc k) ps m n q h.1 (omega arith) e

  by_place : (f : ℕ → List T) (k : ℕ) (ps qs : List (PushEnd T)) → length qs ≡ length ps → ((m n : ℕ) (p q : PushEnd T) → n ≡ k + m → slice_get ps m ≡ Some p → slice_get qs m ≡ Some q → q ≡ pushes p (f n)) → qs ≡ push_each f k ps
  by_place f k [] [] long h = refl
  by_place f k [] (q ∷ qs) long h = absurd (omega arith)
  by_place f k (p ∷ ps) [] long h = absurd (omega arith)
  by_place f k (p ∷ ps) (q ∷ qs) long h =
      let first = h 0 k p q (omega arith) refl refl in
      let rest = by_place f (suc k) ps qs (omega arith) (λ m n r s is e d. h (suc m) n r s (omega arith) e d) in λ i. first i ∷ rest i

  pub law : RowsPush T
  law = record {
    none = none;
    one = one;
    twice = twice;
    same = same;
    count = count;
    at = λ f ps m. at_from f 0 ps m m (omega arith);
    by_place = λ f ps qs long h. by_place f 0 ps qs long (λ m n p q is e d. let at : m ≡ n = omega arith in h m p q e d ∙ ap (λ (j : ℕ). pushes p (f j)) at);
    kept = kept;
    from_new = λ f ps m q h e. new_from f 0 ps m m q (recursion_from_All IsNewPusher ps h) (omega arith) e;
  }
