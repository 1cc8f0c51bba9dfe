-- What pushes and refusals at the ends of a row come to, one lot after another and place by place.
use Rattle.std.proofs.Common.{◌≡◌, ℕ, zero, suc, ◌+◌, ◌<◌, ◌≤◌, List, [], ◌∷◌, ◌++◌, map, length, set, get_or, Some, sym, refl, ap, ◌∙◌, append_assoc, append-nil, arith}
use Rattle.std.proofs.lemmas.Option.{same_Some, none-some, slice_get_within, get_or_from_slice_get}
use Rattle.std.proofs.lemmas.List.Elements.{recursion_from_All}
use Rattle.std.specs.List.{AllByRecursion}
use Rattle.std.specs.Prelude.{slice_get, option_map}
use Rattle.m17_lane.specs.Ends.{PushEnd}
use Rattle.m17_lane.specs.Rows.{grows, grow_each, push_each, pushes, only, nowhere, IsNewPusher, as_new}
use Rattle.m17_lane.specs.RowsLaws.{RowsGrow}
use Rattle.m17_lane.proofs.Places.{only_here, only_else}

module _ {T : Type 0} where
  -- other lists of the same end
  lists : (p : PushEnd T) (xs xs' ys ys' : List T) → xs ≡ xs' → ys ≡ ys' → record p { pushed = xs; refused = ys } ≡ record p { pushed = xs'; refused = ys' }
  lists p xs xs' ys ys' e d = λ i. record p { pushed = e i; refused = d i }

  nothing : (p : PushEnd T) (xs ys : List T) → xs ≡ [] → ys ≡ [] → grows p xs ys ≡ p
  nothing p xs ys e d = lists p (p.pushed ++ xs) p.pushed (p.refused ++ ys) p.refused
      (ap (λ (l : List T). p.pushed ++ l) e ∙ append-nil p.pushed) (ap (λ (l : List T). p.refused ++ l) d ∙ append-nil p.refused)

  alike : (p : PushEnd T) (xs xs' ys ys' : List T) → xs ≡ xs' → ys ≡ ys' → grows p xs ys ≡ grows p xs' ys'
  alike p xs xs' ys ys' e d = λ i. grows p (e i) (d i)

  both : (p : PushEnd T) (xs ys us vs : List T) → grows (grows p xs ys) us vs ≡ grows p (xs ++ us) (ys ++ vs)
  both p xs ys us vs = lists p ((p.pushed ++ xs) ++ us) (p.pushed ++ (xs ++ us)) ((p.refused ++ ys) ++ vs) (p.refused ++ (ys ++ vs))
      (append_assoc p.pushed xs us) (append_assoc p.refused ys vs)

  none : (f g : ℕ → List T) (k : ℕ) (ps : List (PushEnd T)) → ((i : ℕ) → f i ≡ []) → ((i : ℕ) → g i ≡ []) → grow_each f g k ps ≡ ps
  none f g k [] h j = refl
  none f g k (p ∷ ps) h j = let first = nothing p (f k) (g k) (h k) (j k) in let rest = none f g (suc k) ps h j in λ i. first i ∷ rest i

  -- the lists of x alone at place n, pushed or got back
  abbrev At : (ℕ → List T) → ℕ → List T → Type 0
  At f n xs = ((i : ℕ) → i ≡ n → f i ≡ xs) × ((i : ℕ) → (i ≡ n → ⊥) → f i ≡ [])

  -- the place is before the first
  before : (f g : ℕ → List T) (n : ℕ) (xs ys : List T) (k : ℕ) (ps : List (PushEnd T)) → At f n xs → At g n ys → n < k → grow_each f g k ps ≡ ps
  before f g n xs ys k [] h j lt = refl
  before f g n xs ys k (p ∷ ps) h j lt =
      let first = nothing p (f k) (g k) (h.1 k (λ is. omega arith)) (j.1 k (λ is. omega arith)) in
      let rest = before f g n xs ys (suc k) ps h j (omega arith) in λ i. first i ∷ rest i

  pub placed : (f g : ℕ → List T) (n : ℕ) (xs ys : List T) (k : ℕ) (ps : List (PushEnd T)) (m : ℕ) (d : PushEnd T) → At f n xs → At g n ys → n ≡ k + m → m < length ps → set ps m (grows (get_or ps m d) xs ys) ≡ grow_each f g k ps
  placed f g n xs ys k [] m d h j is lt = absurd (omega arith)
  placed f g n xs ys k (p ∷ ps) zero d h j is lt =
      let first = alike p (f k) xs (g k) ys (h.0 k (omega arith)) (j.0 k (omega arith)) in
      let rest = before f g n xs ys (suc k) ps h j (omega arith) in λ i. sym first i ∷ sym rest i
  placed f g n xs ys k (p ∷ ps) (suc m) d h j is lt =
      let first = nothing p (f k) (g k) (h.1 k (λ e. omega arith)) (j.1 k (λ e. omega arith)) in
      let rest = placed f g n xs ys (suc k) ps m d h j (omega arith) (omega arith) in λ i. sym first i ∷ rest i

  pub here : (n : ℕ) (x : T) → At (only n x) n (x ∷ [])
  here n x = (only_here n x, only_else n x)

  pub none_here : (n : ℕ) → At nowhere n []
  none_here n = (λ i e. refl, λ i e. refl)

  at_place : (f g : ℕ → List T) (ps : List (PushEnd T)) (m : ℕ) (p : PushEnd T) (xs ys : List T) → At f m xs → At g m ys → slice_get ps m ≡ Some p → set ps m (grows p xs ys) ≡ grow_each f g 0 ps
  at_place f g ps m p xs ys h j e =
      let is : get_or ps m p ≡ p = get_or_from_slice_get ps m p p e in
      ap (λ (q : PushEnd T). set ps m (grows q xs ys)) (sym is)
      ∙ placed f g m xs ys 0 ps m p h j (omega arith) (slice_get_within ps m p e)

  twice : (f g f' g' : ℕ → List T) (k : ℕ) (ps : List (PushEnd T)) → grow_each f' g' k (grow_each f g k ps) ≡ grow_each (λ i. f i ++ f' i) (λ i. g i ++ g' i) k ps
  twice f g f' g' k [] = refl
  twice f g f' g' k (p ∷ ps) = let first = both p (f k) (g k) (f' k) (g' k) in let rest = twice f g f' g' (suc k) ps in λ i. first i ∷ rest i

  same_from : (f g f' g' : ℕ → List T) (k : ℕ) (ps : List (PushEnd T)) → ((i : ℕ) → k ≤ i → i < k + length ps → f i ≡ f' i) → ((i : ℕ) → k ≤ i → i < k + length ps → g i ≡ g' i) → grow_each f g k ps ≡ grow_each f' g' k ps
  same_from f g f' g' k [] h j = refl
  same_from f g f' g' k (p ∷ ps) h j =
      let first = alike p (f k) (f' k) (g k) (g' k) (h k (omega arith) (omega arith)) (j k (omega arith) (omega arith)) in
      let rest = same_from f g f' g' (suc k) ps (λ i low high. h i (omega arith) (omega arith)) (λ i low high. j i (omega arith) (omega arith)) in
      λ i. first i ∷ rest i

  same : (f g f' g' : ℕ → List T) (ps : List (PushEnd T)) → ((i : ℕ) → i < length ps → f i ≡ f' i) → ((i : ℕ) → i < length ps → g i ≡ g' i) → grow_each f g 0 ps ≡ grow_each f' g' 0 ps
  same f g f' g' ps h j = same_from f g f' g' 0 ps (λ i low high. h i (omega arith)) (λ i low high. j i (omega arith))

  count : (f g : ℕ → List T) (k : ℕ) (ps : List (PushEnd T)) → length (grow_each f g k ps) ≡ length ps
  count f g k [] = refl
  count f g k (p ∷ ps) = ap suc (count f g (suc k) ps)

  at_from : (f g : ℕ → List T) (k : ℕ) (ps : List (PushEnd T)) (m n : ℕ) → n ≡ k + m → slice_get (grow_each f g k ps) m ≡ option_map (λ p. grows p (f n) (g n)) (slice_get ps m)
  at_from f g k [] m n is = refl
  at_from f g k (p ∷ ps) zero n is = let e : k ≡ n = omega arith in ap (λ (j : ℕ). Some (grows p (f j) (g j))) e
  at_from f g k (p ∷ ps) (suc m) n is = at_from f g (suc k) ps m n (omega arith)

  kept : (f g : ℕ → List T) (k : ℕ) (ps : List (PushEnd T)) → map as_new (grow_each f g k ps) ≡ map as_new ps
  kept f g k [] = refl
  kept f g k (p ∷ ps) = ap (λ (l : List (PushEnd T)). as_new p ∷ l) (kept f g (suc k) ps)

  pushed_alone : (f : ℕ → List T) (k : ℕ) (ps : List (PushEnd T)) → grow_each f nowhere k ps ≡ push_each f k ps
  pushed_alone f k [] = refl
  pushed_alone f k (p ∷ ps) =
      let first : grows p (f k) [] ≡ pushes p (f k) = ap (λ (l : List T). record p { pushed = p.pushed ++ f k; refused = l }) (append-nil p.refused) in
      let rest = pushed_alone f (suc k) ps in λ i. first i ∷ rest i

  new_from : (f g : ℕ → List T) (k : ℕ) (ps : List (PushEnd T)) (m n : ℕ) (q : PushEnd T) → AllByRecursion IsNewPusher ps → n ≡ k + m → slice_get (grow_each f g k ps) m ≡ Some q → (q.pushed ≡ f n) × (q.refused ≡ g n)
  new_from f g k [] m n q h is e = absurd (none-some q e)
  new_from f g k (p ∷ ps) zero n q h is e =
      let at : k ≡ n = omega arith in let same = same_Some (grows p (f k) (g k)) q e in (
        sym (ap (λ (r : PushEnd T). r.pushed) same) ∙ ap (λ (l : List T). l ++ f k) h.0.0 ∙ ap f at,
        sym (ap (λ (r : PushEnd T). r.refused) same) ∙ ap (λ (l : List T). l ++ g k) h.0.1 ∙ ap g at,
      )
  new_from f g k (p ∷ ps) (suc m) n q h is e = new_from f g (suc k) ps m n q h.1 (omega arith) e

  pub law : RowsGrow T
  law = record {
    none = none;
    one = λ ps m p x e. at_place (only m x) nowhere ps m p (x ∷ []) [] (here m x) (none_here m) e;
    one_back = λ ps m p x e. at_place nowhere (only m x) ps m p [] (x ∷ []) (none_here m) (here m x) e;
    twice = twice;
    same = same;
    count = count;
    at = λ f g ps m. at_from f g 0 ps m m (omega arith);
    kept = kept;
    from_new = λ f g ps m q h e. new_from f g 0 ps m m q (recursion_from_All IsNewPusher ps h) (omega arith) e;
    pushed_alone = pushed_alone;
  }
