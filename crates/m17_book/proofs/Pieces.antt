-- Lists joined from pieces of known lengths.
use Rattle.std.proofs.Common.{◌≡◌, ℕ, List, [], ◌∷◌, ◌++◌, length, get_or, refl, sym, ap, ◌∙◌, arith}
use Rattle.std.proofs.Math.Seq.{get_or-append_seam}

same_tail : (x y : ℕ) (xs ys : List ℕ) → x ∷ xs ≡ y ∷ ys → xs ≡ ys
same_tail x y xs ys e = cc

same_head : (x y : ℕ) (xs ys : List ℕ) → x ∷ xs ≡ y ∷ ys → x ≡ y
same_head x y xs ys e = cc

pub cons_parts : (x y : ℕ) (xs ys : List ℕ) → x ∷ xs ≡ y ∷ ys → (x ≡ y) × (xs ≡ ys)
cons_parts x y xs ys e = (same_head x y xs ys e, same_tail x y xs ys e)

-- front pieces of one length are the same, and so is the rest
pub parts : (p q s t : List ℕ) → length p ≡ length q → p ++ s ≡ q ++ t → (p ≡ q) × (s ≡ t)
parts [] [] s t l e = (refl, e)
parts [] (y ∷ q) s t l e = absurd (omega arith)
parts (x ∷ p) [] s t l e = absurd (omega arith)
parts (x ∷ p) (y ∷ q) s t l e =
    let h = cons_parts x y (p ++ s) (q ++ t) e in
    let r = parts p q s t (omega arith) h.1 in
    (ap (λ k. k ∷ p) h.0 ∙ ap (λ ks. y ∷ ks) r.0, r.1)

-- what stands behind a piece
pub behind : (b p s : List ℕ) (x i : ℕ) → b ≡ p ++ x ∷ s → length p ≡ i → get_or b i 0 ≡ x
behind b p s x i e l = ap (λ k. get_or b k 0) (sym l) ∙ ap (λ xs. get_or xs (length p) 0) e ∙ get_or-append_seam p x s 0
