-- Addresses are ordered as the numbers are that their bytes spell, the first byte the greatest.
use Rattle.std.proofs.Common.{◌≡◌, ℕ, suc, ◌+◌, ◌*◌, ◌/◌, ◌%◌, ◌^◌, ◌<◌, List, [], ◌∷◌, length, get_or, Ordering, Less, Equal, Greater, nat_cmp, refl, sym, ap, ◌∙◌, arith}
use Rattle.std.proofs.lemmas.Bool.Decides.{nat_tests}
use Rattle.std.specs.Cmp.{ranks, nat_cmp_is}
use Rattle.std.specs.Cmp.Lexicographic.{slice_cmp}
use Rattle.std.specs.Int.{w128, from_be_bytes}
use Rattle.std.specs.Ordering.{MatchOrdering, ordering_then}
use Rattle.std.specs.Slice.Scan.{big_endian}

abbrev AreBytes : List ℕ → Type 0
AreBytes xs = (k : ℕ) → get_or xs k 0 < 256

-- after a smaller number bytes spell a smaller one
smaller : (a b : ℕ) (xs ys : List ℕ) → length xs ≡ length ys → AreBytes xs → a < b
    → big_endian a xs < big_endian b ys
smaller a b [] [] long bytes less = less
smaller a b [] (y ∷ ys) long bytes less = absurd (omega arith)
smaller a b (x ∷ xs) [] long bytes less = absurd (omega arith)
smaller a b (x ∷ xs) (y ∷ ys) long bytes less =
    let byte : x < 256 = bytes 0 in
    smaller (a * 256 + x) (b * 256 + y) xs ys (omega arith) (λ k. bytes (suc k)) (omega arith)

ordered : (a : ℕ) (xs ys : List ℕ) → length xs ≡ length ys → AreBytes xs → AreBytes ys
    → nat_cmp (big_endian a xs) (big_endian a ys) ≡ slice_cmp nat_cmp xs ys
ordered a [] [] long left right = sym (nat_cmp_is a a Equal refl)
ordered a [] (y ∷ ys) long left right = absurd (omega arith)
ordered a (x ∷ xs) [] long left right = absurd (omega arith)
ordered a (x ∷ xs) (y ∷ ys) long left right =
    by (ordered (a * 256 + x) xs ys (omega arith) (λ k. left (suc k)) (λ k. right (suc k)))
    (nat_cmp x y) refl (ranks x y)
  where
    by : nat_cmp (big_endian (a * 256 + x) xs) (big_endian (a * 256 + x) ys) ≡ slice_cmp nat_cmp xs ys
        → (r : Ordering) → nat_cmp x y ≡ r → MatchOrdering r (x < y) (x ≡ y) (y < x)
        → nat_cmp (big_endian (a * 256 + x) xs) (big_endian (a * 256 + y) ys)
        ≡ ordering_then (nat_cmp x y) (slice_cmp nat_cmp xs ys)
    by rest Less e less =
        let l : x < y = less in
        let s = smaller (a * 256 + x) (a * 256 + y) xs ys (omega arith) (λ k. left (suc k)) (omega arith) in
        sym (nat_cmp_is _ _ Less s) ∙ ap (λ r. ordering_then r (slice_cmp nat_cmp xs ys)) (sym e)
    by rest Equal e same =
        let s : x ≡ y = same in
        ap (λ z. nat_cmp (big_endian (a * 256 + x) xs) (big_endian (a * 256 + z) ys)) (sym s)
        ∙ rest ∙ ap (λ r. ordering_then r (slice_cmp nat_cmp xs ys)) (sym e)
    by rest Greater e greater =
        let g : y < x = greater in
        let s = smaller (a * 256 + y) (a * 256 + x) ys xs (omega arith) (λ k. right (suc k)) (omega arith) in
        sym (nat_cmp_is _ _ Greater s) ∙ ap (λ r. ordering_then r (slice_cmp nat_cmp xs ys)) (sym e)

-- sixteen bytes spell what std says
spelled : (xs : List ℕ) → length xs ≡ 16 → from_be_bytes w128 xs ≡ big_endian 0 xs
spelled (a ∷ b ∷ c ∷ d ∷ e ∷ f ∷ g ∷ h ∷ i ∷ j ∷ k ∷ l ∷ m ∷ n ∷ o ∷ p ∷ []) long = omega arith
spelled _ long = absurd (omega arith)

pub spelled_order : (xs ys : List ℕ) → length xs ≡ 16 → length ys ≡ 16 → AreBytes xs → AreBytes ys
    → nat_cmp (from_be_bytes w128 xs) (from_be_bytes w128 ys) ≡ slice_cmp nat_cmp xs ys
spelled_order xs ys xs_long ys_long left right =
    (λ i. nat_cmp (spelled xs xs_long i) (spelled ys ys_long i)) ∙ ordered 0 xs ys (omega arith) left right

-- two numbers are ordered as their upper halves are, and where these are one, as the lower halves are
pub upper_order : (n m : ℕ) → (n / 2 ^ 64 ≡ m / 2 ^ 64 → ⊥) → nat_cmp (n / 2 ^ 64) (m / 2 ^ 64) ≡ nat_cmp n m
upper_order n m apart = grind (arith, nat_tests)

pub lower_order : (n m : ℕ) → n / 2 ^ 64 ≡ m / 2 ^ 64 → nat_cmp (n % 2 ^ 64) (m % 2 ^ 64) ≡ nat_cmp n m
lower_order n m same = grind (arith, nat_tests)
