-- The parts of 54 bytes, and the bytes from their parts.
use Rattle.std.proofs.Common.{◌≡◌, ℕ, ◌+◌, List, [], ◌++◌, length, take, drop, refl, sym, ap, ◌∙◌, arith}
use Rattle.std.proofs.lemmas.List.{append_assoc, take_all, take_at, drop_at, length-append}
use Rattle.std.proofs.Math.Seq.{take-add}

-- the five parts before the CRC, joined
pub front_from_parts : (m s l f y b : List ℕ) → take 4 b ≡ m → s ≡ take 2 (drop 4 b) → l ≡ take 28 (drop 6 b)
    → f ≡ take 2 (drop 34 b) → y ≡ take 16 (drop 36 b) → m ++ s ++ l ++ f ++ y ≡ take 52 b
front_from_parts m s l f y b em es el ef ey =
    let a = take-add 4 2 b in
    let c = take-add 6 28 b in
    let d = take-add 34 2 b in
    let e = take-add 36 16 b in
    cc

-- the parts of what is joined of parts of these lengths
pub record Parts (m s l f y c b : List ℕ) : Type 0 where
  pub magic : take 4 b ≡ m
  pub sid : take 2 (drop 4 b) ≡ s
  pub lsd : take 28 (drop 6 b) ≡ l
  pub field : take 2 (drop 34 b) ≡ f
  pub payload : take 16 (drop 36 b) ≡ y
  pub front : take 52 b ≡ m ++ s ++ l ++ f ++ y
  pub crc : drop 52 b ≡ c
  pub whole : length b ≡ 52 + length c

-- the part after a front of n
part_at : (a x r b : List ℕ) (n k : ℕ) → b ≡ a ++ x ++ r → length a ≡ n → length x ≡ k → take k (drop n b) ≡ x
part_at a x r b n k e la lx =
    ap (λ z. take k (drop n z)) (e ∙ append_assoc a x r) ∙ ap (take k) (drop_at a (x ++ r) n la) ∙ take_at x r k lx

pub parts_of : (m s l f y c b : List ℕ) → length m ≡ 4 → length s ≡ 2 → length l ≡ 28 → length f ≡ 2 → length y ≡ 16
    → b ≡ (m ++ s ++ l ++ f ++ y) ++ c → Parts m s l f y c b
parts_of m s l f y c b lm ls ll lf ly e =
    let lms : length (m ++ s) ≡ 6 = omega (arith, length-append m s) in
    let lmsl : length (m ++ s ++ l) ≡ 34 = omega (arith, length-append (m ++ s) l) in
    let lmslf : length (m ++ s ++ l ++ f) ≡ 36 = omega (arith, length-append (m ++ s ++ l) f) in
    let lfront : length (m ++ s ++ l ++ f ++ y) ≡ 52 = omega (arith, length-append (m ++ s ++ l ++ f) y) in
    record {
      magic = part_at [] m (s ++ (l ++ (f ++ (y ++ c)))) b 0 4 (e ∙ simp append_assoc) refl lm;
      sid = part_at m s (l ++ (f ++ (y ++ c))) b 4 2 (e ∙ simp append_assoc) lm ls;
      lsd = part_at (m ++ s) l (f ++ (y ++ c)) b 6 28 (e ∙ simp append_assoc) lms ll;
      field = part_at (m ++ s ++ l) f (y ++ c) b 34 2 (e ∙ simp append_assoc) lmsl lf;
      payload = part_at (m ++ s ++ l ++ f) y c b 36 16 e lmslf ly;
      front = ap (take 52) e ∙ take_at (m ++ s ++ l ++ f ++ y) c 52 lfront;
      crc = ap (drop 52) e ∙ drop_at (m ++ s ++ l ++ f ++ y) c 52 lfront;
      whole = omega (arith, ap length e, length-append (m ++ s ++ l ++ f ++ y) c, lfront);
    }

-- the front that was written part by part, and what is written after it
pub written : (m s l f y c b₁ b₂ b₃ b₄ b₅ b₆ : List ℕ) → length m ≡ 4 → length s ≡ 2 → length l ≡ 28 → length f ≡ 2 → length y ≡ 16 → length c ≡ 2
    → length b₆ ≡ 54
    → take (0 + length m) b₁ ≡ m → take (4 + length s) b₂ ≡ take 4 b₁ ++ s → take (6 + length l) b₃ ≡ take 6 b₂ ++ l
    → take (34 + length f) b₄ ≡ take 34 b₃ ++ f → take (36 + length y) b₅ ≡ take 36 b₄ ++ y → take (52 + length c) b₆ ≡ take 52 b₅ ++ c
    → (take 52 b₅ ≡ m ++ s ++ l ++ f ++ y) × (b₆ ≡ take 52 b₅ ++ c)
written m s l f y c b₁ b₂ b₃ b₄ b₅ b₆ lm ls ll lf ly lc l₆ h₁ h₂ h₃ h₄ h₅ h₆ =
    let e₁ : take 4 b₁ ≡ m = ap (λ n. take (0 + n) b₁) (sym lm) ∙ h₁ in
    let e₂ : take 6 b₂ ≡ take 4 b₁ ++ s = ap (λ n. take (4 + n) b₂) (sym ls) ∙ h₂ in
    let e₃ : take 34 b₃ ≡ take 6 b₂ ++ l = ap (λ n. take (6 + n) b₃) (sym ll) ∙ h₃ in
    let e₄ : take 36 b₄ ≡ take 34 b₃ ++ f = ap (λ n. take (34 + n) b₄) (sym lf) ∙ h₄ in
    let e₅ : take 52 b₅ ≡ take 36 b₄ ++ y = ap (λ n. take (36 + n) b₅) (sym ly) ∙ h₅ in
    let e₆ : take 54 b₆ ≡ take 52 b₅ ++ c = ap (λ n. take (52 + n) b₆) (sym lc) ∙ h₆ in
    let whole : take 54 b₆ ≡ b₆ = take_all 54 b₆ (omega arith) in
    (cc, sym whole ∙ e₆)
