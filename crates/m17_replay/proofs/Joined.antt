-- Texts that are appended one after another are one text behind what stood there.
use Rattle.std.proofs.Common.{◌≡◌, ◌∙◌, ℕ, List, ◌++◌, refl, ap, append_assoc}

-- two pieces behind what stood there
pub two_joined : (l m n a b : List ℕ) → m ≡ l ++ a → n ≡ m ++ b → n ≡ l ++ (a ++ b)
two_joined l m n a b e f = f ∙ ap (λ x. x ++ b) e ∙ append_assoc l a b

-- six pieces behind what stood there
pub six_joined : (l a b c d e f : List ℕ)
    → l ++ a ++ b ++ c ++ d ++ e ++ f ≡ l ++ (a ++ b ++ c ++ d ++ e ++ f)
six_joined l a b c d e f = simp append_assoc refl
