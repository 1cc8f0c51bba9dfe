-- How the ends of a board are made, one pair after another.
use Rattle.std.proofs.Common.{◌≡◌, ℕ, suc, ◌+◌, List, [], ◌∷◌, ◌++◌, length, sym, ap, ◌∙◌, subst, arith}
use Rattle.std.specs.List.{AllZip}
use Rattle.m17_board.specs.Ends.{PostEnd, EyeEnd, IsNewPair, IsPair, NewPairs}

pub one_more : (from : ℕ) (ps : List PostEnd) (es : List EyeEnd) (m : ℕ) (p : PostEnd) (e : EyeEnd) → NewPairs from ps es → length ps + from ≡ m → IsNewPair m p e
    → NewPairs from (ps ++ p ∷ []) (es ++ e ∷ [])
one_more from [] [] m p e h long new = let same : m ≡ from = omega arith in (subst (λ n. IsNewPair n p e) same new, tt)
one_more from [] (y ∷ es) m p e h long new = absurd h
one_more from (x ∷ ps) [] m p e h long new = absurd h
one_more from (x ∷ ps) (y ∷ es) m p e h long new = (h.0, one_more (suc from) ps es m p e h.1 (omega arith) new)

pub are_pairs : (from : ℕ) (ps : List PostEnd) (es : List EyeEnd) → NewPairs from ps es → AllZip IsPair ps es
are_pairs from [] [] h = tt
are_pairs from [] (e ∷ es) h = absurd h
are_pairs from (p ∷ ps) [] h = absurd h
are_pairs from (p ∷ ps) (e ∷ es) h =
    ((ap (λ (x : EyeEnd). x.cell) h.0.1, ap (λ (x : EyeEnd). x.number) h.0.1 ∙ sym (ap (λ (x : PostEnd). x.number) h.0.0)), are_pairs (suc from) ps es h.1)
