-- What a book that posts tells, where the inner one tells no bytes too.
use Rattle.std.proofs.Common.{◌≡◌, ℕ, List, [], ◌∷◌, ◌++◌, take, Option, None, Some, refl, sym, ap, ◌∙◌, append-nil}
use Rattle.m17_ports.specs.Told.{told_then}
use Rattle.m17_board.specs.Kept.{told_or}

pub or_then : (before after : Option (List ℕ)) (taken bytes : List ℕ) → after ≡ told_then before bytes → told_or after (taken ++ bytes) ≡ told_then (told_or before taken) bytes
or_then None after taken bytes e = ap (λ (o : Option (List ℕ)). told_or o (taken ++ bytes)) e
or_then (Some all) after taken bytes e = ap (λ (o : Option (List ℕ)). told_or o (taken ++ bytes)) e

take_none : (bytes : List ℕ) → take 0 bytes ≡ []
take_none [] = refl
take_none (x ∷ bytes) = refl

-- of a write that failed
pub or_cut : (before after : Option (List ℕ)) (taken bytes : List ℕ) → ((n : ℕ) × (after ≡ told_then before (take n bytes)))
    → (n : ℕ) × (told_or after taken ≡ told_then (told_or before taken) (take n bytes))
or_cut None after taken bytes t =
    (0, ap (λ (o : Option (List ℕ)). told_or o taken) t.1 ∙ sym (ap (λ (l : List ℕ). Some (taken ++ l)) (take_none bytes) ∙ ap Some (append-nil taken)))
or_cut (Some all) after taken bytes t = (t.0, ap (λ (o : Option (List ℕ)). told_or o taken) t.1)
