-- What a step of the two loops over many jobs does to the lists.
use Rattle.std.proofs.Common.{◌≡◌, List, [], ◌∷◌, ◌++◌, reverse, refl, append_assoc}
use Rattle.std.proofs.lemmas.List.{reverse-append}
use Rattle.std.proofs.lemmas.List.Elements.{AllZip-push}
use Rattle.std.specs.List.{AllZip}

module _ {A : Type 0} where
  -- x leaves the end of xs and comes to the end of ys, which is read from its end
  pub starting : (all xs front ys longer : List A) (x y : A) → all ≡ xs ++ reverse ys → xs ≡ front ++ x ∷ []
      → longer ≡ ys ++ y ∷ [] → y ≡ x → all ≡ front ++ reverse longer
  starting all xs front ys longer x y is left came same =
      rw (is, left, came, same, append_assoc front (x ∷ []) (reverse ys), reverse-append ys (x ∷ [])) refl

  -- x leaves the end of ran, and what it became comes to the end of jobs
  pub joining : (R : A → A → Type 0) (all ran rest before jobs longer : List A) (x y : A)
      → ((begun ended : List A) × (all ≡ begun ++ reverse ran) × (jobs ≡ before ++ ended) × AllZip R begun ended)
      → ran ≡ rest ++ x ∷ [] → longer ≡ jobs ++ y ∷ [] → R x y
      → (begun ended : List A) × (all ≡ begun ++ reverse rest) × (longer ≡ before ++ ended) × AllZip R begun ended
  joining R all ran rest before jobs longer x y (begun, ended, is, joined, pairs) left came does = (
    begun ++ x ∷ [],
    ended ++ y ∷ [],
    rw (is, left, reverse-append rest (x ∷ []), append_assoc begun (x ∷ []) (reverse rest)) refl,
    rw (came, joined, append_assoc before ended (y ∷ [])) refl,
    AllZip-push R begun ended x y pairs does,
  )
