-- What one more thread that came to its end makes of what is said of all.
use Rattle.std.proofs.Common.{◌≡◌, ◌↔◌, ◌⊎◌, List, [], ◌∷◌, ◌++◌, reverse, Contains, Option, Some, Result, Ok, Err, refl, sym, subst, inl, inr, arith, append_assoc}
use Rattle.std.proofs.lemmas.List.{reverse-append}
use Rattle.std.proofs.lemmas.List.Elements.{All-nil, All-push, All-pop, All-contains, Contains-append_left, Contains-push, Contains-push_cases}
use Rattle.std.specs.List.{AllZip}
use Rattle.m17_ports.specs.Book.{BookTold}
use Rattle.m17_disk.specs.declared.settling.Unsettled.{Unsettled}
use Rattle.m17_disk.specs.declared.settling.Unsettled.TheVariants.{Failed}
use Rattle.m17_disk.specs.declared.writer.Writer.{Writer}
use Rattle.m17_disk.specs.Writing.{EndsAs, IsWritten, FailsToWrite, SaysOf}

-- one pair more behind two lists
zip_push : {A B : Type 0} (R : A → B → Type 0) (xs : List A) (ys : List B) (x : A) (y : B)
    → AllZip R xs ys → R x y → AllZip R (xs ++ x ∷ []) (ys ++ y ∷ [])
zip_push R [] [] x y p r = (r, tt)
zip_push R [] (b ∷ ys) x y p r = absurd p
zip_push R (a ∷ xs) [] x y p r = absurd p
zip_push R (a ∷ xs) (b ∷ ys) x y p r = (p.0, zip_push R xs ys x y p.1 r)

module _ {B L : Type 0} (told : B → BookTold L) where
  -- a thread leaves the end of those that ran, and what became of it comes to the end of the others
  pub ending : (all ran rest : List (Writer B)) (ended longer : List (Option (Writer B))) (j : Writer B) (end : Option (Writer B))
      → ((begun : List (Writer B)) × (all ≡ begun ++ reverse ran) × AllZip (EndsAs told) begun ended)
      → ran ≡ rest ++ j ∷ [] → longer ≡ ended ++ end ∷ [] → EndsAs told j end
      → (begun : List (Writer B)) × (all ≡ begun ++ reverse rest) × AllZip (EndsAs told) begun longer
  ending all ran rest ended longer j end (begun, is, pairs) left came did = (
    begun ++ j ∷ [],
    rw (is, left, reverse-append rest (j ∷ []), append_assoc begun (j ∷ []) (reverse rest)) refl,
    rw came (zip_push (EndsAs told) begun ended j end pairs did),
  )

module _ {B : Type 0} where
  -- the one that failed, among these
  abbrev OneFails : List (Option (Writer B)) → Type 0
  OneFails ended = (one : Option (Writer B)) × Contains ended one × FailsToWrite one

  -- of none
  pub says_none : SaysOf {B = B} [] (Ok tt)
  says_none = record {
    well = (λ _. All-nil IsWritten, λ _. refl);
    failed = (λ never. cc, λ one. absurd (omega (arith, one.1.1)));
  }

  -- of one more
  pub says_more : (ended longer : List (Option (Writer B))) (end : Option (Writer B)) (one other said : Result (Unit {0}) Unsettled)
      → longer ≡ ended ++ end ∷ [] → SaysOf ended other
      → ((one ≡ Ok tt) ↔ IsWritten end) → ((one ≡ Err Failed) ↔ FailsToWrite end)
      → ((said ≡ Ok tt) ↔ ((one ≡ Ok tt) × (other ≡ Ok tt)))
      → ((said ≡ Err Failed) ↔ ((one ≡ Err Failed) ⊎ (other ≡ Err Failed)))
      → SaysOf longer said
  says_more ended longer end one other said came so_far written fails well failed = subst (λ all. SaysOf all said) (sym came) (record {
    well = (
      λ is. let both = well.0 is in All-push IsWritten ended end (so_far.well.0 both.1) (written.0 both.0),
      λ all. well.1 (
        written.1 (All-contains IsWritten (ended ++ end ∷ []) end all (Contains-push ended end)),
        so_far.well.1 ((All-pop IsWritten (ended ++ end ∷ []) ended (Some end) refl all).0),
      ),
    );
    failed = (
      λ is. elim (failed.0 is) [
        | inl this ↦ (end, Contains-push ended end, fails.0 this)
        | inr that ↦ let found = so_far.failed.0 that in (found.0, Contains-append_left ended (end ∷ []) found.0 found.1, found.2)
      ],
      λ found. failed.1 (elim (Contains-push_cases ended end found.0 found.1) [
        | inl before ↦ inr (so_far.failed.1 (found.0, before, found.2))
        | inr same ↦ inl (fails.1 (subst FailsToWrite (sym same) found.2))
      ]),
    );
  })
