-- One step of a reader: what the held bytes say, said of what is to come.
use Rattle.std.proofs.Common.{◌≡◌, ◌⊎◌, ℕ, ◌+◌, ◌<◌, ◌≤◌, ◌^◌, List, [], ◌++◌, length, take, drop, Option, Some, Ok, inl, inr, refl, sym, ap, subst, ◌∙◌, arith, append_assoc}
use Rattle.std.proofs.lemmas.List.{take-append-drop, length-take-le, nil_from_length}
use Rattle.m17_book.specs.Limits.{told}
use Rattle.m17_book.specs.Ahead.{IsAhead}
use Rattle.m17_book.specs.Book.{TellsFlaw, BookHeaderFlaw}
use Rattle.m17_book.specs.Flaws.{kind_of, RecordFlaw}
use Rattle.m17_book.specs.Parsed.{BeginsWith}
use Rattle.m17_book.specs.Steps.{tell, IsNext, PassesHeader}
use Rattle.m17_book.specs.Walk.{coming}
use Rattle.m17_book.specs.declared.refusal.Flaw.{Flaw}
use Rattle.m17_book.specs.declared.refusal.Flaw.TheVariants as flaws
use Rattle.m17_book.proofs.Window.{IsWindow, record_flaw, known_kind, short_below, header_flaw, cut_header}
use Rattle.m17_book.specs.Versions.{book_header, header_size, FitsHeader}
use Rattle.m17_book.specs.declared.head.Head.{Head}
use Rattle.m17_book.specs.declared.version.Version.{Version}

-- what a filled cursor holds is a window on what is to come
pub window : (b ahead : List ℕ) (left : Option (List ℕ)) → IsAhead b left ahead → (97 ≤ length b) ⊎ (ahead ≡ b) → IsWindow b ahead
window b ahead left is enough = record { more = is.0; split = is.2; enough = enough }

-- a value was taken from the front
pub taken : {Value : Type 0} (Spells : Value → List ℕ → Type 0) (Flawed : List ℕ → Flaw → Type 0) (value : Value) (b held ahead : List ℕ) (size place after : ℕ)
    (left : Option (List ℕ)) → IsAhead b left ahead → BeginsWith Spells b value size → held ≡ drop size b → after ≡ told (place + size)
    → IsNext Spells Flawed (Ok (Some value)) (coming place ahead) (record { held = held; left = left; place = after })
taken Spells Flawed value b held ahead size place after left is begins same told_after =
    let split : b ≡ take size b ++ drop size b = sym (take-append-drop size b) in (
      take size b,
      drop size b ++ is.0,
      is.2 ∙ ap (λ xs. xs ++ is.0) split ∙ append_assoc (take size b) (drop size b) is.0,
      begins.spelled,
      (is.0, is.1, ap (λ xs. xs ++ is.0) (sym same)),
      told_after ∙ ap (λ n. told (place + n)) (sym (length-take-le size b begins.within)),
    )

-- nothing is held, and nothing is to come
pub none_left : (b ahead : List ℕ) (left : Option (List ℕ)) → length b ≡ 0 → IsAhead b left ahead → (97 ≤ length b) ⊎ (ahead ≡ b)
    → (ahead ≡ []) × IsAhead b left []
none_left b ahead left none is (inl long) = absurd (omega arith)
none_left b ahead left none is (inr same) =
    let empty : b ≡ [] = nil_from_length b none in
    let all : ahead ≡ [] = same ∙ empty in (all, subst (λ (xs : List ℕ). IsAhead b left xs) all is)

-- 97 bytes, or all that is to come
pub is_enough : (held held' ahead : List ℕ) (left left' : Option (List ℕ)) → IsAhead held left ahead
    → (97 ≤ length held') ⊎ ((all : List ℕ) → IsAhead held left all → (left' ≡ Some []) × (all ≡ held'))
    → (97 ≤ length held') ⊎ (ahead ≡ held')
is_enough held held' ahead left left' before (inl long) = inl long
is_enough held held' ahead left left' before (inr all) = inr (all ahead before).1

-- the same flaw, of the same bytes at the same place
pub same_told : (Flawed : List ℕ → Flaw → Type 0) (rest : List ℕ) (p p' q : ℕ) (xs ys : List ℕ) (flaw : Flaw) → p ≡ p' → q ≡ p → xs ≡ ys
    → TellsFlaw Flawed rest p (tell flaw p (length ys)) → TellsFlaw Flawed rest p' (tell flaw q (length xs))
same_told Flawed rest p p' q xs ys flaw e there same h =
    let a = subst (λ (n : ℕ). TellsFlaw Flawed rest p (tell flaw n (length ys))) (sym there) h in
    let b = subst (λ (zs : List ℕ). TellsFlaw Flawed rest p (tell flaw q (length zs))) (sym same) a in
    subst (λ (n : ℕ). TellsFlaw Flawed rest n (tell flaw q (length xs))) e b

module _ (version : Version) where
  pub record_told : (b ahead : List ℕ) (flaw : Flaw) (place : ℕ) → place < 2 ^ 64 → IsWindow b ahead → RecordFlaw version b flaw
      → TellsFlaw (RecordFlaw version) ahead place (tell flaw place (length b))
  record_told b ahead flaws.Cut place fits w h = elim w.enough [
    | inl long ↦ absurd (omega (arith, short_below b h.2 (known_kind (kind_of b) h.1)))
    | inr same ↦ (record_flaw version b ahead flaws.Cut w h, ap (λ (xs : List ℕ). told (place + length xs)) (sym same))
  ]
  record_told b ahead (flaws.Kind byte) place fits w h = (record_flaw version b ahead (flaws.Kind byte) w h, omega arith)
  record_told b ahead (flaws.Field k) place fits w h = (k, record_flaw version b ahead (flaws.Field k) w h, refl)

  pub header_told : (b ahead : List ℕ) (flaw : Flaw) (place : ℕ) → place < 2 ^ 64 → IsWindow b ahead → BookHeaderFlaw version b flaw
      → TellsFlaw (BookHeaderFlaw version) ahead place (tell flaw place (length b))
  header_told b ahead flaws.Cut place fits w h = elim w.enough [
    | inl long ↦ absurd (omega (arith, cut_header version b h))
    | inr same ↦ (header_flaw version b ahead flaws.Cut w h, ap (λ (xs : List ℕ). told (place + length xs)) (sym same))
  ]
  header_told b ahead (flaws.Kind byte) place fits w h = (header_flaw version b ahead (flaws.Kind byte) w h, omega arith)
  header_told b ahead (flaws.Field k) place fits w h = (k, header_flaw version b ahead (flaws.Field k) w h, refl)

  -- the header was passed
  pub passed : (head : Head) (b held ahead : List ℕ) (place after : ℕ) (left : Option (List ℕ)) → IsAhead b left ahead
      → FitsHeader version head → take (header_size version) b ≡ book_header version head → held ≡ drop (header_size version) b
      → after ≡ told (place + header_size version)
      → PassesHeader version (Ok head) (coming place ahead) (record { held = held; left = left; place = after })
  passed head b held ahead place after left is fits begins same told_after =
      let size = header_size version in
      let split : b ≡ book_header version head ++ drop size b = sym (take-append-drop size b) ∙ ap (λ xs. xs ++ drop size b) begins in (
        fits,
        drop size b ++ is.0,
        is.2 ∙ ap (λ xs. xs ++ is.0) split ∙ append_assoc (book_header version head) (drop size b) is.0,
        (is.0, is.1, ap (λ xs. xs ++ is.0) (sym same)),
        told_after,
      )
