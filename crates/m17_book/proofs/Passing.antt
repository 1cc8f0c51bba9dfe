-- Values passed one after another.
use Rattle.std.proofs.Common.{◌≡◌, ℕ, ◌+◌, ◌≤◌, List, [], ◌∷◌, ◌++◌, length, take, drop, Option, None, Some, Ok, Err, Bool, true, false, inl, inr, refl, sym, ap, subst, ◌∙◌, arith, append_assoc, length-append}
use Rattle.std.proofs.lemmas.List.{append-nil, take-append-drop}
use Rattle.m17_book.specs.Limits.{told, SpellsEach}
use Rattle.m17_book.specs.Ahead.{IsAhead}
use Rattle.m17_book.specs.Parsed.{BeginsWith}
use Rattle.m17_book.specs.Steps.{IsNext}
use Rattle.m17_book.specs.Walk.{coming, Spot, IsAt, HasPassed, AddsOne, AddsAll}
use Rattle.m17_book.specs.declared.refusal.FormRefusal.{FormRefusal}
use Rattle.m17_book.specs.declared.refusal.Flaw.{Flaw}
use Rattle.m17_book.proofs.NextStep.{taken}
use Rattle.m17_book.proofs.Within.{spells_more}

-- one value was passed
pub next_passed : {Value : Type 0} (Spells : Value → List ℕ → Type 0) (Flawed : List ℕ → Flaw → Type 0) (value : Value) (ahead held : List ℕ)
    (left : Option (List ℕ)) (place after : ℕ) → IsNext Spells Flawed (Ok (Some value)) (coming place ahead) (record { held = held; left = left; place = after })
    → HasPassed Spells place ahead (value ∷ []) (record { held = held; left = left; place = after })
next_passed Spells Flawed value ahead held left place after h =
    record {
      front = h.0;
      rest = h.1;
      split = h.2;
      spelled = (h.0, [], h.3, refl, sym (append-nil h.0));
      rest_is = h.4;
      place_is = omega (arith, h.5);
    }

-- the same, where the value stands in an option
pub some_passed : {Value : Type 0} (Spells : Value → List ℕ → Type 0) (Flawed : List ℕ → Flaw → Type 0) (next : Option Value) (value : Value) (ahead held : List ℕ)
    (left : Option (List ℕ)) (place after : ℕ) → next ≡ Some value → IsNext Spells Flawed (Ok next) (coming place ahead) (record { held = held; left = left; place = after })
    → HasPassed Spells place ahead (value ∷ []) (record { held = held; left = left; place = after })
some_passed {Value = Value} Spells Flawed next value ahead held left place after e h =
    next_passed Spells Flawed value ahead held left place after (subst (λ (n : Option Value). IsNext Spells Flawed (Ok n) (coming place ahead) (record { held = held; left = left; place = after })) e h)

pub none_next : {Value : Type 0} (Spells : Value → List ℕ → Type 0) (Flawed : List ℕ → Flaw → Type 0) (next : Option Value) (ahead held : List ℕ)
    (left : Option (List ℕ)) (place after : ℕ) → next ≡ None → IsNext Spells Flawed (Ok next) (coming place ahead) (record { held = held; left = left; place = after })
    → (ahead ≡ []) × IsAhead held left [] × (after ≡ place)
none_next {Value = Value} Spells Flawed next ahead held left place after e h =
    subst (λ (n : Option Value). IsNext Spells Flawed (Ok n) (coming place ahead) (record { held = held; left = left; place = after })) e h

pub one_passed : {Value : Type 0} (Spells : Value → List ℕ → Type 0) (Flawed : List ℕ → Flaw → Type 0) (value : Value) (b held ahead : List ℕ)
    (size place after : ℕ) (left : Option (List ℕ)) → IsAhead b left ahead → BeginsWith Spells b value size → held ≡ drop size b
    → after ≡ told (place + size) → HasPassed Spells place ahead (value ∷ []) (record { held = held; left = left; place = after })
one_passed Spells Flawed value b held ahead size place after left is begins same there =
    next_passed Spells Flawed value ahead held left place after (taken Spells Flawed value b held ahead size place after left is begins same there)

-- nothing was passed
none_passed : {Value : Type 0} (Spells : Value → List ℕ → Type 0) (spot : Spot) (ahead : List ℕ)
    → IsAt spot ahead → HasPassed Spells spot.place ahead [] spot
none_passed Spells spot ahead is =
    record {
      front = [];
      rest = ahead;
      split = refl;
      spelled = refl;
      rest_is = is;
      place_is = omega arith;
    }

pub first_passed : {Value : Type 0} (Spells : Value → List ℕ → Type 0) (spot : Spot) (ahead : List ℕ) (values : List Value) → values ≡ []
    → IsAt spot ahead → HasPassed Spells spot.place ahead values spot
first_passed {Value = Value} Spells spot ahead values none is =
    subst (λ (vs : List Value). HasPassed Spells spot.place ahead vs spot) (sym none) (none_passed Spells spot ahead is)

-- some were passed, and then one more
pub more_passed : {Value : Type 0} (Spells : Value → List ℕ → Type 0) (place : ℕ) (ahead : List ℕ) (values : List Value) (value : Value) (a b : Spot)
    → (h : HasPassed Spells place ahead values a) → HasPassed Spells a.place h.rest (value ∷ []) b
    → HasPassed Spells place ahead (values ++ value ∷ []) b
more_passed Spells place ahead values value a b h k =
    let one : k.front ≡ k.spelled.0 = k.spelled.4 ∙ ap (λ xs. k.spelled.0 ++ xs) k.spelled.3 ∙ append-nil k.spelled.0 in
    record {
      front = h.front ++ k.front;
      rest = k.rest;
      split = h.split ∙ ap (λ xs. h.front ++ xs) k.split ∙ sym (append_assoc h.front k.front k.rest);
      spelled = spells_more Spells values value h.front k.front h.spelled (subst (Spells value) (sym one) k.spelled.2);
      rest_is = k.rest_is;
      place_is = omega (arith, h.place_is, k.place_is, length-append h.front k.front);
    }

-- the magic was passed
pub passed_magic : (magic b held ahead : List ℕ) (place after : ℕ) (left : Option (List ℕ)) → IsAhead b left ahead → take 8 b ≡ magic
    → held ≡ drop 8 b → after ≡ told (place + 8)
    → (rest : List ℕ) × (ahead ≡ magic ++ rest) × IsAhead held left rest × (after ≡ told (place + 8))
passed_magic magic b held ahead place after left is begins same there =
    let split : b ≡ magic ++ drop 8 b = sym (take-append-drop 8 b) ∙ ap (λ xs. xs ++ drop 8 b) begins in (
      drop 8 b ++ is.0,
      is.2 ∙ ap (λ xs. xs ++ is.0) split ∙ append_assoc magic (drop 8 b) is.0,
      (is.0, is.1, ap (λ xs. xs ++ is.0) (sym same)),
      there,
    )

empty_back : (xs ys : List ℕ) → xs ++ ys ≡ [] → ys ≡ []
empty_back [] ys e = e
empty_back (x ∷ xs) ys e = cc

module _ {Value : Type 0} (Spells : Value → List ℕ → Type 0) (Wrong : ℕ → List ℕ → ℕ → FormRefusal → Type 0) (place : ℕ) (ahead : List ℕ)
    (old new : List Value) (a b : Spot) (h : HasPassed Spells place ahead old a) where
  -- one value more
  pub added : (more : Bool) → more ≡ true → AddsOne Spells Wrong (Ok more) (coming a.place h.rest) old new b → HasPassed Spells place ahead new b
  added more e there =
      let one = subst (λ (m : Bool). AddsOne Spells Wrong (Ok m) (coming a.place h.rest) old new b) e there in
      subst (λ (vs : List Value). HasPassed Spells place ahead vs b) (sym one.1) (more_passed Spells place ahead old one.0 a b h one.2)

  -- nothing is left
  pub ended : (T : Type 0) (value : T) (most : ℕ) (more : Bool) → more ≡ false → a.place ≤ most
      → AddsOne Spells Wrong (Ok more) (coming a.place h.rest) old new b → AddsAll Spells Wrong most (Ok value) (coming place ahead) new b
  ended T value most more e low there =
      let one = subst (λ (m : Bool). AddsOne Spells Wrong (Ok m) (coming a.place h.rest) old new b) e there in
      let none : one.2.0 ≡ [] = empty_back b.held one.2.0 (sym one.2.2) in (
        record {
          front = h.front;
          rest = [];
          split = h.split ∙ ap (λ xs. h.front ++ xs) one.1;
          spelled = subst (λ (vs : List Value). SpellsEach Spells vs h.front) (sym one.0) h.spelled;
          rest_is = one.2;
          place_is = ap told one.3 ∙ h.place_is;
        },
        refl,
        one.2.1 ∙ ap Some none,
        omega (arith, one.3, low),
      )

  -- what is wrong with what is to come
  pub stopped : (T : Type 0) (most : ℕ) (refusal : FormRefusal) → a.place ≤ most → AddsOne Spells Wrong (Err refusal) (coming a.place h.rest) old new b
      → AddsAll Spells Wrong {T = T} most (Err refusal) (coming place ahead) new b
  stopped T most refusal low (inl outside) = inl outside
  stopped T most refusal low (inr one) =
      inr (
        old,
        (
          record { front = h.front; rest = h.rest; split = h.split; spelled = h.spelled; rest_is = one.1; place_is = ap told one.2 ∙ h.place_is },
          inr (omega (arith, one.2, low), subst (λ (n : ℕ). Wrong (length old) h.rest n refusal) (sym one.2) one.3),
        ),
      )
