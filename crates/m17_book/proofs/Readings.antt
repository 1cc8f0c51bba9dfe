-- Values spelled one after another: where none of their spellings begins another, bytes have one reading.
use Rattle.std.proofs.Common.{◌≡◌, ◌⊎◌, ℕ, ◌<◌, ◌≤◌, List, [], ◌∷◌, ◌++◌, length, inl, inr, refl, sym, ap, subst, ◌∙◌, arith, append_assoc, length-append}
use Rattle.std.proofs.lemmas.List.{append-nil, append_cancel_left, nil_from_length}
use Rattle.m17_book.specs.Laws.{IsClear}
use Rattle.m17_book.specs.Limits.{SpellsEach}
use Rattle.m17_book.specs.declared.refusal.Flaw.{Flaw}

-- of two readings one goes on where the other ends
pub record GoesOn {Value : Type 0} (Spells : Value → List ℕ → Type 0) (vs ws : List Value) (f₁ f₂ r₁ r₂ : List ℕ) : Type 0 where
  pub more : List Value
  pub middle : List ℕ
  pub values : ws ≡ vs ++ more
  pub spelled : SpellsEach Spells more middle
  pub rest : r₁ ≡ middle ++ r₂
  pub front : f₂ ≡ f₁ ++ middle

empty_both : (xs ys : List ℕ) → [] ≡ xs ++ ys → (xs ≡ []) × (ys ≡ [])
empty_both [] ys e = (refl, sym e)
empty_both (x ∷ xs) ys e = cc

module _ {Value : Type 0} (Spells : Value → List ℕ → Type 0) (Flawed : List ℕ → Flaw → Type 0) (clear : IsClear Spells Flawed) where
  -- no bytes, no values
  pub none : (vs : List Value) (f : List ℕ) → SpellsEach Spells vs f → f ≡ [] → vs ≡ []
  none [] f h e = refl
  none (v ∷ vs) f h e =
      let front = empty_both h.0 h.1 (sym e ∙ h.4) in absurd (omega (arith, clear.some v h.0 h.2, ap length front.0))

  -- a flaw is no place where a reading goes on
  pub stuck : (vs : List Value) (f r : List ℕ) (flaw : Flaw) → SpellsEach Spells vs f → Flawed (f ++ r) flaw → (vs ≡ []) × (f ≡ [])
  stuck [] f r flaw h bad = (refl, h)
  stuck (v ∷ vs) f r flaw h bad =
      let e = ap (λ xs. xs ++ r) h.4 ∙ append_assoc h.0 h.1 r in absurd (clear.not_both v h.0 (h.1 ++ r) flaw h.2 (subst (λ (xs : List ℕ). Flawed xs flaw) e bad))

  -- there are no more values than bytes
  pub few_values : (vs : List Value) (f : List ℕ) → SpellsEach Spells vs f → length vs ≤ length f
  few_values [] f h = omega arith
  few_values (v ∷ vs) f h = omega (arith, few_values vs h.1 h.3, clear.some v h.0 h.2, ap length h.4, length-append h.0 h.1)

  goes_on_from_none : (ws : List Value) (f₁ f₂ r₁ r₂ : List ℕ) → f₁ ≡ [] → SpellsEach Spells ws f₂ → f₁ ++ r₁ ≡ f₂ ++ r₂
      → GoesOn Spells [] ws f₁ f₂ r₁ r₂
  goes_on_from_none ws f₁ f₂ r₁ r₂ none h e =
      record {
        more = ws;
        middle = f₂;
        values = refl;
        spelled = h;
        rest = ap (λ xs. xs ++ r₁) (sym none) ∙ e;
        front = ap (λ xs. xs ++ f₂) (sym none);
      }

  -- the first values are the same, and so are their bytes
  after_same : (v w : Value) (vs ws : List Value) (a b x y f₁ f₂ r₁ r₂ : List ℕ) → v ≡ w → a ≡ b → f₁ ≡ a ++ x → f₂ ≡ b ++ y
      → GoesOn Spells vs ws x y r₁ r₂ → GoesOn Spells (v ∷ vs) (w ∷ ws) f₁ f₂ r₁ r₂
  after_same v w vs ws a b x y f₁ f₂ r₁ r₂ same_value same e₁ e₂ g =
      record {
        more = g.more;
        middle = g.middle;
        values = ap (λ u. u ∷ ws) (sym same_value) ∙ ap (λ us. v ∷ us) g.values;
        spelled = g.spelled;
        rest = g.rest;
        front = e₂ ∙ ap (λ xs. xs ++ y) (sym same) ∙ ap (λ xs. a ++ xs) g.front ∙ sym (append_assoc a x g.middle) ∙ ap (λ xs. xs ++ g.middle) (sym e₁);
      }

  pub compare : (vs ws : List Value) (f₁ f₂ r₁ r₂ : List ℕ) → SpellsEach Spells vs f₁ → SpellsEach Spells ws f₂ → f₁ ++ r₁ ≡ f₂ ++ r₂
      → (GoesOn Spells vs ws f₁ f₂ r₁ r₂) ⊎ (GoesOn Spells ws vs f₂ f₁ r₂ r₁)
  compare [] ws f₁ f₂ r₁ r₂ h k e = inl (goes_on_from_none ws f₁ f₂ r₁ r₂ h k e)
  compare (v ∷ vs) [] f₁ f₂ r₁ r₂ h k e = inr (goes_on_from_none (v ∷ vs) f₂ f₁ r₂ r₁ k h (sym e))
  compare (v ∷ vs) (w ∷ ws) f₁ f₂ r₁ r₂ h k e =
      let whole : h.0 ++ (h.1 ++ r₁) ≡ k.0 ++ (k.1 ++ r₂) = sym (append_assoc h.0 h.1 r₁) ∙ ap (λ xs. xs ++ r₁) (sym h.4) ∙ e
      ∙ ap (λ xs. xs ++ r₂) k.4 ∙ append_assoc k.0 k.1 r₂ in
      let same = clear.one v w h.0 k.0 (h.1 ++ r₁) (k.1 ++ r₂) h.2 k.2 whole in
      let back : h.1 ++ r₁ ≡ k.1 ++ r₂ = append_cancel_left k.0 (h.1 ++ r₁) (k.1 ++ r₂) (ap (λ xs. xs ++ (h.1 ++ r₁)) (sym same.1) ∙ whole) in
      elim (compare vs ws h.1 k.1 r₁ r₂ h.3 k.3 back) [
        | inl g ↦ inl (after_same v w vs ws h.0 k.0 h.1 k.1 f₁ f₂ r₁ r₂ same.0 same.1 h.4 k.4 g)
        | inr g ↦ inr (after_same w v ws vs k.0 h.0 k.1 h.1 f₂ f₁ r₂ r₁ (sym same.0) (sym same.1) k.4 h.4 g)
      ]

  end_alone : (vs ws : List Value) (f₁ f₂ : List ℕ) → GoesOn Spells vs ws f₁ f₂ [] [] → vs ≡ ws
  end_alone vs ws f₁ f₂ g =
      let empty = empty_both g.middle [] g.rest in sym (g.values ∙ ap (λ us. vs ++ us) (none g.more g.middle g.spelled empty.0) ∙ append-nil vs)

  -- whole bytes have one reading
  pub one_list : (vs ws : List Value) (f : List ℕ) → SpellsEach Spells vs f → SpellsEach Spells ws f → vs ≡ ws
  one_list vs ws f h k = elim (compare vs ws f f [] [] h k refl) [ inl g ↦ end_alone vs ws f f g | inr g ↦ sym (end_alone ws vs f f g) ]

  -- whole bytes have no flaw after some values
  pub whole_or_flawed : (vs ws : List Value) (f₁ f₂ r : List ℕ) (flaw : Flaw) → SpellsEach Spells vs f₁ → SpellsEach Spells ws f₂ → f₁ ≡ f₂ ++ r
      → Flawed r flaw → ⊥
  whole_or_flawed vs ws f₁ f₂ r flaw h k e bad =
      elim (compare vs ws f₁ f₂ [] r h k (append-nil f₁ ∙ e)) [
        | inl g ↦ let empty = empty_both g.middle r g.rest in clear.no_flaw flaw (subst (λ (xs : List ℕ). Flawed xs flaw) empty.1 bad)
        | inr g ↦ let same = stuck g.more g.middle [] flaw g.spelled (subst (λ (xs : List ℕ). Flawed xs flaw) g.rest bad) in
            let empty : r ≡ [] = g.rest ∙ ap (λ xs. xs ++ []) same.1 in
            clear.no_flaw flaw (subst (λ (xs : List ℕ). Flawed xs flaw) empty bad)
      ]

  same_stop : (vs ws : List Value) (f₁ f₂ r₁ r₂ : List ℕ) (f : Flaw) → GoesOn Spells vs ws f₁ f₂ r₁ r₂ → Flawed r₁ f
      → (f₁ ≡ f₂) × (r₁ ≡ r₂) × (vs ≡ ws)
  same_stop vs ws f₁ f₂ r₁ r₂ f g bad =
      let same = stuck g.more g.middle r₂ f g.spelled (subst (λ (xs : List ℕ). Flawed xs f) g.rest bad) in (
        sym (g.front ∙ ap (λ xs. f₁ ++ xs) same.1 ∙ append-nil f₁),
        g.rest ∙ ap (λ xs. xs ++ r₂) same.1,
        sym (g.values ∙ ap (λ us. vs ++ us) same.0 ∙ append-nil vs),
      )

  -- two flaws after some values are one
  pub one_stop : (vs ws : List Value) (f₁ f₂ r₁ r₂ : List ℕ) (f g : Flaw) → SpellsEach Spells vs f₁ → SpellsEach Spells ws f₂
      → f₁ ++ r₁ ≡ f₂ ++ r₂ → Flawed r₁ f → Flawed r₂ g → (f₁ ≡ f₂) × (r₁ ≡ r₂) × (f ≡ g)
  one_stop vs ws f₁ f₂ r₁ r₂ f g h k e bad bad' =
      elim (compare vs ws f₁ f₂ r₁ r₂ h k e) [
        | inl on ↦ let same = same_stop vs ws f₁ f₂ r₁ r₂ f on bad in
            (same.0, same.1, clear.one_flaw r₂ f g (subst (λ (xs : List ℕ). Flawed xs f) same.1 bad) bad')
        | inr on ↦ let same = same_stop ws vs f₂ f₁ r₂ r₁ g on bad' in
            (sym same.0, sym same.1, clear.one_flaw r₁ f g bad (subst (λ (xs : List ℕ). Flawed xs g) same.1 bad'))
      ]

  spelled_none : (vs : List Value) (f : List ℕ) → length vs ≡ 0 → SpellsEach Spells vs f → f ≡ []
  spelled_none [] f e h = h
  spelled_none (v ∷ vs) f e h = absurd (omega arith)

  -- after as many values as there may be, and more bytes: no whole reading has so few
  pub whole_or_many : (vs ws : List Value) (f₁ f₂ r : List ℕ) → SpellsEach Spells vs f₁ → SpellsEach Spells ws f₂ → f₁ ≡ f₂ ++ r
      → length vs ≤ length ws → 0 < length r → ⊥
  whole_or_many vs ws f₁ f₂ r h k e few more =
      elim (compare vs ws f₁ f₂ [] r h k (append-nil f₁ ∙ e)) [
        | inl g ↦ omega (arith, ap length (empty_both g.middle r g.rest).1, more)
        | inr g ↦ let count : length g.more ≡ 0 = omega (arith, ap length g.values, length-append ws g.more, few) in
            let empty : g.middle ≡ [] = spelled_none g.more g.middle count g.spelled in
            omega (arith, ap length (g.rest ∙ ap (λ xs. xs ++ []) empty), more)
      ]

  -- two readings of as many values, of the same bytes, have the same front
  pub same_many : (vs ws : List Value) (f₁ f₂ r₁ r₂ : List ℕ) → SpellsEach Spells vs f₁ → SpellsEach Spells ws f₂ → f₁ ++ r₁ ≡ f₂ ++ r₂
      → length vs ≡ length ws → f₁ ≡ f₂
  same_many vs ws f₁ f₂ r₁ r₂ h k e same =
      elim (compare vs ws f₁ f₂ r₁ r₂ h k e) [
        | inl g ↦ let count : length g.more ≡ 0 = omega (arith, ap length g.values, length-append vs g.more) in
            sym (g.front ∙ ap (λ xs. f₁ ++ xs) (spelled_none g.more g.middle count g.spelled) ∙ append-nil f₁)
        | inr g ↦ let count : length g.more ≡ 0 = omega (arith, ap length g.values, length-append ws g.more) in
            g.front ∙ ap (λ xs. f₂ ++ xs) (spelled_none g.more g.middle count g.spelled) ∙ append-nil f₂
      ]

  -- after as many values as there may be, and not sooner, a flaw
  pub many_or_flawed : (vs ws : List Value) (f₁ f₂ r₁ r₂ : List ℕ) (flaw : Flaw) → SpellsEach Spells vs f₁ → SpellsEach Spells ws f₂
      → f₁ ++ r₁ ≡ f₂ ++ r₂ → length ws < length vs → Flawed r₂ flaw → ⊥
  many_or_flawed vs ws f₁ f₂ r₁ r₂ flaw h k e fewer bad =
      elim (compare vs ws f₁ f₂ r₁ r₂ h k e) [
        | inl g ↦ omega (arith, ap length g.values, length-append vs g.more, fewer)
        | inr g ↦ omega (arith, ap length (same_stop ws vs f₂ f₁ r₂ r₁ flaw g bad).2, fewer)
      ]

  -- and the same values
  pub same_values : (vs ws : List Value) (f₁ f₂ r₁ r₂ : List ℕ) → SpellsEach Spells vs f₁ → SpellsEach Spells ws f₂ → f₁ ++ r₁ ≡ f₂ ++ r₂
      → length vs ≡ length ws → vs ≡ ws
  same_values vs ws f₁ f₂ r₁ r₂ h k e same =
      elim (compare vs ws f₁ f₂ r₁ r₂ h k e) [
        | inl g ↦ let count : length g.more ≡ 0 = omega (arith, ap length g.values, length-append vs g.more) in
            sym (g.values ∙ ap (λ us. vs ++ us) (nil_from_length g.more count) ∙ append-nil vs)
        | inr g ↦ let count : length g.more ≡ 0 = omega (arith, ap length g.values, length-append ws g.more) in
            g.values ∙ ap (λ us. ws ++ us) (nil_from_length g.more count) ∙ append-nil ws
      ]
