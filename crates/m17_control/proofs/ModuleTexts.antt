-- Texts that name modules, and why others do not.
use Rattle.std.proofs.Common.{◌≡◌, ◌≢◌, ℕ, ◌+◌, ◌<◌, true, false, List, length, slice_index, arith, refl, sym, ap, ◌∙◌, inl, inr, subst}
use Rattle.std.proofs.lemmas.Bool.{cases_lt, cases_eq, false≢true}
use Rattle.m17_control.specs.Forms.{IsModule}
use Rattle.m17_control.specs.Modules.{serves, IsSet, IsFront, IsModulesText, IsModulesRefused}
use Rattle.m17_control.specs.declared.modules.Modules.{Modules}
use Rattle.m17_control.specs.declared.modules.ModulesRefusal.{ModulesRefusal}
use Rattle.m17_control.specs.declared.modules.ModulesRefusal.TheVariants.{Empty, Letter, Twice}

-- the set has the letters of the bytes before a place, each once, and no others
pub record IsReadSoFar (text : List ℕ) (place : ℕ) (m : Modules) : Type 0 where
  pub front : IsFront text place
  pub found : (k : ℕ) → k < place → serves m (slice_index text k) ≡ true
  pub only : (letter : ℕ) → serves m letter ≡ true → (k : ℕ) × (k < place) × (slice_index text k ≡ letter)
  pub set : IsSet m

pub read_none : (text : List ℕ) (m : Modules) → ((letter : ℕ) → serves m letter ≡ false) → IsSet m → IsReadSoFar text 0 m
read_none text m none set = record {
  front = record { letters = λ k less. absurd (omega arith); once = λ j k below less. absurd (omega arith) };
  found = λ k less. absurd (omega arith);
  only = λ letter h. absurd (false≢true (sym (none letter) ∙ h));
  set = set;
}

-- a letter that is not in the set stands nowhere before
apart : (text : List ℕ) (place byte : ℕ) (m : Modules) → IsReadSoFar text place m → serves m byte ≡ false → (k : ℕ) → k < place → slice_index text k ≢ byte
apart text place byte m r new k less e = false≢true (sym new ∙ ap (serves m) (sym e) ∙ r.found k less)

front_more : (text : List ℕ) (place byte : ℕ) (m : Modules) → IsReadSoFar text place m → byte ≡ slice_index text place → IsModule byte → serves m byte ≡ false → IsFront text (place + 1)
front_more text place byte m r is letter new = record {
  letters = λ k less. elim (cases_lt k place) [
    | inl below ↦ r.front.letters k below
    | inr at ↦
        (let here : k ≡ place = omega arith in subst IsModule (is ∙ ap (slice_index text) (sym here)) letter)
  ];
  once = λ j k below less. elim (cases_lt k place) [
    | inl low ↦ r.front.once j k below low
    | inr at ↦
        (let here : k ≡ place = omega arith in λ e. apart text place byte m r new j (omega arith) (e ∙ ap (slice_index text) here ∙ sym is))
  ];
}

pub read_more : (text : List ℕ) (place byte : ℕ) (m n : Modules) → IsReadSoFar text place m → byte ≡ slice_index text place → IsModule byte → serves m byte ≡ false →
    serves n byte ≡ true → ((other : ℕ) → other ≢ byte → serves n other ≡ serves m other) → (IsSet m → IsSet n)
    → IsReadSoFar text (place + 1) n
read_more text place byte m n r is letter new it others set = record {
  front = front_more text place byte m r is letter new;
  found = λ k less. elim (cases_lt k place) [
    | inl below ↦ others (slice_index text k) (apart text place byte m r new k below) ∙ r.found k below
    | inr at ↦
        (let here : k ≡ place = omega arith in ap (serves n) (ap (slice_index text) here ∙ sym is) ∙ it)
  ];
  only = λ l h. elim (cases_eq l byte) [
    | inl same ↦ (place, omega arith, sym is ∙ sym same)
    | inr other ↦
        (let old = r.only l (sym (others l other) ∙ h) in (old.0, omega (arith, old.1), old.2))
  ];
  set = set r.set;
}

-- no longer beginning of the text is well formed than up to the place that is refused
letter_stops : (text : List ℕ) (p q : ℕ) → IsModulesRefused text (Letter p) → p < q → IsFront text q → ⊥
letter_stops text p q h less front = h.2 (front.letters p less)

twice_stops : (text : List ℕ) (p q : ℕ) → IsModulesRefused text (Twice p) → p < q → IsFront text q → ⊥
twice_stops text p q h less front = front.once h.3 p h.4 less h.5

pub no_both : (text : List ℕ) (r : ModulesRefusal) → IsModulesText text → IsModulesRefused text r → ⊥
no_both text Empty t h = omega (arith, t.0)
no_both text (Letter p) t h = letter_stops text p (length text) h h.0 t.1
no_both text (Twice p) t h = twice_stops text p (length text) h h.0 t.1

same_place : (p q : ℕ) → (p < q → ⊥) → (q < p → ⊥) → p ≡ q
same_place p q a b = omega arith

pub one_refusal : (text : List ℕ) (r s : ModulesRefusal) → IsModulesRefused text r → IsModulesRefused text s → r ≡ s
one_refusal text Empty Empty h j = refl
one_refusal text Empty (Letter q) h j = absurd (omega (arith, j.0))
one_refusal text Empty (Twice q) h j = absurd (omega (arith, j.0))
one_refusal text (Letter p) Empty h j = absurd (omega (arith, h.0))
one_refusal text (Twice p) Empty h j = absurd (omega (arith, h.0))
one_refusal text (Letter p) (Letter q) h j = ap Letter (same_place p q (λ less. letter_stops text p q h less j.1) (λ less. letter_stops text q p j less h.1))
one_refusal text (Twice p) (Twice q) h j = ap Twice (same_place p q (λ less. twice_stops text p q h less j.1) (λ less. twice_stops text q p j less h.1))
one_refusal text (Letter p) (Twice q) h j =
    let e : p ≡ q = same_place p q (λ less. letter_stops text p q h less j.1) (λ less. twice_stops text q p j less h.1) in
    absurd (h.2 (subst (λ (x : ℕ). IsModule (slice_index text x)) (sym e) j.2))
one_refusal text (Twice p) (Letter q) h j =
    let e : p ≡ q = same_place p q (λ less. twice_stops text p q h less j.1) (λ less. letter_stops text q p j less h.1) in
    absurd (j.2 (subst (λ (x : ℕ). IsModule (slice_index text x)) e h.2))
