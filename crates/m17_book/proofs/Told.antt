-- Refusals by the flaws that they tell, and magics.
use Rattle.std.proofs.Common.{◌≡◌, ◌≢◌, ◌⊎◌, ℕ, zero, suc, ◌+◌, ◌<◌, List, ◌++◌, length, drop, get_or, inl, inr, refl, sym, ap, subst, ◌∙◌, arith, length-append}
use Rattle.std.proofs.lemmas.Bool.{cases_lt, cases_eq}
use Rattle.std.proofs.lemmas.List.{take-append-drop}
use Rattle.std.proofs.Math.ListN.{get_or-append}
use Rattle.m17_book.specs.Book.{TellsFlaw, MagicFlaw}
use Rattle.m17_book.specs.Limits.{told}
use Rattle.m17_book.specs.declared.refusal.Flaw.{Flaw}
use Rattle.m17_book.specs.declared.refusal.Flaw.TheVariants as flaws
use Rattle.m17_book.specs.declared.refusal.FormRefusal.{FormRefusal}
use Rattle.m17_book.specs.declared.refusal.FormRefusal.TheVariants.{Cut, Kind, Field, Large, ReadFault, NoMemory}
use Rattle.m17_book.proofs.Magics.{begins_so}

-- how a flaw is told at a place, where so many bytes are there
abbrev pub say : Flaw → ℕ → ℕ → FormRefusal
say flaws.Cut place len = Cut (told (place + len))
say (flaws.Kind byte) place len = Kind (told place) byte
say (flaws.Field k) place len = Field (told (place + k))

pub flaw_of : (Flawed : List ℕ → Flaw → Type 0) (rest : List ℕ) (place : ℕ) (refusal : FormRefusal) → TellsFlaw Flawed rest place refusal
    → (flaw : Flaw) × Flawed rest flaw × (refusal ≡ say flaw place (length rest))
flaw_of Flawed rest place (Cut at) h = (flaws.Cut, h.0, ap Cut h.1)
flaw_of Flawed rest place (Kind at byte) h = (flaws.Kind byte, h.0, ap (λ n. Kind n byte) h.1)
flaw_of Flawed rest place (Field at) h = (flaws.Field h.0, h.1, ap Field h.2)
flaw_of Flawed rest place (Large at) h = absurd h
flaw_of Flawed rest place ReadFault h = absurd h
flaw_of Flawed rest place NoMemory h = absurd h

pub tells : (Flawed : List ℕ → Flaw → Type 0) (rest : List ℕ) (place : ℕ) (flaw : Flaw) → Flawed rest flaw → TellsFlaw Flawed rest place (say flaw place (length rest))
tells Flawed rest place flaws.Cut h = (h, refl)
tells Flawed rest place (flaws.Kind byte) h = (h, refl)
tells Flawed rest place (flaws.Field k) h = (k, h, refl)

-- no two refusals of the same bytes at the same place
pub one_told : (Flawed : List ℕ → Flaw → Type 0) → ((b : List ℕ) (f g : Flaw) → Flawed b f → Flawed b g → f ≡ g) → (rest : List ℕ) (place : ℕ) (a b : FormRefusal)
    → TellsFlaw Flawed rest place a → TellsFlaw Flawed rest place b → a ≡ b
one_told Flawed one rest place a b h k =
    let f = flaw_of Flawed rest place a h in
    let g = flaw_of Flawed rest place b k in
    f.2 ∙ ap (λ (x : Flaw). say x place (length rest)) (one rest f.0 g.0 f.1 g.1) ∙ sym g.2

-- bytes that begin with a magic are not refused for it
at_magic : (magic rest : List ℕ) (k : ℕ) → length magic ≡ 8 → k < 8 → get_or (magic ++ rest) k 0 ≡ get_or magic k 0
at_magic magic rest k long low = get_or-append magic rest 0 k (omega arith)

pub magic_no_flaw : (magic rest : List ℕ) (flaw : Flaw) → length magic ≡ 8 → MagicFlaw magic (magic ++ rest) flaw → ⊥
magic_no_flaw magic rest flaws.Cut long h = omega (arith, length-append magic rest)
magic_no_flaw magic rest (flaws.Kind byte) long h = h
magic_no_flaw magic rest (flaws.Field k) long h = h.2 (at_magic magic rest k long h.1)

pub magic_not_refused : (magic rest bytes : List ℕ) (refusal : FormRefusal) → length magic ≡ 8 → bytes ≡ magic ++ rest
    → TellsFlaw (MagicFlaw magic) bytes 0 refusal → ⊥
magic_not_refused magic rest bytes refusal long e h =
    let f = flaw_of (MagicFlaw magic) bytes 0 refusal h in
    magic_no_flaw magic rest f.0 long (subst (λ (xs : List ℕ). MagicFlaw magic xs f.0) e f.1)

same_place : (magic b : List ℕ) (j k : ℕ) → MagicFlaw magic b (flaws.Field j) → MagicFlaw magic b (flaws.Field k) → j ≡ k
same_place magic b j k h g = elim (cases_lt j k) [
  | inl low ↦ absurd (h.2 (g.3 j low))
  | inr le ↦ elim (cases_lt k j) [ inl low ↦ absurd (g.2 (h.3 k low)) | inr ge ↦ omega arith ]
]

pub one_magic_flaw : (magic b : List ℕ) (f g : Flaw) → MagicFlaw magic b f → MagicFlaw magic b g → f ≡ g
one_magic_flaw magic b flaws.Cut flaws.Cut h k = refl
one_magic_flaw magic b flaws.Cut (flaws.Kind byte) h k = absurd k
one_magic_flaw magic b flaws.Cut (flaws.Field n) h k = absurd (omega (arith, h, k.0))
one_magic_flaw magic b (flaws.Kind byte) g h k = absurd h
one_magic_flaw magic b (flaws.Field m) flaws.Cut h k = absurd (omega (arith, k, h.0))
one_magic_flaw magic b (flaws.Field m) (flaws.Kind byte) h k = absurd k
one_magic_flaw magic b (flaws.Field m) (flaws.Field n) h k = ap flaws.Field (same_place magic b m n h k)

-- the first byte that differs, if one of the first n does
Differs : List ℕ → List ℕ → ℕ → Type 0
Differs magic b n = (place : ℕ) × (place < n) × (get_or b place 0 ≢ get_or magic place 0) × ((k : ℕ) → k < place → get_or b k 0 ≡ get_or magic k 0)

more_same : (magic b : List ℕ) (n : ℕ) → ((k : ℕ) → k < n → get_or b k 0 ≡ get_or magic k 0) → get_or b n 0 ≡ get_or magic n 0
    → (k : ℕ) → k < suc n → get_or b k 0 ≡ get_or magic k 0
more_same magic b n below here k low =
    elim (cases_lt k n) [ inl less ↦ below k less | inr ge ↦ let same : k ≡ n = omega arith in subst (λ (j : ℕ). get_or b j 0 ≡ get_or magic j 0) (sym same) here ]

differs : (magic b : List ℕ) (n : ℕ) → ((k : ℕ) → k < n → get_or b k 0 ≡ get_or magic k 0) ⊎ Differs magic b n
unfolding Differs
differs magic b zero = inl (λ k low. absurd (omega arith))
differs magic b (suc n) = elim (differs magic b n) [
  | inl below ↦ elim (cases_eq (get_or b n 0) (get_or magic n 0)) [
    | inl here ↦ inl (more_same magic b n below here)
    | inr other ↦ inr (n, omega arith, other, below)
  ]
  | inr d ↦ inr (d.0, omega (arith, d.1), d.2, d.3)
]

-- bytes begin with a magic, or with what is wrong with it
pub reads_magic : (magic b : List ℕ) → length magic ≡ 8 → ((rest : List ℕ) × (b ≡ magic ++ rest)) ⊎ ((flaw : Flaw) × MagicFlaw magic b flaw)
unfolding Differs
reads_magic magic b size = elim (cases_lt (length b) 8) [
  | inl short ↦ inr (flaws.Cut, short)
  | inr long ↦ elim (differs magic b 8) [
    | inl same ↦ inl (drop 8 b, sym (take-append-drop 8 b) ∙ ap (λ xs. xs ++ drop 8 b) (begins_so b magic size long same))
    | inr d ↦ inr (flaws.Field d.0, (long, d.1, d.2, d.3))
  ]
]
