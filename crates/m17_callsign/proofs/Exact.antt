-- Each text is a callsign of one address, or is refused for one reason, and not both.
use Rattle.std.proofs.Common.{ℕ, zero, suc, ◌≡◌, ◌≢◌, ◌+◌, ◌-◌, ◌<◌, ◌≤◌, inl, inr, List, [], ◌∷◌, Result, Ok, Err, length, refl, ap, sym, ◌∙◌, subst, arith, ◌↔◌, slice_index, MatchResult, IfOk}
use Rattle.std.specs.List.{All}
use Rattle.std.proofs.lemmas.Bool.{cases_lt}
use Rattle.m17_callsign.specs.Callsign.{AreLetters, IsCallsignOf, IsRefused, MayStand, IsLetter, HasCallsign, group_sign, end_of_callsigns, last_letter, sum_of}
use Rattle.m17_callsign.specs.declared.refusal.CallRefusal.{CallRefusal}
use Rattle.m17_callsign.specs.declared.refusal.CallRefusal.TheVariants.{Empty, Long, Letter, Bare, TrailingSpace}
use Rattle.m17_callsign.proofs.Alphabet.{no_letter}
use Rattle.m17_callsign.specs.Laws.{EachAddressHasOneCallsign}
use Rattle.m17_callsign.proofs.Spelled.{callsign_in_range, computed, the_only, some_if_has, has_if_some, has_48_bits}

-- a `#` is no letter
no_sign : (x : ℕ) → x ≡ group_sign → IsLetter x → ⊥
no_sign x is letter = no_letter x (omega arith) (inl (omega arith)) (inl (omega arith)) (omega arith) (omega arith) (omega arith) letter

-- what every callsign and every text refused for its end have: bytes that may stand where they do
at_place : (text : List ℕ) (k : ℕ) → All IsLetter text → k < length text → IsLetter (slice_index text k)
at_place text k letters lt = letters k 0 lt

group_stands : (letters : List ℕ) (k : ℕ) → All IsLetter letters → k < length (group_sign ∷ letters) → MayStand (group_sign ∷ letters) k
group_stands letters zero all lt = inr (refl, refl)
group_stands letters (suc k) all lt = inl (at_place letters k all (omega arith))

last_of_group : (letters : List ℕ) → 0 < length letters → last_letter (group_sign ∷ letters) ≡ last_letter letters
last_of_group [] some = absurd (omega arith)
last_of_group (x ∷ xs) some =
    let one : length (group_sign ∷ x ∷ xs) - 1 ≡ suc (length (x ∷ xs) - 1) = omega arith in
    ap (λ (k : ℕ). slice_index (group_sign ∷ x ∷ xs) k) one

-- what a callsign has as a text
record Stands (text : List ℕ) : Type 0 where
  some : 0 < length text
  short : length text ≤ 9
  stand : (k : ℕ) → k < length text → MayStand text k
  last : last_letter text ≢ 32
  not_bare : text ≢ group_sign ∷ []

plain_stands : (text : List ℕ) → AreLetters 9 text → Stands text
plain_stands text are = record {
  some = are.not_empty;
  short = are.not_long;
  stand = λ k lt. inl (at_place text k are.letters lt);
  last = are.no_space_at_the_end;
  not_bare = λ bare. no_sign (slice_index text 0) (ap (λ (t : List ℕ). slice_index t 0) bare) (at_place text 0 are.letters are.not_empty);
}

group_text_stands : (letters : List ℕ) → AreLetters 8 letters → Stands (group_sign ∷ letters)
group_text_stands letters are =
    let short = are.not_long in
    let some = are.not_empty in
    record {
      some = omega arith;
      short = omega arith;
      stand = λ k lt. group_stands letters k are.letters lt;
      last = λ space. are.no_space_at_the_end (sym (last_of_group letters some) ∙ space);
      not_bare = λ bare. let alone = ap length bare in omega arith;
    }

stands : (text : List ℕ) (a : ℕ) → IsCallsignOf text a → Stands text
stands text a (inl is) = plain_stands text is.spelled
stands text a (inr is) = subst (λ (t : List ℕ). Stands t) (sym is.sign) (group_text_stands is.letters is.spelled)

not_refused : (text : List ℕ) (refusal : CallRefusal) → Stands text → IsRefused text refusal → ⊥
not_refused text Empty is r = let some = is.some in omega arith
not_refused text (Long len) is r = let short = is.short in omega (arith, r.0)
not_refused text (Letter place) is r = r.2 (is.stand place r.1)
not_refused text Bare is r = is.not_bare r
not_refused text TrailingSpace is r = is.last r.3

-- a `#` is no letter, so no text is of a station and of a group
plain_no_group : (text : List ℕ) → AreLetters 9 text → (letters : List ℕ) → text ≡ group_sign ∷ letters → ⊥
plain_no_group text are letters sign =
    no_sign (slice_index text 0) (ap (λ (t : List ℕ). slice_index t 0) sign) (at_place text 0 are.letters are.not_empty)

-- one address
one_address : (text : List ℕ) (a b : ℕ) → IsCallsignOf text a → IsCallsignOf text b → a ≡ b
one_address text a b (inl is) (inl too) = is.sum ∙ sym too.sum
one_address text a b (inr is) (inr too) =
    let same : is.letters ≡ too.letters = let one = sym is.sign ∙ too.sign in cc in
    is.sum ∙ ap (λ (t : List ℕ). end_of_callsigns + sum_of t) same ∙ sym too.sum
one_address text a b (inl is) (inr too) = absurd (plain_no_group text is.spelled too.letters too.sign)
one_address text a b (inr is) (inl too) = absurd (plain_no_group text too.spelled is.letters is.sign)

-- one reason
bare_long : (text : List ℕ) → text ≡ group_sign ∷ [] → length text ≡ 1
bare_long text is = ap length is

bare_stands : (text : List ℕ) (k : ℕ) → text ≡ group_sign ∷ [] → k < length text → MayStand text k
bare_stands text k is lt =
    let one = bare_long text is in
    let zero-place : k ≡ 0 = omega arith in
    inr (zero-place, ap (λ (i : ℕ). slice_index text i) zero-place ∙ ap (λ (t : List ℕ). slice_index t 0) is)

bare_last : (text : List ℕ) → text ≡ group_sign ∷ [] → last_letter text ≡ 32 → ⊥
bare_last text is space = let sign : group_sign ≡ 32 = sym (ap last_letter is) ∙ space in omega arith

-- the first place that may not stand is one
one_place : (text : List ℕ) (p q : ℕ) → IsRefused text (Letter p) → IsRefused text (Letter q) → p ≡ q
one_place text p q one other = elim (cases_lt p q) [
  | inl less ↦ absurd (one.2 (other.3 p less))
  | inr least ↦ elim (cases_lt q p) [
    | inl more ↦ absurd (other.2 (one.3 q more))
    | inr most ↦ omega arith
  ]
]

one_reason : (text : List ℕ) (r s : CallRefusal) → IsRefused text r → IsRefused text s → r ≡ s
one_reason text Empty Empty h k = refl
one_reason text Empty (Long n) h k = absurd (omega (arith, h, k.0))
one_reason text Empty (Letter p) h k = absurd (omega (arith, h, k.1))
one_reason text Empty Bare h k = absurd (omega (arith, h, bare_long text k))
one_reason text Empty TrailingSpace h k = absurd (omega (arith, h, k.0))
one_reason text (Long n) Empty h k = absurd (omega (arith, h.0, k))
one_reason text (Long n) (Long m) h k = ap Long (h.1 ∙ sym k.1)
one_reason text (Long n) (Letter p) h k = absurd (omega (arith, h.0, k.0))
one_reason text (Long n) Bare h k = absurd (omega (arith, h.0, bare_long text k))
one_reason text (Long n) TrailingSpace h k = absurd (omega (arith, h.0, k.1))
one_reason text (Letter p) Empty h k = absurd (omega (arith, h.1, k))
one_reason text (Letter p) (Long m) h k = absurd (omega (arith, h.0, k.0))
one_reason text (Letter p) (Letter q) h k = ap Letter (one_place text p q h k)
one_reason text (Letter p) Bare h k = absurd (h.2 (bare_stands text p k h.1))
one_reason text (Letter p) TrailingSpace h k = absurd (h.2 (k.2 p h.1))
one_reason text Bare Empty h k = absurd (omega (arith, k, bare_long text h))
one_reason text Bare (Long m) h k = absurd (omega (arith, k.0, bare_long text h))
one_reason text Bare (Letter q) h k = absurd (k.2 (bare_stands text q h k.1))
one_reason text Bare Bare h k = refl
one_reason text Bare TrailingSpace h k = absurd (bare_last text h k.3)
one_reason text TrailingSpace Empty h k = absurd (omega (arith, h.0, k))
one_reason text TrailingSpace (Long m) h k = absurd (omega (arith, h.1, k.0))
one_reason text TrailingSpace (Letter q) h k = absurd (k.2 (h.2 q k.1))
one_reason text TrailingSpace Bare h k = absurd (bare_last text k h.3)
one_reason text TrailingSpace TrailingSpace h k = refl

-- a result that is right is the only one
abbrev pub IsRight : List ℕ → Result ℕ CallRefusal → Type 0
IsRight text result = MatchResult result (IsCallsignOf text) (IsRefused text)

pub exact_ok : (text : List ℕ) (result : Result ℕ CallRefusal) → IsRight text result → (a : ℕ) → (result ≡ Ok a) ↔ IsCallsignOf text a
exact_ok text (Ok b) h a = (
  λ is. let same : b ≡ a = cc in subst (λ (x : ℕ). IsCallsignOf text x) same h,
  λ is. ap Ok (one_address text b a h is),
)
exact_ok text (Err r) h a = (λ is. cc, λ is. absurd (not_refused text r (stands text a is) h))

pub exact_err : (text : List ℕ) (result : Result ℕ CallRefusal) → IsRight text result → (r : CallRefusal) → (result ≡ Err r) ↔ IsRefused text r
exact_err text (Ok b) h r = (λ is. cc, λ is. absurd (not_refused text r (stands text b h) is))
exact_err text (Err s) h r = (
  λ is. let same : s ≡ r = cc in subst (λ (x : CallRefusal). IsRefused text x) same h,
  λ is. ap Err (one_reason text s r h is),
)

pub in_range : (text : List ℕ) (result : Result ℕ CallRefusal) → IsRight text result → IfOk result HasCallsign
in_range text (Ok b) h = callsign_in_range text b h
in_range text (Err r) h = tt

pub one_callsign : EachAddressHasOneCallsign
one_callsign = record {
  one = λ text a. (computed text a, the_only text a);
  one_address = one_address;
  in_range = λ a. (has_if_some a, some_if_has a);
  within = has_48_bits;
}
