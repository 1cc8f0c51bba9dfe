-- Addresses and their callsigns give each other.
use Rattle.std.proofs.Common.{ℕ, ◌≡◌, ◌+◌, ◌-◌, ◌^◌, ◌<◌, ◌≤◌, ◌⊎◌, inl, inr, List, ◌∷◌, Option, Some, None, refl, ap, sym, ◌∙◌, subst, arith, ◌↔◌, lit<}
use Rattle.std.specs.Prelude.{IsSome}
use Rattle.std.proofs.lemmas.Bool.{cases_lt}
use Rattle.m17_callsign.specs.Callsign.{IsCallsignOf, IsPlainCallsignOf, IsGroupOf, HasCallsign, group_sign, end_of_callsigns, end_of_groups, sum_of}
use Rattle.m17_callsign.specs.Letters.{callsign_of, letters_of}
use Rattle.m17_callsign.proofs.Unique.{letters_of_sum, letters_are, sum_in_range}

callsign_of-plain : (a : ℕ) → 0 < a → a < end_of_callsigns → callsign_of a ≡ Some (letters_of 9 a)
unfolding callsign_of
callsign_of-plain a low high = grind arith

callsign_of-group : (a : ℕ) → end_of_callsigns < a → a < end_of_groups → callsign_of a ≡ Some (group_sign ∷ letters_of 8 (a - end_of_callsigns))
unfolding callsign_of
callsign_of-group a low high = grind arith

callsign_of-outside : (a : ℕ) → (HasCallsign a → ⊥) → callsign_of a ≡ None
unfolding callsign_of
callsign_of-outside a out = grind arith

-- an address has a callsign, or none
has_or_not : (a : ℕ) → HasCallsign a ⊎ (HasCallsign a → ⊥)
has_or_not a = elim (cases_lt 0 a) [
  | inr zero ↦ inr (λ has. elim has [ inl plain ↦ omega (arith, plain.0) | inr group ↦ omega (arith, group.0) ])
  | inl some ↦ elim (cases_lt a end_of_callsigns) [
    | inl low ↦ inl (inl (some, low))
    | inr high ↦ elim (cases_lt end_of_callsigns a) [
      | inr bare ↦ inr (λ has. elim has [ inl plain ↦ omega (arith, plain.1) | inr group ↦ omega (arith, group.0) ])
      | inl more ↦ elim (cases_lt a end_of_groups) [
        | inl below ↦ inl (inr (more, below))
        | inr above ↦ inr (λ has. elim has [ inl plain ↦ omega (arith, plain.1) | inr group ↦ omega (arith, group.1) ])
      ]
    ]
  ]
]

plain_is : (a : ℕ) → 0 < a → a < end_of_callsigns → IsPlainCallsignOf (letters_of 9 a) a
plain_is a low high =
    let spelled = letters_of_sum 9 a low high in
    record { spelled = spelled.0; sum = spelled.1 }

group_is : (a : ℕ) → end_of_callsigns < a → a < end_of_groups → IsGroupOf (group_sign ∷ letters_of 8 (a - end_of_callsigns)) a
group_is a low high =
    let spelled = letters_of_sum 8 (a - end_of_callsigns) (omega arith) (omega arith) in
    let sum = spelled.1 in
    record { letters = letters_of 8 (a - end_of_callsigns); sign = refl; spelled = spelled.0; sum = omega arith }

-- the callsign that is computed is one
pub computed : (text : List ℕ) (a : ℕ) → callsign_of a ≡ Some text → IsCallsignOf text a
computed text a is = elim (has_or_not a) [
  | inl (inl plain) ↦
      let same : letters_of 9 a ≡ text = let one = sym (callsign_of-plain a plain.0 plain.1) ∙ is in cc in
      inl (subst (λ (t : List ℕ). IsPlainCallsignOf t a) same (plain_is a plain.0 plain.1))
  | inl (inr group) ↦
      let same : group_sign ∷ letters_of 8 (a - end_of_callsigns) ≡ text = let one = sym (callsign_of-group a group.0 group.1) ∙ is in cc in
      inr (subst (λ (t : List ℕ). IsGroupOf t a) same (group_is a group.0 group.1))
  | inr out ↦ absurd (let none = sym (callsign_of-outside a out) ∙ is in cc)
]

plain_in_range : (text : List ℕ) (a : ℕ) → IsPlainCallsignOf text a → (0 < a) × (a < end_of_callsigns)
plain_in_range text a is =
    let range = sum_in_range 9 text is.spelled in
    let sum = is.sum in
    (omega (arith, range.0), omega (arith, range.1))

group_in_range : (text : List ℕ) (a : ℕ) → IsGroupOf text a → (end_of_callsigns < a) × (a < end_of_groups)
group_in_range text a is =
    let range = sum_in_range 8 is.letters is.spelled in
    let sum = is.sum in
    (omega (arith, range.0), omega (arith, range.1))

-- only an address in one of the ranges has a callsign
pub callsign_in_range : (text : List ℕ) (a : ℕ) → IsCallsignOf text a → HasCallsign a
callsign_in_range text a (inl is) = inl (plain_in_range text a is)
callsign_in_range text a (inr is) = inr (group_in_range text a is)

-- each callsign is the one that is computed
pub the_only : (text : List ℕ) (a : ℕ) → IsCallsignOf text a → callsign_of a ≡ Some text
the_only text a (inl is) =
    let range = plain_in_range text a is in
    callsign_of-plain a range.0 range.1 ∙ ap Some (ap (λ (n : ℕ). letters_of 9 n) is.sum ∙ letters_are 9 text is.spelled)
the_only text a (inr is) =
    let range = group_in_range text a is in
    let sum = is.sum in
    let above : a - end_of_callsigns ≡ sum_of is.letters = omega arith in
    callsign_of-group a range.0 range.1
    ∙ ap Some (ap (λ (n : ℕ). group_sign ∷ letters_of 8 n) above ∙ ap (λ (t : List ℕ). group_sign ∷ t) (letters_are 8 is.letters is.spelled) ∙ sym is.sign)

pub some_if_has : (a : ℕ) → HasCallsign a → IsSome (callsign_of a)
some_if_has a (inl plain) = subst (λ (found : Option (List ℕ)). IsSome found) (sym (callsign_of-plain a plain.0 plain.1)) refl
some_if_has a (inr group) = subst (λ (found : Option (List ℕ)). IsSome found) (sym (callsign_of-group a group.0 group.1)) refl

pub has_if_some : (a : ℕ) → IsSome (callsign_of a) → HasCallsign a
has_if_some a some = elim (has_or_not a) [
  | inl has ↦ has
  | inr out ↦ absurd (let none = callsign_of-outside a out in grind arith)
]

pub has_48_bits : (a : ℕ) → HasCallsign a → a < 2 ^ 48
has_48_bits a (inl plain) = let last : 40 ^ 9 < 2 ^ 48 = lit< tt in omega (arith, plain.1)
has_48_bits a (inr group) = let last : 40 ^ 9 + 40 ^ 8 < 2 ^ 48 = lit< tt in omega (arith, group.1)

pub none_computed : (a : ℕ) → (HasCallsign a → ⊥) → None ≡ callsign_of a
none_computed a out = sym (callsign_of-outside a out)

-- letters alone, and behind a `#`
pub plain_computed : (a : ℕ) (text : List ℕ) → HasCallsign a → a < end_of_callsigns → text ≡ letters_of 9 a → Some text ≡ callsign_of a
plain_computed a text (inl plain) low is = ap Some is ∙ sym (callsign_of-plain a plain.0 plain.1)
plain_computed a text (inr group) low is = absurd (omega (arith, group.0))

pub group_computed : (a : ℕ) (text : List ℕ) → HasCallsign a → end_of_callsigns ≤ a → text ≡ group_sign ∷ letters_of 8 (a - end_of_callsigns) → Some text ≡ callsign_of a
group_computed a text (inl plain) high is = absurd (omega (arith, plain.1))
group_computed a text (inr group) high is = ap Some is ∙ sym (callsign_of-group a group.0 group.1)

-- what is answered, with the callsign or without one
pub answered : (answer : Option (List ℕ)) (a : ℕ) → answer ≡ callsign_of a → (t : List ℕ) → (answer ≡ Some t) ↔ IsCallsignOf t a
answered answer a is t = (λ some. computed t a (sym is ∙ some), λ call. is ∙ the_only t a call)
