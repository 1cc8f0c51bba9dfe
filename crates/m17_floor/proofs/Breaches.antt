-- Breaches, one act after another.
use Rattle.std.proofs.Common.{◌≡◌, ◌≢◌, ◌↔◌, ℕ, ◌-◌, ◌<◌, ◌≤◌, List, [], ◌∷◌, ◌++◌, length, Option, IsSome, inl, inr, refl, ap, sym, subst, ◌∙◌, arith}
use Rattle.std.specs.Option.{option_and_then, option_map_or}
use Rattle.std.proofs.lemmas.Bool.{cases_lt, cases_order}
use Rattle.std.proofs.lemmas.List.{length-map, map-append, length-append}
use Rattle.std.proofs.lemmas.Option.{slice_get_past}
use Rattle.m17_values.specs.declared.member.Member.{Member}
use Rattle.m17_floor.specs.declared.act.Act.{Act}
use Rattle.m17_floor.specs.declared.act.ActKind.{ActKind}
use Rattle.m17_floor.specs.declared.act.ActKind.TheVariants.{Join, Leave, Packet, Other}
use Rattle.m17_floor.specs.declared.rule.Rule.{Rule}
use Rattle.m17_floor.specs.declared.rule.Rule.TheVariants as rules
use Rattle.m17_floor.specs.declared.verdict.Verdict.{Verdict}
use Rattle.m17_floor.specs.Acts.{kind_or_other, kind_at}
use Rattle.m17_floor.specs.Floor.{verdict_at}
use Rattle.m17_floor.specs.Legal.{KeptAct, book_places, book_setup, acts_in, moment_written, verdict_written, FallsBehind, BreaksMembership, HasOtherVerdict, HasBreach, IsLegal, turn_of, IsFirstBreach}
use Rattle.m17_floor.proofs.Prefix.{slice_get_before, kind_before, joined_before, verdict_same}

pub acts_append : (kept more : List KeptAct) → acts_in (kept ++ more) ≡ acts_in kept ++ acts_in more
acts_append kept more = map-append (λ (one : KeptAct). one.act) kept more

pub length_acts : (kept : List KeptAct) → length (acts_in kept) ≡ length kept
length_acts kept = length-map kept (λ (one : KeptAct). one.act)

pub written_before : (acts more : List Act) (n : ℕ) → n < length acts → moment_written (acts ++ more) n ≡ moment_written acts n
written_before acts more n h = ap (λ o. option_map_or (λ (act : Act). act.at) o 0) (slice_get_before acts more n h)

falls_same : (acts more : List Act) (n : ℕ) → n < length acts → FallsBehind (acts ++ more) n ↔ FallsBehind acts n
falls_same acts more n h =
    let here : moment_written (acts ++ more) n ≡ moment_written acts n = written_before acts more n h in
    let back : moment_written (acts ++ more) (n - 1) ≡ moment_written acts (n - 1) = written_before acts more (n - 1) (omega arith) in (
      λ falls. (falls.0, h, subst (λ m. m < moment_written acts (n - 1)) here (subst (λ m. moment_written (acts ++ more) n < m) back falls.2)),
      λ falls. (falls.0, omega (arith, length-append acts more), subst (λ m. m < moment_written (acts ++ more) (n - 1)) (sym here) (subst (λ m. moment_written acts n < m) (sym back) falls.2)),
    )

breaks_same : (acts more : List Act) (n : ℕ) (kind : ActKind) → n < length acts → BreaksMembership (acts ++ more) n kind ↔ BreaksMembership acts n kind
breaks_same acts more n (Join k only) h =
    let same : (m : Member) → _ = λ m. joined_before book_places acts more m n (omega arith) in
    (λ b. (b.0, b.1, subst (λ o. IsSome o) (same b.0) b.2), λ b. (b.0, b.1, subst (λ o. IsSome o) (sym (same b.0)) b.2))
breaks_same acts more n (Leave k) h =
    let same = joined_before book_places acts more k n (omega arith) in
    (λ out is. out (subst (λ o. IsSome o) (sym same) is), λ out is. out (subst (λ o. IsSome o) same is))
breaks_same acts more n (Packet k p) h = (λ b. b, λ b. b)
breaks_same acts more n Other h = (λ b. b, λ b. b)

-- the same, by the kind at the position
breaks_here : (acts more : List Act) (n : ℕ) → n < length acts → BreaksMembership (acts ++ more) n (kind_at (acts ++ more) n) ↔ BreaksMembership acts n (kind_at acts n)
breaks_here acts more n h =
    let P : ActKind → Type 0 = λ kind. BreaksMembership (acts ++ more) n kind ↔ BreaksMembership acts n (kind_at acts n) in
    subst P (sym (kind_before acts more n h)) (breaks_same acts more n (kind_at acts n) h)

-- a packet's verdict that is written down, beside that of the rule
abbrev pub Differs : ActKind → Option Verdict → Option Verdict → Type 0
Differs (Packet k p) written is = written ≢ is
Differs _ written is = ⊥

pub other_is : (limit : ℕ) (kept : List KeptAct) (n : ℕ) (kind : ActKind) → HasOtherVerdict limit kept n kind ↔ Differs kind (verdict_written kept n) (verdict_at (book_setup limit) (acts_in kept) n)
other_is limit kept n (Packet k p) = (λ d. d, λ d. d)
other_is limit kept n (Join k only) = (λ d. d, λ d. d)
other_is limit kept n (Leave k) = (λ d. d, λ d. d)
other_is limit kept n Other = (λ d. d, λ d. d)

written_verdict_before : (kept more : List KeptAct) (n : ℕ) → n < length kept → verdict_written (kept ++ more) n ≡ verdict_written kept n
written_verdict_before kept more n h = ap (option_and_then (λ (one : KeptAct). one.verdict)) (slice_get_before kept more n h)

differs_same : (limit : ℕ) (kept more : List KeptAct) (n : ℕ) → n < length kept → Differs (kind_at (acts_in (kept ++ more)) n) (verdict_written (kept ++ more) n) (verdict_at (book_setup limit) (acts_in (kept ++ more)) n) ≡ Differs (kind_at (acts_in kept) n) (verdict_written kept n) (verdict_at (book_setup limit) (acts_in kept) n)
differs_same limit kept more n h =
    let within : n < length (acts_in kept) = omega (arith, length_acts kept) in
    let longer : List Act = acts_in kept ++ acts_in more in
    ap (λ acts. Differs (kind_at acts n) (verdict_written (kept ++ more) n) (verdict_at (book_setup limit) acts n)) (acts_append kept more)
    ∙ ap (λ kind. Differs kind (verdict_written (kept ++ more) n) (verdict_at (book_setup limit) longer n)) (kind_before (acts_in kept) (acts_in more) n within)
    ∙ ap (λ o. Differs (kind_at (acts_in kept) n) o (verdict_at (book_setup limit) longer n)) (written_verdict_before kept more n h)
    ∙ ap (Differs (kind_at (acts_in kept) n) (verdict_written kept n)) (verdict_same (book_setup limit) (acts_in kept) (acts_in more) n within)

-- What is kept later changes no breach.
pub breach_same : (limit : ℕ) (kept more : List KeptAct) (n : ℕ) (rule : Rule) → n < length kept → HasBreach limit (kept ++ more) n rule ↔ HasBreach limit kept n rule
breach_same limit kept more n rules.Moment h =
    let P : List Act → Type 0 = λ acts. FallsBehind acts n ↔ FallsBehind (acts_in kept) n in
    subst P (sym (acts_append kept more)) (falls_same (acts_in kept) (acts_in more) n (omega (arith, length_acts kept)))
breach_same limit kept more n rules.Member h =
    let P : List Act → Type 0 = λ acts. BreaksMembership acts n (kind_at acts n) ↔ BreaksMembership (acts_in kept) n (kind_at (acts_in kept) n) in
    subst P (sym (acts_append kept more)) (breaks_here (acts_in kept) (acts_in more) n (omega (arith, length_acts kept)))
breach_same limit kept more n rules.Verdict h =
    let same = differs_same limit kept more n h in
    let longer = other_is limit (kept ++ more) n (kind_at (acts_in (kept ++ more)) n) in
    let here = other_is limit kept n (kind_at (acts_in kept) n) in
    let Same : Type 0 → Type 0 = λ T. T in
    (λ d. here.1 (subst Same same (longer.0 d)), λ d. longer.1 (subst Same (sym same) (here.0 d)))

other_past : (acts : List Act) (n : ℕ) → length acts ≤ n → kind_at acts n ≡ Other
other_past acts n h = ap kind_or_other (slice_get_past acts n h)

-- A breach is at a position of the list.
pub breach_within : (limit : ℕ) (kept : List KeptAct) (n : ℕ) (rule : Rule) → HasBreach limit kept n rule → n < length kept
breach_within limit kept n rules.Moment b = omega (arith, length_acts kept)
breach_within limit kept n rules.Member b = elim (cases_lt n (length kept)) [
  | inl l ↦ l
  | inr g ↦ absurd (subst (λ kind. BreaksMembership (acts_in kept) n kind) (other_past (acts_in kept) n (omega (arith, length_acts kept))) b)
]
breach_within limit kept n rules.Verdict b = elim (cases_lt n (length kept)) [
  | inl l ↦ l
  | inr g ↦ absurd (subst (λ kind. HasOtherVerdict limit kept n kind) (other_past (acts_in kept) n (omega (arith, length_acts kept))) b)
]

-- A legal list with one act more that breaks no rule is legal.
pub legal_more : (limit : ℕ) (kept : List KeptAct) (one : KeptAct) → IsLegal limit kept → ((rule : Rule) → HasBreach limit (kept ++ one ∷ []) (length kept) rule → ⊥) → IsLegal limit (kept ++ one ∷ [])
legal_more limit kept one legal keeps n rule b = elim (cases_order n (length kept)) [
  | inl e ↦ keeps rule (subst (λ m. HasBreach limit (kept ++ one ∷ []) m rule) e b)
  | inr away ↦ elim away [
    | inl l ↦ legal n rule ((breach_same limit kept (one ∷ []) n rule l).0 b)
    | inr g ↦ omega (arith, breach_within limit (kept ++ one ∷ []) n rule b, length-append kept (one ∷ []))
  ]
]

same_turn : (a b : Rule) → turn_of a ≡ turn_of b → a ≡ b
same_turn rules.Moment rules.Moment e = refl
same_turn rules.Moment rules.Member e = absurd (omega arith)
same_turn rules.Moment rules.Verdict e = absurd (omega arith)
same_turn rules.Member rules.Moment e = absurd (omega arith)
same_turn rules.Member rules.Member e = refl
same_turn rules.Member rules.Verdict e = absurd (omega arith)
same_turn rules.Verdict rules.Moment e = absurd (omega arith)
same_turn rules.Verdict rules.Member e = absurd (omega arith)
same_turn rules.Verdict rules.Verdict e = refl

-- A list has one first breach at most.
first_place : (limit : ℕ) (kept : List KeptAct) (n m : ℕ) (rule other : Rule) → IsFirstBreach limit kept n rule → IsFirstBreach limit kept m other → n ≡ m
first_place limit kept n m rule other a b = elim (cases_order n m) [
  | inl e ↦ e
  | inr away ↦ elim away [
    | inl l ↦ absurd (b.none_before n rule l a.breach)
    | inr g ↦ absurd (a.none_before m other g b.breach)
  ]
]

first_rule : (limit : ℕ) (kept : List KeptAct) (n : ℕ) (rule other : Rule) → IsFirstBreach limit kept n rule → IsFirstBreach limit kept n other → rule ≡ other
first_rule limit kept n rule other a b = elim (cases_order (turn_of rule) (turn_of other)) [
  | inl e ↦ same_turn rule other e
  | inr away ↦ elim away [
    | inl l ↦ absurd (b.first_rule rule l a.breach)
    | inr g ↦ absurd (a.first_rule other g b.breach)
  ]
]

pub one_first : (limit : ℕ) (kept : List KeptAct) (n m : ℕ) (rule other : Rule) → IsFirstBreach limit kept n rule → IsFirstBreach limit kept m other → (n ≡ m) × (rule ≡ other)
one_first limit kept n m rule other a b =
    let place : n ≡ m = first_place limit kept n m rule other a b in
    (place, first_rule limit kept n rule other a (subst (λ x. IsFirstBreach limit kept x other) (sym place) b))
