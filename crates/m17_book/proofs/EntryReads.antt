-- Bytes begin with an entry, or with a flaw of one.
use Rattle.std.proofs.Common.{◌≡◌, ◌⊎◌, ℕ, ◌+◌, ◌<◌, ◌≤◌, ◌^◌, List, [], ◌∷◌, ◌++◌, length, take, drop, get_or, slice_range, inl, inr, refl, sym, ap, ◌∙◌, arith, length-append}
use Rattle.std.proofs.lemmas.Bool.{cases_lt, cases_eq}
use Rattle.std.proofs.lemmas.List.{take_at, drop_at, take_all, drop_all}
use Rattle.std.proofs.lemmas.List.Elements.{All-append}
use Rattle.std.proofs.lemmas.Grind.{common_steps}
use Rattle.std.proofs.Math.Seq.{take-add}
use Rattle.m17_lists.proofs.Parts.{part_is_as_long}
use Rattle.m17_fields.specs.Fields.{be_64, IsBytes, Fields16AreExact, Fields64AreExact}
use Rattle.m17_values.specs.declared.heard.Heard.{Heard}
use Rattle.m17_values.specs.declared.heard.Heard.TheVariants.{Quiet, Fault}
use Rattle.m17_book.specs.Entries.{SpellsEntry}
use Rattle.m17_book.specs.Limits.{IsKind}
use Rattle.m17_book.specs.Parsed.{BeginsWith, IsAddress}
use Rattle.m17_book.specs.Records.{zeros_12}
use Rattle.m17_book.specs.Flaws.{kind_of, AreAllowed, EntryFlaw, Family, Length_4, Length_6, IsInEntry, entry_field_at, entry_field_size, IsAllowedInEntry, IsShortEntry}
use Rattle.m17_book.specs.declared.refusal.Flaw.{Flaw}
use Rattle.m17_book.specs.declared.refusal.Flaw.TheVariants as flaws
use Rattle.m17_book.proofs.Entry.{take_one, begins_datagram, part_bytes}

-- the bytes begin with an entry, or with a flaw
abbrev pub Begins : List ℕ → Type 0
Begins b = ((value : Heard) × (size : ℕ) × BeginsWith SpellsEntry b value size) ⊎ ((flaw : Flaw) × EntryFlaw b flaw)

abbrev Sound : List ℕ → ℕ → Type 0
Sound b n = AreAllowed IsInEntry entry_field_at entry_field_size IsAllowedInEntry IsShortEntry b n

sound : (b : List ℕ) (n : ℕ) → (10 ≤ n → IsAllowedInEntry Family b) → (get_or b 9 0 ≡ 4 → 17 ≤ n → IsAllowedInEntry Length_4 b)
    → (get_or b 9 0 ≡ 6 → 29 ≤ n → IsAllowedInEntry Length_6 b) → Sound b n
sound b n f l m Family i w = f w
sound b n f l m Length_4 i w = l i.1 w
sound b n f l m Length_6 i w = m i.1 w

no_fields : (b : List ℕ) (n k : ℕ) → kind_of b ≡ k → (k ≡ 1 → ⊥) → Sound b n
no_fields b n k kind other Family i w = absurd (other (sym kind ∙ i))
no_fields b n k kind other Length_4 i w = absurd (other (sym kind ∙ i.0))
no_fields b n k kind other Length_6 i w = absurd (other (sym kind ∙ i.0))

short : (b : List ℕ) → kind_of b ≡ 1 → (get_or b 9 0 ≡ 4 → length b < 17 + get_or b 16 0) → (get_or b 9 0 ≡ 6 → length b < 29 + get_or b 28 0) → IsShortEntry b
short b kind four six =
    record { datagram_4 = λ k f. four f; datagram_6 = λ k f. six f; quiet = λ k. absurd (omega arith); fault = λ k. omega arith }

is_kind : (b : List ℕ) (k : ℕ) → kind_of b ≡ k → 1 ≤ k → k ≤ 3 → IsKind (kind_of b)
is_kind b k e low high = (omega arith, omega arith)

zeros_bytes : IsBytes zeros_12
zeros_bytes = grind (arith, common_steps)

quiet_bytes : (b : List ℕ) (at : ℕ) → kind_of b ≡ 2 → 9 ≤ length b → be_64 at ≡ take 8 (drop 1 b) → take 9 b ≡ (2 ∷ []) ++ be_64 at
quiet_bytes b at kind some is =
    take-add 1 8 b ∙ ap (λ xs. xs ++ take 8 (drop 1 b)) (take_one b 0 (omega arith) ∙ ap (λ x. x ∷ []) kind) ∙ ap (λ xs. (2 ∷ []) ++ xs) (sym is)

address_4 : (field : List ℕ) → length field ≡ 4 → IsAddress field (field ++ zeros_12)
address_4 field long =
    record {
      size = omega (arith, length-append field zeros_12);
      front = take_at field zeros_12 (length field) refl;
      back = drop_at field zeros_12 (length field) refl ∙ sym (ap (λ n. drop n (0 ∷ 0 ∷ 0 ∷ 0 ∷ zeros_12)) long);
    }

address_6 : (field : List ℕ) → length field ≡ 16 → IsAddress field field
address_6 field long =
    record {
      size = long;
      front = take_all (length field) field (omega arith);
      back = drop_all (length field) field (omega arith) ∙ sym (ap (λ n. drop n (0 ∷ 0 ∷ 0 ∷ 0 ∷ zeros_12)) long);
    }

whole_datagram : Fields16AreExact → Fields64AreExact → (b ip : List ℕ) (size : ℕ) → IsBytes b → kind_of b ≡ 1
    → ((get_or b 9 0 ≡ 4) × (size ≡ 4)) ⊎ ((get_or b 9 0 ≡ 6) × (size ≡ 16)) → IsBytes ip → IsAddress (slice_range b 10 (10 + size)) ip
    → get_or b (10 + size + 2) 0 ≤ 64 → 10 + size + 2 + 1 + get_or b (10 + size + 2) 0 ≤ length b → Begins b
whole_datagram law16 law64 b ip size bytes kind family all_ip address low within =
    let len = get_or b (10 + size + 2) 0 in
    let at = law64.each_bytes (take 8 (drop 1 b)) (part_is_as_long 1 8 b (omega arith)) (part_bytes 1 8 b bytes) in
    let port = law16.each_bytes (take 2 (drop (10 + size) b)) (part_is_as_long (10 + size) 2 b (omega arith)) (part_bytes (10 + size) 2 b bytes) in
    let text = take 64 (slice_range b (10 + size + 2 + 1) (10 + size + 2 + 1 + len)) in
    let found = begins_datagram b ip text size at.0 port.0 len family (record {
      all = bytes;
      all_ip = all_ip;
      within = within;
      kind = kind;
      address = address;
      moment = at.2;
      at_fits = at.1;
      port_fits = port.1;
      port_is = port.2;
      len_is = refl;
      low = low;
      bytes_are = refl;
    }) in
    inl (_, _, found)

reads_4 : Fields16AreExact → Fields64AreExact → (b : List ℕ) → IsBytes b → kind_of b ≡ 1 → get_or b 9 0 ≡ 4 → 10 ≤ length b → Begins b
reads_4 law16 law64 b bytes kind four long =
    let kinds = is_kind b 1 kind (omega arith) (omega arith) in
    elim (cases_lt (length b) 17) [
      | inl cut ↦ inr (
        flaws.Cut,
        (
          omega arith,
          kinds,
          short b kind (λ f. omega arith) (λ f. absurd (omega arith)),
          sound b (length b) (λ w. inl four) (λ f w. absurd (omega arith)) (λ f w. absurd (omega arith)),
        ),
      )
      | inr there ↦ elim (cases_lt 64 (get_or b 16 0)) [
        | inl high ↦ inr (
          flaws.Field 16,
          (
            kinds,
            Length_4,
            record {
              is_in = (kind, four);
              whole = there;
              before = sound b 16 (λ w. inl four) (λ f w. absurd (omega arith)) (λ f w. absurd (omega arith));
              bad = λ good. omega (arith, good, high);
            },
            refl,
          ),
        )
        | inr low ↦ elim (cases_lt (length b) (17 + get_or b 16 0)) [
          | inl cut ↦ inr (
            flaws.Cut,
            (
              omega arith,
              kinds,
              short b kind (λ f. cut) (λ f. absurd (omega arith)),
              sound b (length b) (λ w. inl four) (λ f w. low) (λ f w. absurd (omega arith)),
            ),
          )
          | inr within ↦ let field = take 4 (drop 10 b) in
              whole_datagram law16 law64 b (field ++ zeros_12) 4 bytes kind (inl (four, refl)) (All-append (λ byte. byte < 2 ^ 8) field zeros_12 (part_bytes 10 4 b bytes) zeros_bytes)
              (address_4 field (part_is_as_long 10 4 b (omega arith))) low (omega arith)
        ]
      ]
    ]

reads_6 : Fields16AreExact → Fields64AreExact → (b : List ℕ) → IsBytes b → kind_of b ≡ 1 → get_or b 9 0 ≡ 6 → 10 ≤ length b → Begins b
reads_6 law16 law64 b bytes kind six long =
    let kinds = is_kind b 1 kind (omega arith) (omega arith) in
    elim (cases_lt (length b) 29) [
      | inl cut ↦ inr (
        flaws.Cut,
        (
          omega arith,
          kinds,
          short b kind (λ f. absurd (omega arith)) (λ f. omega arith),
          sound b (length b) (λ w. inr six) (λ f w. absurd (omega arith)) (λ f w. absurd (omega arith)),
        ),
      )
      | inr there ↦ elim (cases_lt 64 (get_or b 28 0)) [
        | inl high ↦ inr (
          flaws.Field 28,
          (
            kinds,
            Length_6,
            record {
              is_in = (kind, six);
              whole = there;
              before = sound b 28 (λ w. inr six) (λ f w. absurd (omega arith)) (λ f w. absurd (omega arith));
              bad = λ good. omega (arith, good, high);
            },
            refl,
          ),
        )
        | inr low ↦ elim (cases_lt (length b) (29 + get_or b 28 0)) [
          | inl cut ↦ inr (
            flaws.Cut,
            (
              omega arith,
              kinds,
              short b kind (λ f. absurd (omega arith)) (λ f. cut),
              sound b (length b) (λ w. inr six) (λ f w. absurd (omega arith)) (λ f w. low),
            ),
          )
          | inr within ↦ let field = take 16 (drop 10 b) in
              whole_datagram law16 law64 b field 16 bytes kind (inr (six, refl)) (part_bytes 10 16 b bytes)
              (address_6 field (part_is_as_long 10 16 b (omega arith))) low (omega arith)
        ]
      ]
    ]

other_family : (b : List ℕ) → (get_or b 9 0 ≡ 4 → ⊥) → (get_or b 9 0 ≡ 6 → ⊥) → (get_or b 9 0 ≡ 4) ⊎ (get_or b 9 0 ≡ 6) → ⊥
other_family b four six (inl h) = four h
other_family b four six (inr h) = six h

reads_datagram : Fields16AreExact → Fields64AreExact → (b : List ℕ) → IsBytes b → kind_of b ≡ 1 → 0 < length b → Begins b
reads_datagram law16 law64 b bytes kind some =
    let kinds = is_kind b 1 kind (omega arith) (omega arith) in
    elim (cases_lt (length b) 10) [
      | inl cut ↦ inr (
        flaws.Cut,
        (
          some,
          kinds,
          short b kind (λ f. omega arith) (λ f. omega arith),
          sound b (length b) (λ w. absurd (omega arith)) (λ f w. absurd (omega arith)) (λ f w. absurd (omega arith)),
        ),
      )
      | inr there ↦ elim (cases_eq (get_or b 9 0) 4) [
        | inl four ↦ reads_4 law16 law64 b bytes kind four there
        | inr not_4 ↦ elim (cases_eq (get_or b 9 0) 6) [
          | inl six ↦ reads_6 law16 law64 b bytes kind six there
          | inr not_6 ↦ inr (
            flaws.Field 9,
            (
              kinds,
              Family,
              record {
                is_in = kind;
                whole = there;
                before = sound b 9 (λ w. absurd (omega arith)) (λ f w. absurd (omega arith)) (λ f w. absurd (omega arith));
                bad = other_family b not_4 not_6;
              },
              refl,
            ),
          )
        ]
      ]
    ]

reads_quiet : Fields64AreExact → (b : List ℕ) → IsBytes b → kind_of b ≡ 2 → 0 < length b → Begins b
reads_quiet law b bytes kind some = elim (cases_lt (length b) 9) [
  | inl cut ↦ inr (
    flaws.Cut,
    (
      some,
      is_kind b 2 kind (omega arith) (omega arith),
      record { datagram_4 = λ k f. absurd (omega arith); datagram_6 = λ k f. absurd (omega arith); quiet = λ k. cut; fault = λ k. omega arith },
      no_fields b (length b) 2 kind (λ e. omega arith),
    ),
  )
  | inr there ↦ let at = law.each_bytes (take 8 (drop 1 b)) (part_is_as_long 1 8 b there) (part_bytes 1 8 b bytes) in
      inl (Quiet at.0, 9, record { some = omega arith; within = there; spelled = (at.1, quiet_bytes b at.0 kind there at.2) })
]

fault_bytes : (b : List ℕ) → kind_of b ≡ 3 → 0 < length b → BeginsWith SpellsEntry b Fault 1
fault_bytes b kind some = record { some = omega arith; within = some; spelled = (tt, take_one b 0 some ∙ ap (λ x. x ∷ []) kind) }

other_kind : (k : ℕ) → (k ≡ 1 → ⊥) → (k ≡ 2 → ⊥) → (k ≡ 3 → ⊥) → IsKind k → ⊥
other_kind k one two three h = omega (arith, h.0, h.1, one, two, three)

pub reads_entry : Fields16AreExact → Fields64AreExact → (b : List ℕ) → IsBytes b → 0 < length b → Begins b
reads_entry law16 law64 b bytes some = elim (cases_eq (kind_of b) 1) [
  | inl one ↦ reads_datagram law16 law64 b bytes one some
  | inr not_1 ↦ elim (cases_eq (kind_of b) 2) [
    | inl two ↦ reads_quiet law64 b bytes two some
    | inr not_2 ↦ elim (cases_eq (kind_of b) 3) [
      | inl three ↦ inl (Fault, 1, fault_bytes b three some)
      | inr not_3 ↦ inr (flaws.Kind (kind_of b), (some, refl, other_kind (kind_of b) not_1 not_2 not_3))
    ]
  ]
]
