-- Bytes begin with a record, or with a flaw of one.
use Rattle.std.proofs.Common.{◌≡◌, ◌⊎◌, ℕ, ◌<◌, ◌≤◌, List, [], ◌∷◌, ◌++◌, length, take, drop, get_or, inl, inr, refl, sym, ap, subst, ◌∙◌, arith}
use Rattle.std.proofs.lemmas.Bool.{cases_lt, cases_eq, cases_Bool, false≢true}
use Rattle.std.proofs.Math.Seq.{take-add}
use Rattle.std.specs.Prelude.{is_some}
use Rattle.m17_lists.proofs.Parts.{part_is_as_long}
use Rattle.m17_callsign.specs.Callsign.{HasCallsign}
use Rattle.m17_callsign.specs.Letters.{callsign_of}
use Rattle.m17_fields.specs.Fields.{be_32, be_64, IsBytes}
use Rattle.m17_control.specs.declared.event.Why.{Why}
use Rattle.m17_control.specs.declared.event.Why.TheVariants.{Asked, Moved, Silent, Stopped, Replaced}
use Rattle.m17_stream.specs.Laws.{ReadingIsExact}
use Rattle.m17_book.specs.Limits.{IsKind}
use Rattle.m17_book.specs.Parsed.{BeginsWith, HasHead}
use Rattle.m17_book.specs.Records.{SpellsRecord, head_bytes, why_code}
use Rattle.m17_book.specs.Flaws.{kind_of, RecordFlaw, IsAllowedInRecord, Link, Place, Listen, Callsign, Reason, Verdict_, Value, Packet}
use Rattle.m17_book.specs.declared.parse_record.Common.{Common}
use Rattle.m17_book.specs.declared.record.Record.{Record}
use Rattle.m17_book.specs.declared.record.Record.TheVariants as records
use Rattle.m17_book.specs.declared.refusal.Flaw.{Flaw}
use Rattle.m17_book.specs.declared.refusal.Flaw.TheVariants as flaws
use Rattle.m17_book.proofs.Begun.{begins_join, begins_packet, head_and_byte}
use Rattle.m17_book.proofs.Entry.{take_one, part_bytes}
use Rattle.m17_book.proofs.RecordClear.{FieldLaws, joins_within}
use Rattle.m17_book.proofs.Sound.{bad_field, sound_kind, sound_link, sound_head, sound_join, sound_verdict, sound_value, short_join, short_leave, short_packet, short_head}
use Rattle.m17_book.proofs.VerdictReads.{reads_value}
use Rattle.m17_callsign.specs.Callsign.{end_of_callsigns}
use Rattle.m17_book.specs.Versions.{highest_verdict, MayJoin}
use Rattle.m17_book.specs.declared.version.Version.TheVariants.{One, Two}
use Rattle.m17_book.specs.declared.version.Version.{Version}

-- the head of bytes that have room for it
whole_head : FieldLaws → (b : List ℕ) (place : ℕ) → IsBytes b → 30 ≤ length b → get_or b 1 0 < 4 → place < 256 → be_32 place ≡ take 4 (drop 18 b)
    → (head : Common) × HasHead b head
whole_head law b place bytes long link low is =
    let index = law.of_64.each_bytes (take 8 (drop 2 b)) (part_is_as_long 2 8 b (omega arith)) (part_bytes 2 8 b bytes) in
    let moment = law.of_64.each_bytes (take 8 (drop 10 b)) (part_is_as_long 10 8 b (omega arith)) (part_bytes 10 8 b bytes) in
    let generation = law.of_64.each_bytes (take 8 (drop 22 b)) (part_is_as_long 22 8 b (omega arith)) (part_bytes 22 8 b bytes) in
    let first = kind_of b ∷ get_or b 1 0 ∷ [] in
    let t₂ : take 2 b ≡ first = take_one b 1 (omega arith) ∙ ap (λ xs. xs ++ get_or b 1 0 ∷ []) (take_one b 0 (omega arith)) in
    let t₁₀ : take 10 b ≡ first ++ be_64 index.0 = take-add 2 8 b ∙ ap (λ xs. xs ++ take 8 (drop 2 b)) t₂ ∙ ap (λ xs. first ++ xs) (sym index.2) in
    let t₁₈ : take 18 b ≡ first ++ be_64 index.0 ++ be_64 moment.0 =
    take-add 10 8 b ∙ ap (λ xs. xs ++ take 8 (drop 10 b)) t₁₀ ∙ ap (λ xs. first ++ be_64 index.0 ++ xs) (sym moment.2) in
    let t₂₂ : take 22 b ≡ first ++ be_64 index.0 ++ be_64 moment.0 ++ be_32 place =
    take-add 18 4 b ∙ ap (λ xs. xs ++ take 4 (drop 18 b)) t₁₈ ∙ ap (λ xs. first ++ be_64 index.0 ++ be_64 moment.0 ++ xs) (sym is) in (
      record { tag = record { link = get_or b 1 0; index = index.0 }; moment = moment.0; member = record { place = place; generation = generation.0 } },
      record {
        within = long;
        fits = record { link = link; index = index.1; moment_fits = moment.1; place = low; generation = generation.1 };
        bytes_are = take-add 22 8 b ∙ ap (λ xs. xs ++ take 8 (drop 22 b)) t₂₂
            ∙ ap (λ xs. first ++ be_64 index.0 ++ be_64 moment.0 ++ be_32 place ++ xs) (sym generation.2);
        link = link;
        place = (place, low, is);
      },
    )

has_callsign : FieldLaws → (a : ℕ) → (HasCallsign a) ⊎ (HasCallsign a → ⊥)
has_callsign law a = elim (cases_Bool (is_some (callsign_of a))) [
  | inl some ↦ inl ((law.callsigns.in_range a).0 some)
  | inr none ↦ inr (λ has. false≢true (sym none ∙ (law.callsigns.in_range a).1 has))
]

why_of : (k : ℕ) → 1 ≤ k → k ≤ 5 → (why : Why) × (why_code why ≡ k)
why_of k low high = elim (cases_eq k 1) [
  | inl e ↦ (Asked, sym e)
  | inr n₁ ↦ elim (cases_eq k 2) [
    | inl e ↦ (Moved, sym e)
    | inr n₂ ↦ elim (cases_eq k 3) [
      | inl e ↦ (Silent, sym e)
      | inr n₃ ↦ elim (cases_eq k 4) [ inl e ↦ (Stopped, sym e) | inr n₄ ↦ (Replaced, omega (arith, n₁, n₂, n₃, n₄, low, high)) ]
    ]
  ]
]

is_kind : (k : ℕ) → (IsKind k) ⊎ (IsKind k → ⊥)
is_kind k = elim (cases_lt k 1) [
  | inl low ↦ inr (λ h. omega (arith, h.0))
  | inr low ↦ elim (cases_lt 3 k) [ inl high ↦ inr (λ h. omega (arith, h.1)) | inr high ↦ inl (low, high) ]
]

may_join : (version : Version) → FieldLaws → (a : ℕ) → (MayJoin version a) ⊎ (MayJoin version a → ⊥)
may_join One law a = elim (cases_lt 0 a) [
  | inr none ↦ inr (λ h. omega (arith, h.0, none))
  | inl some ↦ elim (cases_lt a end_of_callsigns) [ inl low ↦ inl (some, low) | inr high ↦ inr (λ h. omega (arith, h.1, high)) ]
]
may_join Two law a = has_callsign law a

highest_low : (version : Version) → highest_verdict version ≤ 9
highest_low One = omega arith
highest_low Two = omega arith

module _ (version : Version) where
  -- the bytes begin with a record, or with a flaw
  abbrev pub Begins : List ℕ → Type 0
  Begins b = ((value : Record) × (size : ℕ) × BeginsWith (SpellsRecord version) b value size) ⊎ ((flaw : Flaw) × RecordFlaw version b flaw)

  reads_head : FieldLaws → (b : List ℕ) → IsBytes b → 0 < length b → IsKind (kind_of b) → ((head : Common) × HasHead b head) ⊎ ((flaw : Flaw) × RecordFlaw version b flaw)
  reads_head law b bytes some known = elim (cases_lt (length b) 2) [
    | inl cut ↦ inr (flaws.Cut, (some, known, short_head b (omega arith), sound_kind version b (length b) cut))
    | inr l₂ ↦ elim (cases_lt (get_or b 1 0) 4) [
      | inr high ↦ inr (flaws.Field 1, bad_field version b Link known tt l₂ (sound_kind version b 1 (omega arith)) (λ low. omega (arith, low, high)))
      | inl link ↦ elim (cases_lt (length b) 22) [
        | inl cut ↦ inr (flaws.Cut, (some, known, short_head b (omega arith), sound_link version b (length b) cut link))
        | inr l₂₂ ↦ let place = law.of_32.each_bytes (take 4 (drop 18 b)) (part_is_as_long 18 4 b l₂₂) (part_bytes 18 4 b bytes) in
            elim (cases_lt place.0 256) [
              | inr high ↦ inr (
                flaws.Field 18,
                bad_field version b Place known tt l₂₂ (sound_link version b 18 (omega arith) link)
                    (λ p. omega (arith, law.of_32.one_number p.0 place.0 (omega (arith, p.1)) place.1 (p.2 ∙ sym place.2), p.1, high)),
              )
              | inl low ↦ elim (cases_lt (length b) 30) [
                | inl cut ↦ inr (flaws.Cut, (some, known, short_head b cut, sound_head version b (length b) (omega arith) link (place.0, low, place.2)))
                | inr l₃₀ ↦ inl (whole_head law b place.0 bytes l₃₀ link low place.2)
              ]
            ]
      ]
    ]
  ]

  reads_join : FieldLaws → (b : List ℕ) (head : Common) → IsBytes b → HasHead b head → kind_of b ≡ 1 → IsKind (kind_of b) → Begins b
  reads_join law b head bytes h kind known = elim (cases_lt (length b) 31) [
    | inl cut ↦ inr (flaws.Cut, (omega (arith, h.within), known, short_join b kind (omega arith), sound_head version b (length b) cut h.link h.place))
    | inr l₃₁ ↦ elim (cases_lt (get_or b 30 0) 2) [
      | inr high ↦ inr (flaws.Field 30, bad_field version b Listen known kind l₃₁ (sound_head version b 30 (omega arith) h.link h.place) (λ low. omega (arith, low, high)))
      | inl low ↦ elim (cases_lt (length b) 37) [
        | inl cut ↦ inr (flaws.Cut, (omega (arith, h.within), known, short_join b kind cut, sound_join version b (length b) cut kind h.link h.place low))
        | inr l₃₇ ↦ let call = law.of_48.each_bytes (take 6 (drop 31 b)) (part_is_as_long 31 6 b l₃₇) (part_bytes 31 6 b bytes) in
            elim (may_join version law call.0) [
              | inl good ↦ inl (_, _, begins_join version b head call.0 h kind l₃₇ low good call.2)
              | inr bad ↦ inr (
                flaws.Field 31,
                bad_field version b Callsign known kind l₃₇ (sound_join version b 31 (omega arith) kind h.link h.place low)
                    (λ good. bad (subst (MayJoin version) (law.of_48.one_number good.0 call.0 (joins_within version law good.0 good.1) call.1 (good.2 ∙ sym call.2)) good.1)),
              )
            ]
      ]
    ]
  ]

  begins_leave : (b : List ℕ) (head : Common) (why : Why) → HasHead b head → kind_of b ≡ 2 → 31 ≤ length b → why_code why ≡ get_or b 30 0
      → BeginsWith (SpellsRecord version) b (records.Leave head.tag head.moment head.member why) 31
  begins_leave b head why h kind long is =
      record {
        some = omega arith;
        within = long;
        spelled = (h.fits, head_and_byte b head 2 h kind long ∙ ap (λ n. head_bytes 2 head.tag head.moment head.member ++ (n ∷ [])) (sym is));
      }

  reads_leave : (b : List ℕ) (head : Common) → HasHead b head → kind_of b ≡ 2 → IsKind (kind_of b) → Begins b
  reads_leave b head h kind known = elim (cases_lt (length b) 31) [
    | inl cut ↦ inr (flaws.Cut, (omega (arith, h.within), known, short_leave b kind cut, sound_head version b (length b) cut h.link h.place))
    | inr l₃₁ ↦ elim (cases_lt (get_or b 30 0) 1) [
      | inl low ↦ inr (flaws.Field 30, bad_field version b Reason known kind l₃₁ (sound_head version b 30 (omega arith) h.link h.place) (λ r. omega (arith, r.0, low)))
      | inr low ↦ elim (cases_lt 5 (get_or b 30 0)) [
        | inl high ↦ inr (flaws.Field 30, bad_field version b Reason known kind l₃₁ (sound_head version b 30 (omega arith) h.link h.place) (λ r. omega (arith, r.1, high)))
        | inr high ↦ let why = why_of (get_or b 30 0) low high in inl (_, _, begins_leave b head why.0 h kind l₃₁ why.1)
      ]
    ]
  ]

  reads_stream : ReadingIsExact → FieldLaws → (b : List ℕ) (head : Common) → IsBytes b → HasHead b head → kind_of b ≡ 3 → IsKind (kind_of b)
      → 43 ≤ length b → IsAllowedInRecord version Verdict_ b → (value : IsAllowedInRecord version Value b) → Begins b
  reads_stream exact law b head bytes h kind known l₄₃ code value = elim (cases_lt (length b) 97) [
    | inl cut ↦ inr (flaws.Cut, (omega (arith, h.within), known, short_packet b kind cut, sound_value version b (length b) cut kind h.link h.place code value))
    | inr l₉₇ ↦ elim (exact (take 54 (drop 43 b)) (part_bytes 43 54 b bytes)) [
      | inl one ↦ inl (_, _, begins_packet version b head value.0 one.0 h kind l₉₇ (omega (arith, value.2, code.1)) (value.1, value.2, value.3) one.1.spelled)
      | inr none ↦ inr (
        flaws.Field 43,
        bad_field version b Packet known kind l₉₇ (sound_value version b 43 (omega arith) kind h.link h.place code value)
            (λ good. none.1.no_value good.0 good.1),
      )
    ]
  ]

  reads_packet : ReadingIsExact → FieldLaws → (b : List ℕ) (head : Common) → IsBytes b → HasHead b head → kind_of b ≡ 3 → IsKind (kind_of b) → Begins b
  reads_packet exact law b head bytes h kind known = elim (cases_lt (length b) 31) [
    | inl cut ↦ inr (flaws.Cut, (omega (arith, h.within), known, short_packet b kind (omega arith), sound_head version b (length b) cut h.link h.place))
    | inr l₃₁ ↦ elim (cases_lt (get_or b 30 0) 1) [
      | inl low ↦ inr (flaws.Field 30, bad_field version b Verdict_ known kind l₃₁ (sound_head version b 30 (omega arith) h.link h.place) (λ r. omega (arith, r.0, low)))
      | inr low ↦ elim (cases_lt (highest_verdict version) (get_or b 30 0)) [
        | inl high ↦ inr (flaws.Field 30, bad_field version b Verdict_ known kind l₃₁ (sound_head version b 30 (omega arith) h.link h.place) (λ r. omega (arith, r.1, high)))
        | inr high ↦ elim (cases_lt (length b) 43) [
          | inl cut ↦ inr (flaws.Cut, (omega (arith, h.within), known, short_packet b kind (omega arith), sound_verdict version b (length b) cut kind h.link h.place (low, high)))
          | inr l₄₃ ↦ elim (reads_value law (get_or b 30 0) (take 12 (drop 31 b)) low (omega (arith, high, highest_low version)) (part_bytes 31 12 b bytes) (part_is_as_long 31 12 b l₄₃)) [
            | inl found ↦ reads_stream exact law b head bytes h kind known l₄₃ (low, high) (found.0, found.1.0, found.1.1, found.1.2)
            | inr none ↦ inr (
              flaws.Field 31,
              bad_field version b Value known kind l₄₃ (sound_verdict version b 31 (omega arith) kind h.link h.place (low, high))
                  (λ good. none good.0 (good.1, good.2, good.3)),
            )
          ]
        ]
      ]
    ]
  ]

  by_kind : ReadingIsExact → FieldLaws → (b : List ℕ) (head : Common) → IsBytes b → HasHead b head → IsKind (kind_of b) → Begins b
  by_kind exact law b head bytes h known = elim (cases_eq (kind_of b) 1) [
    | inl one ↦ reads_join law b head bytes h one known
    | inr n₁ ↦ elim (cases_eq (kind_of b) 2) [
      | inl two ↦ reads_leave b head h two known
      | inr n₂ ↦ reads_packet exact law b head bytes h (omega (arith, n₁, n₂, known.0, known.1)) known
    ]
  ]

  pub reads_record : ReadingIsExact → FieldLaws → (b : List ℕ) → IsBytes b → 0 < length b → Begins b
  reads_record exact law b bytes some = elim (is_kind (kind_of b)) [
    | inr other ↦ inr (flaws.Kind (kind_of b), (some, refl, other))
    | inl known ↦ elim (reads_head law b bytes some known) [
      | inl found ↦ by_kind exact law b found.0 bytes found.1 known
      | inr bad ↦ inr bad
    ]
  ]
