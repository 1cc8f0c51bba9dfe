-- Bytes are the trace of one heard list, or are refused as one for one reason.
use Rattle.std.proofs.Common.{◌≡◌, ◌⊎◌, ℕ, ◌<◌, ◌≤◌, ◌^◌, List, [], ◌∷◌, ◌++◌, length, drop, inl, inr, refl, sym, ap, subst, ◌∙◌, arith, append_assoc}
use Rattle.std.proofs.lemmas.Bool.{cases_lt}
use Rattle.std.proofs.lemmas.List.{append_cancel_left, append-nil}
use Rattle.std.proofs.lemmas.List.Elements.{All-drop}
use Rattle.m17_fields.specs.Fields.{IsBytes, Fields16AreExact, Fields64AreExact}
use Rattle.m17_fields.specs.Reading.{HasOneReading}
use Rattle.m17_values.specs.declared.heard.Heard.{Heard}
use Rattle.m17_values.specs.declared.heard.Heard.TheVariants.{End}
use Rattle.m17_book.specs.Book.{MagicFlaw, trace_magic, IsTrace, HasTraceForm, HasTooMany, LacksTraceForm, RefusesTrace}
use Rattle.m17_book.specs.Entries.{SpellsEntry}
use Rattle.m17_book.specs.Flaws.{EntryFlaw}
use Rattle.m17_book.specs.Laws.{IsClear, TracesAreExact}
use Rattle.m17_book.specs.Limits.{most_trace_bytes, most_entries, SpellsEach}
use Rattle.m17_book.specs.declared.refusal.Flaw.{Flaw}
use Rattle.m17_book.specs.declared.refusal.FormRefusal.{FormRefusal}
use Rattle.m17_book.specs.declared.refusal.FormRefusal.TheVariants.{Large}
use Rattle.m17_book.proofs.EntryClear.{clear}
use Rattle.m17_book.proofs.EntryReads.{reads_entry}
use Rattle.m17_book.proofs.OneFlaw.{one_entry_flaw}
use Rattle.m17_book.proofs.Readable.{Stop, at_end, too_many, wrong, reads_all}
use Rattle.m17_book.proofs.Readings.{one_list, whole_or_flawed, one_stop, whole_or_many, same_many, many_or_flawed}
use Rattle.m17_book.proofs.Told.{say, flaw_of, tells, one_told, magic_not_refused, one_magic_flaw, reads_magic}

-- the bytes behind the magic
behind_magic : (bytes front rest body : List ℕ) → bytes ≡ front ++ rest → front ≡ trace_magic ++ body → bytes ≡ trace_magic ++ (body ++ rest)
behind_magic bytes front rest body e f = e ∙ ap (λ xs. xs ++ rest) f ∙ append_assoc trace_magic body rest

same_behind : (bytes x y : List ℕ) → bytes ≡ trace_magic ++ x → bytes ≡ trace_magic ++ y → x ≡ y
same_behind bytes x y e f = append_cancel_left trace_magic x y (sym e ∙ f)

-- a reading that stops: its entries, and what is to come behind them
record Stopped (bytes : List ℕ) (entries : List Heard) (body rest : List ℕ) : Type 0 where
  spelled : SpellsEach SpellsEntry entries body
  whole : bytes ≡ trace_magic ++ (body ++ rest)

stopped : (bytes front rest : List ℕ) (entries : List Heard) → bytes ≡ front ++ rest → (form : HasTraceForm front entries) → Stopped bytes entries form.0 rest
stopped bytes front rest entries e form = record { spelled = form.1; whole = behind_magic bytes front rest form.0 e form.2 }

module _ (c : IsClear SpellsEntry EntryFlaw) where
  one_trace : (bytes : List ℕ) (a b : List Heard) → IsTrace bytes a → IsTrace bytes b → a ≡ b
  one_trace bytes a b h k =
      let body = same_behind bytes h.3.0 k.3.0 h.3.2 k.3.2 in
      let entries = one_list SpellsEntry EntryFlaw c h.1 k.1 k.3.0 (subst (λ (xs : List ℕ). SpellsEach SpellsEntry h.1 xs) body h.3.1) k.3.1 in
      h.4 ∙ ap (λ (es : List Heard). es ++ End ∷ []) entries ∙ sym k.4

  trace_or_many : (bytes : List ℕ) (heard : List Heard) (refusal : FormRefusal) → IsTrace bytes heard → HasTooMany bytes refusal → ⊥
  trace_or_many bytes heard refusal h k =
      let s = stopped bytes k.1 k.2 k.0 k.3 k.4 in
      whole_or_many SpellsEntry EntryFlaw c h.1 k.0 h.3.0 k.4.0 k.2 h.3.1 s.spelled (same_behind bytes h.3.0 _ h.3.2 s.whole) (omega (arith, h.2, k.5)) k.6

  trace_or_lacks : (bytes : List ℕ) (heard : List Heard) (refusal : FormRefusal) → IsTrace bytes heard → LacksTraceForm bytes refusal → ⊥
  trace_or_lacks bytes heard refusal h (inl k) = magic_not_refused trace_magic h.3.0 bytes refusal refl h.3.2 k
  trace_or_lacks bytes heard refusal h (inr k) =
      let s = stopped bytes k.1 k.2 k.0 k.3 k.4 in
      let f = flaw_of EntryFlaw k.2 (length k.1) refusal k.6 in
      whole_or_flawed SpellsEntry EntryFlaw c h.1 k.0 h.3.0 k.4.0 k.2 f.0 h.3.1 s.spelled (same_behind bytes h.3.0 _ h.3.2 s.whole) f.1

  trace_not_refused : (bytes : List ℕ) (heard : List Heard) (refusal : FormRefusal) → IsTrace bytes heard → RefusesTrace bytes refusal → ⊥
  trace_not_refused bytes heard refusal h (inl k) = omega (arith, h.0, k.0)
  trace_not_refused bytes heard refusal h (inr (k, inl many)) = trace_or_many bytes heard refusal h many
  trace_not_refused bytes heard refusal h (inr (k, inr lacks)) = trace_or_lacks bytes heard refusal h lacks

  one_many : (bytes : List ℕ) (a b : FormRefusal) → HasTooMany bytes a → HasTooMany bytes b → a ≡ b
  one_many bytes a b h k =
      let s = stopped bytes h.1 h.2 h.0 h.3 h.4 in
      let t = stopped bytes k.1 k.2 k.0 k.3 k.4 in
      let body = same_many SpellsEntry EntryFlaw c h.0 k.0 h.4.0 k.4.0 h.2 k.2 s.spelled t.spelled (same_behind bytes _ _ s.whole t.whole) (h.5 ∙ sym k.5) in
      let front : h.1 ≡ k.1 = h.4.2 ∙ ap (λ xs. trace_magic ++ xs) body ∙ sym k.4.2 in
      h.7 ∙ ap (λ (xs : List ℕ). Large (length xs)) front ∙ sym k.7

  many_or_lacks : (bytes : List ℕ) (a b : FormRefusal) → HasTooMany bytes a → LacksTraceForm bytes b → ⊥
  many_or_lacks bytes a b h (inl k) =
      magic_not_refused trace_magic (h.4.0 ++ h.2) bytes b refl (stopped bytes h.1 h.2 h.0 h.3 h.4).whole k
  many_or_lacks bytes a b h (inr k) =
      let s = stopped bytes h.1 h.2 h.0 h.3 h.4 in
      let t = stopped bytes k.1 k.2 k.0 k.3 k.4 in
      let f = flaw_of EntryFlaw k.2 (length k.1) b k.6 in
      many_or_flawed SpellsEntry EntryFlaw c h.0 k.0 h.4.0 k.4.0 h.2 k.2 f.0 s.spelled t.spelled (same_behind bytes _ _ s.whole t.whole)
      (omega (arith, h.5, k.5)) f.1

  one_lack : (bytes : List ℕ) (a b : FormRefusal) → LacksTraceForm bytes a → LacksTraceForm bytes b → a ≡ b
  one_lack bytes a b (inl h) (inl k) = one_told (MagicFlaw trace_magic) (one_magic_flaw trace_magic) bytes 0 a b h k
  one_lack bytes a b (inl h) (inr k) =
      absurd (magic_not_refused trace_magic (k.4.0 ++ k.2) bytes a refl (stopped bytes k.1 k.2 k.0 k.3 k.4).whole h)
  one_lack bytes a b (inr h) (inl k) =
      absurd (magic_not_refused trace_magic (h.4.0 ++ h.2) bytes b refl (stopped bytes h.1 h.2 h.0 h.3 h.4).whole k)
  one_lack bytes a b (inr h) (inr k) =
      let s = stopped bytes h.1 h.2 h.0 h.3 h.4 in
      let t = stopped bytes k.1 k.2 k.0 k.3 k.4 in
      let f = flaw_of EntryFlaw h.2 (length h.1) a h.6 in
      let g = flaw_of EntryFlaw k.2 (length k.1) b k.6 in
      let same = one_stop SpellsEntry EntryFlaw c h.0 k.0 h.4.0 k.4.0 h.2 k.2 f.0 g.0 s.spelled t.spelled (same_behind bytes _ _ s.whole t.whole) f.1 g.1 in
      let front : h.1 ≡ k.1 = h.4.2 ∙ ap (λ xs. trace_magic ++ xs) same.0 ∙ sym k.4.2 in
      f.2 ∙ ap (λ (x : Flaw). say x (length h.1) (length h.2)) same.2 ∙ ap (λ (xs : List ℕ). say g.0 (length xs) (length h.2)) front
      ∙ ap (λ (xs : List ℕ). say g.0 (length k.1) (length xs)) same.1 ∙ sym g.2

  one_reason : (bytes : List ℕ) (a b : FormRefusal) → HasTooMany bytes a ⊎ LacksTraceForm bytes a → HasTooMany bytes b ⊎ LacksTraceForm bytes b → a ≡ b
  one_reason bytes a b (inl h) (inl k) = one_many bytes a b h k
  one_reason bytes a b (inl h) (inr k) = absurd (many_or_lacks bytes a b h k)
  one_reason bytes a b (inr h) (inl k) = absurd (many_or_lacks bytes b a k h)
  one_reason bytes a b (inr h) (inr k) = one_lack bytes a b h k

  one_trace_refusal : (bytes : List ℕ) (a b : FormRefusal) → RefusesTrace bytes a → RefusesTrace bytes b → a ≡ b
  one_trace_refusal bytes a b (inl h) (inl k) = h.1 ∙ sym k.1
  one_trace_refusal bytes a b (inl h) (inr k) = absurd (omega (arith, h.0, k.0))
  one_trace_refusal bytes a b (inr h) (inl k) = absurd (omega (arith, k.0, h.0))
  one_trace_refusal bytes a b (inr h) (inr k) = one_reason bytes a b h.1 k.1

-- a trace or a refusal
abbrev Reads : List ℕ → Type 0
Reads bytes = ((heard : List Heard) × IsTrace bytes heard) ⊎ ((refusal : FormRefusal) × RefusesTrace bytes refusal)

by_stop : (bytes : List ℕ) (entries : List Heard) (front rest : List ℕ) → length bytes ≤ most_trace_bytes → bytes ≡ trace_magic ++ (front ++ rest)
    → SpellsEach SpellsEntry entries front → length entries ≤ most_entries → Stop EntryFlaw most_entries entries rest → Reads bytes
by_stop bytes entries front rest size e spelled few (at_end none) =
    let whole : bytes ≡ trace_magic ++ front = e ∙ ap (λ xs. trace_magic ++ (front ++ xs)) none ∙ ap (λ xs. trace_magic ++ xs) (append-nil front) in
    inl (entries ++ End ∷ [], (size, entries, few, (front, spelled, whole), refl))
by_stop bytes entries front rest size e spelled few (too_many all more) =
    inr (
      Large (length (trace_magic ++ front)),
      inr (
        size,
        inl (
          entries,
          trace_magic ++ front,
          rest,
          e ∙ sym (append_assoc trace_magic front rest),
          (front, spelled, refl),
          all,
          more,
          refl,
        ),
      ),
    )
by_stop bytes entries front rest size e spelled few (wrong flaw low bad) =
    inr (
      say flaw (length (trace_magic ++ front)) (length rest),
      inr (
        size,
        inr (inr (
          entries,
          trace_magic ++ front,
          rest,
          e ∙ sym (append_assoc trace_magic front rest),
          (front, spelled, refl),
          low,
          tells EntryFlaw rest (length (trace_magic ++ front)) flaw bad,
        )),
      ),
    )

reads_trace : Fields16AreExact → Fields64AreExact → (n : ℕ) → n ≡ most_entries → (bytes : List ℕ) → IsBytes bytes → Reads bytes
reads_trace law16 law64 n most bytes all = elim (cases_lt most_trace_bytes (length bytes)) [
  | inl large ↦ inr (Large most_trace_bytes, inl (large, refl))
  | inr size ↦ elim (reads_magic trace_magic bytes refl) [
    | inr bad ↦ inr (say bad.0 0 (length bytes), inr (size, inr (inl (tells (MagicFlaw trace_magic) bytes 0 bad.0 bad.1))))
    | inl found ↦ let body : IsBytes found.0 = subst (λ (xs : List ℕ). IsBytes xs) (ap (drop 8) found.1) (All-drop (λ byte. byte < 2 ^ 8) 8 bytes all) in
        let r = reads_all SpellsEntry EntryFlaw (reads_entry law16 law64) n found.0 body in
        by_stop bytes r.values r.front r.rest size (found.1 ∙ ap (λ xs. trace_magic ++ xs) r.split) r.spelled (omega (arith, r.few))
        (subst (λ (m : ℕ). Stop EntryFlaw m r.values r.rest) most r.stop)
  ]
]

one_reading : IsClear SpellsEntry EntryFlaw → (bytes : List ℕ) → Reads bytes → HasOneReading (λ heard b. IsTrace b heard) RefusesTrace bytes
one_reading c bytes (inl found) =
    inl (
      found.0,
      record {
        spelled = found.1;
        no_other = λ other h. one_trace c bytes other found.0 h found.1;
        no_refusal = λ refusal k. trace_not_refused c bytes found.0 refusal found.1 k;
      },
    )
one_reading c bytes (inr found) =
    inr (
      found.0,
      record {
        refused = found.1;
        no_other = λ other k. one_trace_refusal c bytes other found.0 k found.1;
        no_value = λ heard h. trace_not_refused c bytes heard found.0 h found.1;
      },
    )

pub traces_are_exact : Fields16AreExact → Fields64AreExact → TracesAreExact
traces_are_exact law16 law64 =
    let c = clear law16 law64 one_entry_flaw in
    record {
      one_value = one_trace c;
      one_refusal = one_trace_refusal c;
      not_both = trace_not_refused c;
      one_reading = λ bytes all. one_reading c bytes (reads_trace law16 law64 most_entries refl bytes all);
    }
