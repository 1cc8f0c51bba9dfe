-- Bytes are the book of one module and one list of records, or are refused as one for one reason.
use Rattle.std.proofs.Common.{◌≡◌, ◌⊎◌, ℕ, ◌<◌, ◌≤◌, ◌^◌, None, Some, List, [], ◌++◌, length, drop, inl, inr, refl, sym, ap, subst, ◌∙◌, arith, append_assoc, length-append}
use Rattle.std.proofs.lemmas.Bool.{cases_lt}
use Rattle.std.proofs.lemmas.List.{append-nil, drop_at}
use Rattle.std.proofs.lemmas.List.Elements.{All-drop}
use Rattle.m17_fields.specs.Fields.{IsBytes, Fields64AreExact}
use Rattle.m17_fields.specs.Reading.{HasOneReading}
use Rattle.m17_book.specs.Book.{BookHeaderFlaw, HasBookForm, StopsBook, LacksBookForm, IsBook, RefusesBook}
use Rattle.m17_book.specs.Flaws.{RecordFlaw}
use Rattle.m17_book.specs.Laws.{IsClear, IsExactForm, BookKept, BooksOfAreExact}
use Rattle.m17_book.specs.Limits.{SpellsEach}
use Rattle.m17_book.specs.Parsed.{BeginsWith}
use Rattle.m17_book.specs.Records.{SpellsRecord}
use Rattle.m17_book.specs.declared.record.Record.{Record}
use Rattle.m17_book.specs.declared.refusal.Flaw.{Flaw}
use Rattle.m17_book.specs.declared.refusal.Flaw.TheVariants as flaws
use Rattle.m17_book.specs.declared.refusal.FormRefusal.{FormRefusal}
use Rattle.m17_book.specs.declared.refusal.FormRefusal.TheVariants.{Large}
use Rattle.m17_book.proofs.Readable.{Stop, at_end, too_many, wrong, reads_all}
use Rattle.m17_book.proofs.Readings.{one_list, whole_or_flawed, one_stop, few_values}
use Rattle.m17_book.proofs.Told.{say, flaw_of, tells, one_told, reads_magic}
use Rattle.m17_book.specs.declared.head.Head.{Head}
use Rattle.m17_book.specs.Versions.{book_magic, book_header, header_size, most_book_bytes, FitsHeader}
use Rattle.m17_book.proofs.Headers.{header_long, same_header, one_head, one_header_flaw, header_not_refused, reads_letter}
use Rattle.m17_book.specs.declared.version.Version.{Version}

module _ (version : Version) where
  -- a reading that stops: its records, and what is to come behind them
  pub record Stopped (bytes : List ℕ) (head : Head) (records : List Record) (body rest : List ℕ) : Type 0 where
    pub spelled : SpellsEach (SpellsRecord version) records body
    pub whole : bytes ≡ book_header version head ++ (body ++ rest)

  pub stopped : (bytes : List ℕ) (head : Head) (records : List Record) (front rest : List ℕ) → bytes ≡ front ++ rest → (form : HasBookForm version front head records)
      → Stopped bytes head records form.1 rest
  stopped bytes head records front rest e form =
      record { spelled = form.2; whole = e ∙ ap (λ xs. xs ++ rest) form.3 ∙ append_assoc (book_header version head) form.1 rest }

  kept_eq : (a b : BookKept) → a.header ≡ b.header → a.records ≡ b.records → a ≡ b
  kept_eq a b l r = ap (λ (x : Head). record a { header = x }) l ∙ ap (λ (x : List Record). record b { records = x }) r

  abbrev HasForm : List ℕ → BookKept → Type 0
  HasForm bytes kept = HasBookForm version bytes kept.header kept.records

  module _ (c : IsClear (SpellsRecord version) (RecordFlaw version)) (law : Fields64AreExact) where
    one_form : (bytes : List ℕ) (a b : BookKept) → HasForm bytes a → HasForm bytes b → a ≡ b
    one_form bytes a b h k =
        let same = same_header version bytes a.header b.header h.1 k.1 h.3 k.3 in
        kept_eq a b (one_head version law a.header b.header h.0 k.0 same.header) (one_list (SpellsRecord version) (RecordFlaw version) c a.records b.records k.1
        (subst (λ (xs : List ℕ). SpellsEach (SpellsRecord version) a.records xs) same.rest h.2) k.2)

    form_not_refused : (bytes : List ℕ) (kept : BookKept) (refusal : FormRefusal) → HasForm bytes kept → LacksBookForm version bytes refusal → ⊥
    form_not_refused bytes kept refusal h (None, records, k) = header_not_refused version bytes kept.header h.1 refusal h.0 h.3 k.1
    form_not_refused bytes kept refusal h (Some head, records, k) =
        let s = stopped bytes head records k.0 k.1 k.2 k.3 in
        let f = flaw_of (RecordFlaw version) k.1 (length k.0) refusal k.4 in
        whole_or_flawed (SpellsRecord version) (RecordFlaw version) c kept.records records h.1 k.3.1 k.1 f.0 h.2 s.spelled
        (same_header version bytes kept.header head h.1 (k.3.1 ++ k.1) h.3 s.whole).rest f.1

    one_stop_more : (bytes : List ℕ) (l m : Head) (records others : List Record) (a b : FormRefusal) → StopsBook version bytes (Some l) records a
        → StopsBook version bytes (Some m) others b → a ≡ b
    one_stop_more bytes l m records others a b h k =
        let s = stopped bytes l records h.0 h.1 h.2 h.3 in
        let t = stopped bytes m others k.0 k.1 k.2 k.3 in
        let f = flaw_of (RecordFlaw version) h.1 (length h.0) a h.4 in
        let g = flaw_of (RecordFlaw version) k.1 (length k.0) b k.4 in
        let header = same_header version bytes l m (h.3.1 ++ h.1) (k.3.1 ++ k.1) s.whole t.whole in
        let same = one_stop (SpellsRecord version) (RecordFlaw version) c records others h.3.1 k.3.1 h.1 k.1 f.0 g.0 s.spelled t.spelled header.rest f.1 g.1 in
        let front : h.0 ≡ k.0 = h.3.3 ∙ ap (λ xs. xs ++ h.3.1) header.header ∙ ap (λ xs. book_header version m ++ xs) same.0 ∙ sym k.3.3 in
        f.2 ∙ ap (λ (x : Flaw). say x (length h.0) (length h.1)) same.2 ∙ ap (λ (xs : List ℕ). say g.0 (length xs) (length h.1)) front
        ∙ ap (λ (xs : List ℕ). say g.0 (length k.0) (length xs)) same.1 ∙ sym g.2

    one_lack : (bytes : List ℕ) (a b : FormRefusal) → LacksBookForm version bytes a → LacksBookForm version bytes b → a ≡ b
    one_lack bytes a b (None, records, h) (None, others, k) = one_told (BookHeaderFlaw version) (one_header_flaw version) bytes 0 a b h.1 k.1
    one_lack bytes a b (None, records, h) (Some m, others, k) =
        absurd (header_not_refused version bytes m (k.3.1 ++ k.1) a k.3.0 (stopped bytes m others k.0 k.1 k.2 k.3).whole h.1)
    one_lack bytes a b (Some l, records, h) (None, others, k) =
        absurd (header_not_refused version bytes l (h.3.1 ++ h.1) b h.3.0 (stopped bytes l records h.0 h.1 h.2 h.3).whole k.1)
    one_lack bytes a b (Some l, records, h) (Some m, others, k) = one_stop_more bytes l m records others a b h k

    book_not_refused : (bytes : List ℕ) (kept : BookKept) (refusal : FormRefusal) → IsBook version bytes kept.header kept.records → RefusesBook version bytes refusal → ⊥
    book_not_refused bytes kept refusal h (inl k) = omega (arith, h.0, k.0)
    book_not_refused bytes kept refusal h (inr k) = form_not_refused bytes kept refusal h.1 k.1

    one_book_refusal : (bytes : List ℕ) (a b : FormRefusal) → RefusesBook version bytes a → RefusesBook version bytes b → a ≡ b
    one_book_refusal bytes a b (inl h) (inl k) = h.1 ∙ sym k.1
    one_book_refusal bytes a b (inl h) (inr k) = absurd (omega (arith, h.0, k.0))
    one_book_refusal bytes a b (inr h) (inl k) = absurd (omega (arith, k.0, h.0))
    one_book_refusal bytes a b (inr h) (inr k) = one_lack bytes a b h.1 k.1

  -- a book or a refusal, of whatever size
  abbrev pub ReadsForm : List ℕ → Type 0
  ReadsForm bytes = ((kept : BookKept) × HasForm bytes kept) ⊎ ((refusal : FormRefusal) × LacksBookForm version bytes refusal)

  by_stop : IsClear (SpellsRecord version) (RecordFlaw version) → (bytes : List ℕ) (head : Head) (n : ℕ) (records : List Record) (body front rest : List ℕ) → FitsHeader version head
      → bytes ≡ book_header version head ++ body → body ≡ front ++ rest → n ≡ length body → SpellsEach (SpellsRecord version) records front → Stop (RecordFlaw version) n records rest
      → ReadsForm bytes
  by_stop c bytes head n records body front rest good e split size spelled (at_end none) =
      inl (
        record { header = head; records = records },
        (
          good,
          front,
          spelled,
          e ∙ ap (λ xs. book_header version head ++ xs) (split ∙ ap (λ xs. front ++ xs) none ∙ append-nil front),
        ),
      )
  by_stop c bytes head n records body front rest good e split size spelled (too_many all more) =
      absurd (omega (arith, few_values (SpellsRecord version) (RecordFlaw version) c records front spelled, ap length split, length-append front rest, all, more, size))
  by_stop c bytes head n records body front rest good e split size spelled (wrong flaw low bad) =
      let whole = e ∙ ap (λ xs. book_header version head ++ xs) split ∙ sym (append_assoc (book_header version head) front rest) in
      inr (
        say flaw (length (book_header version head ++ front)) (length rest),
        (
          Some head,
          records,
          (
            book_header version head ++ front,
            rest,
            whole,
            (good, front, spelled, refl),
            tells (RecordFlaw version) rest (length (book_header version head ++ front)) flaw bad,
          ),
        ),
      )

  module _ (c : IsClear (SpellsRecord version) (RecordFlaw version)) (law : Fields64AreExact)
      (reads_one : (b : List ℕ) → IsBytes b → 0 < length b → ((value : Record) × (size : ℕ) × BeginsWith (SpellsRecord version) b value size) ⊎ ((flaw : Flaw) × RecordFlaw version b flaw)) where
    reads_form : (bytes : List ℕ) → IsBytes bytes → ReadsForm bytes
    reads_form bytes all = elim (reads_magic (book_magic version) bytes refl) [
      | inr bad ↦ inr (say bad.0 0 (length bytes), (None, [], (refl, tells (BookHeaderFlaw version) bytes 0 bad.0 (inl bad.1))))
      | inl found ↦ let behind : IsBytes found.0 = subst (λ (xs : List ℕ). IsBytes xs) (ap (drop 8) found.1) (All-drop (λ byte. byte < 2 ^ 8) 8 bytes all) in
          elim (reads_letter version law bytes found.0 found.1 behind) [
            | inr bad ↦ inr (say bad.0 0 (length bytes), (None, [], (refl, tells (BookHeaderFlaw version) bytes 0 bad.0 bad.1)))
            | inl header ↦ let long : length (book_header version header.0) ≡ header_size version = header_long version header.0 in
                let split : drop (header_size version) bytes ≡ header.1 = ap (drop (header_size version)) header.3 ∙ drop_at (book_header version header.0) header.1 (header_size version) long in
                let body : IsBytes header.1 = subst (λ (xs : List ℕ). IsBytes xs) split (All-drop (λ byte. byte < 2 ^ 8) (header_size version) bytes all) in
                let r = reads_all (SpellsRecord version) (RecordFlaw version) reads_one (length header.1) header.1 body in
                by_stop c bytes header.0 (length header.1) r.values header.1 r.front r.rest header.2 header.3 r.split refl r.spelled r.stop
          ]
    ]

    one_form_reading : (bytes : List ℕ) → ReadsForm bytes → HasOneReading (λ kept b. HasForm b kept) (LacksBookForm version) bytes
    one_form_reading bytes (inl found) =
        inl (
          found.0,
          record {
            spelled = found.1;
            no_other = λ other h. one_form c law bytes other found.0 h found.1;
            no_refusal = λ refusal k. form_not_refused c law bytes found.0 refusal found.1 k;
          },
        )
    one_form_reading bytes (inr found) =
        inr (
          found.0,
          record {
            refused = found.1;
            no_other = λ other k. one_lack c law bytes other found.0 k found.1;
            no_value = λ kept h. form_not_refused c law bytes kept found.0 h found.1;
          },
        )

    pub book_forms_are_exact : IsExactForm {Value = BookKept} (λ bytes kept. HasBookForm version bytes kept.header kept.records) (LacksBookForm version)
    book_forms_are_exact =
        record {
          one_value = one_form c law;
          one_refusal = one_lack c law;
          not_both = form_not_refused c law;
          one_reading = λ bytes all. one_form_reading bytes (reads_form bytes all);
        }

    large_alone : (bytes : List ℕ) → (most_book_bytes version) < length bytes → HasOneReading (λ (kept : BookKept) b. IsBook version b kept.header kept.records) (RefusesBook version) bytes
    large_alone bytes large =
        inr (
          Large (most_book_bytes version),
          record {
            refused = inl (large, refl);
            no_other = λ other k. one_book_refusal c law bytes other (Large (most_book_bytes version)) k (inl (large, refl));
            no_value = λ kept h. omega (arith, h.0, large);
          },
        )

    sized : (bytes : List ℕ) → length bytes ≤ (most_book_bytes version) → ReadsForm bytes → HasOneReading (λ (kept : BookKept) b. IsBook version b kept.header kept.records) (RefusesBook version) bytes
    sized bytes low (inl found) =
        inl (
          found.0,
          record {
            spelled = (low, found.1);
            no_other = λ other h. one_form c law bytes other found.0 h.1 found.1;
            no_refusal = λ refusal k. book_not_refused c law bytes found.0 refusal (low, found.1) k;
          },
        )
    sized bytes low (inr found) =
        inr (
          found.0,
          record {
            refused = inr (low, found.1);
            no_other = λ other k. one_book_refusal c law bytes other found.0 k (inr (low, found.1));
            no_value = λ kept h. book_not_refused c law bytes kept found.0 h (inr (low, found.1));
          },
        )

    pub books_are_exact : BooksOfAreExact version
    books_are_exact =
        record {
          one_value = λ bytes a b h k. one_form c law bytes a b h.1 k.1;
          one_refusal = one_book_refusal c law;
          not_both = book_not_refused c law;
          one_reading = λ bytes all. elim (cases_lt (most_book_bytes version) (length bytes)) [ inl large ↦ large_alone bytes large | inr low ↦ sized bytes low (reads_form bytes all) ];
        }
