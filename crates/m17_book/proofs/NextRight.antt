-- A reader of a book that is right gives the next record wherever there is one, and the end where there is none.
use Rattle.std.proofs.Common.{◌≡◌, ◌⊎◌, ℕ, ◌+◌, List, [], ◌∷◌, ◌++◌, length, Option, None, Some, Result, Ok, Err, MatchResult, inl, inr, refl, sym, ap, subst, ◌∙◌, arith, length-append}
use Rattle.std.proofs.lemmas.List.{append_cancel_left, append-nil}
use Rattle.m17_book.specs.Book.{HasBookForm, StopsBook}
use Rattle.m17_book.specs.Flaws.{RecordFlaw}
use Rattle.m17_book.specs.Laws.{IsClear}
use Rattle.m17_book.specs.Limits.{SpellsEach}
use Rattle.m17_book.specs.Progress.{Progress}
use Rattle.m17_book.specs.Reading.{HasRead, HasHeader, AnswersNext, HasNext}
use Rattle.m17_book.specs.Records.{SpellsRecord}
use Rattle.m17_book.specs.declared.record.Record.{Record}
use Rattle.m17_book.specs.declared.refusal.FormRefusal.{FormRefusal}
use Rattle.m17_book.specs.declared.refusal.FormRefusal.TheVariants.{ReadFault}
use Rattle.m17_book.proofs.BookExact.{stopped}
use Rattle.m17_book.proofs.Headers.{same_header, header_not_refused}
use Rattle.m17_book.proofs.Readings.{one_list, whole_or_many, same_values, many_or_flawed, whole_or_flawed}
use Rattle.m17_book.proofs.Told.{flaw_of}
use Rattle.m17_book.proofs.Within.{is_within, is_fresh}
use Rattle.std.proofs.lemmas.Bool.{cases_lt}
use Rattle.std.proofs.lemmas.List.{nil_from_length}
use Rattle.m17_book.specs.declared.head.Head.{Head}
use Rattle.m17_book.specs.declared.version.Version.TheVariants.{Two}

one_more : (records : List Record) (next : Record) → length (records ++ next ∷ []) ≡ length records + 1
one_more records next = omega (arith, length-append records (next ∷ []))

-- what was read is a form, with what is to come behind it
read_form_by : (header : Option Head) (reader : Progress) (left : Option (List ℕ)) (bytes : List ℕ) (records : List Record) (next : Record) → reader.header ≡ header
    → HasRead reader left bytes (records ++ next ∷ []) → HasNext bytes records next
read_form_by (Some head) reader left bytes records next is h =
    let w = is_within head reader left bytes (records ++ next ∷ []) is h in (head, w.front, w.rest, w.split, w.form)
read_form_by None reader left bytes records next is h =
    absurd (omega (arith, ap length (is_fresh reader left bytes (records ++ next ∷ []) is h).2, one_more records next))

read_form : (reader : Progress) (left : Option (List ℕ)) (bytes : List ℕ) (records : List Record) (next : Record)
    → HasRead reader left bytes (records ++ next ∷ []) → HasNext bytes records next
read_form reader left bytes records next h = read_form_by reader.header reader left bytes records next refl h

same_record : (a b : Record) → a ∷ [] ≡ b ∷ [] → a ≡ b
same_record a b e = cc

module _ (c : IsClear (SpellsRecord Two) (RecordFlaw Two)) where
  -- the same record is next
  same_next : (bytes : List ℕ) (records : List Record) (a b : Record) → HasNext bytes records a → HasNext bytes records b → a ≡ b
  same_next bytes records a b h k =
      let s = stopped Two bytes h.0 (records ++ a ∷ []) h.1 h.2 h.3 h.4 in
      let t = stopped Two bytes k.0 (records ++ b ∷ []) k.1 k.2 k.3 k.4 in
      let body = (same_header Two bytes h.0 k.0 (h.4.1 ++ h.2) (k.4.1 ++ k.2) s.whole t.whole).rest in
      let all = same_values (SpellsRecord Two) (RecordFlaw Two) c (records ++ a ∷ []) (records ++ b ∷ []) h.4.1 k.4.1 h.2 k.2 s.spelled t.spelled body
      (one_more records a ∙ sym (one_more records b)) in
      same_record a b (append_cancel_left records (a ∷ []) (b ∷ []) all)

  -- a whole book has no record more
  whole_has_no_next : (bytes : List ℕ) (head : Head) (records : List Record) (next : Record) → HasBookForm Two bytes head records → HasNext bytes records next → ⊥
  whole_has_no_next bytes head records next h k =
      let t = stopped Two bytes k.0 (records ++ next ∷ []) k.1 k.2 k.3 k.4 in
      let body = (same_header Two bytes head k.0 h.1 (k.4.1 ++ k.2) h.3 t.whole).rest in
      elim (cases_lt 0 (length k.2)) [
        | inl some ↦ whole_or_many (SpellsRecord Two) (RecordFlaw Two) c records (records ++ next ∷ []) h.1 k.4.1 k.2 h.2 t.spelled body (omega (arith, one_more records next)) some
        | inr none ↦ let same : h.1 ≡ k.4.1 = body ∙ ap (λ xs. k.4.1 ++ xs) (nil_from_length k.2 (omega arith)) ∙ append-nil k.4.1 in
            let all = one_list (SpellsRecord Two) (RecordFlaw Two) c records (records ++ next ∷ []) k.4.1 (subst (λ (xs : List ℕ). SpellsEach (SpellsRecord Two) records xs) same h.2) t.spelled in
            omega (arith, one_more records next, ap length all)
      ]

  -- where a book stops, no record comes
  stop_has_no_next : (header : Option Head) (bytes : List ℕ) (records : List Record) (next : Record) (refusal : FormRefusal)
      → StopsBook Two bytes header records refusal → HasNext bytes records next → ⊥
  stop_has_no_next None bytes records next refusal h k =
      header_not_refused Two bytes k.0 (k.4.1 ++ k.2) refusal k.4.0 (stopped Two bytes k.0 (records ++ next ∷ []) k.1 k.2 k.3 k.4).whole h.1
  stop_has_no_next (Some head) bytes records next refusal h k =
      let s = stopped Two bytes head records h.0 h.1 h.2 h.3 in
      let t = stopped Two bytes k.0 (records ++ next ∷ []) k.1 k.2 k.3 k.4 in
      let f = flaw_of (RecordFlaw Two) h.1 (length h.0) refusal h.4 in
      let body = (same_header Two bytes k.0 head (k.4.1 ++ k.2) (h.3.1 ++ h.1) t.whole s.whole).rest in
      many_or_flawed (SpellsRecord Two) (RecordFlaw Two) c (records ++ next ∷ []) records k.4.1 h.3.1 k.2 h.1 f.0 t.spelled s.spelled body (omega (arith, one_more records next)) f.1

  -- a whole book does not stop
  stop_is_not_whole : (header : Option Head) (bytes : List ℕ) (head : Head) (records : List Record) (refusal : FormRefusal)
      → StopsBook Two bytes header records refusal → HasBookForm Two bytes head records → ⊥
  stop_is_not_whole None bytes head records refusal h k = header_not_refused Two bytes head k.1 refusal k.0 k.3 h.1
  stop_is_not_whole (Some other) bytes head records refusal h k =
      let s = stopped Two bytes other records h.0 h.1 h.2 h.3 in
      let f = flaw_of (RecordFlaw Two) h.1 (length h.0) refusal h.4 in
      whole_or_flawed (SpellsRecord Two) (RecordFlaw Two) c records records k.1 h.3.1 h.1 f.0 k.2 s.spelled
      (same_header Two bytes head other k.1 (h.3.1 ++ h.1) k.3 s.whole).rest f.1

  or_fault : (refusal : FormRefusal) (H P : Type 0) → (P → ⊥) → ((refusal ≡ ReadFault) × H) ⊎ P → refusal ≡ ReadFault
  or_fault refusal H P none (inl h) = h.0
  or_fault refusal H P none (inr h) = absurd (none h)

  pub record_right : (result : Result (Option Record) FormRefusal) (reader : Progress) (left : Option (List ℕ)) (bytes : List ℕ) (records : List Record)
      (next : Record) → AnswersNext result reader left bytes records → HasNext bytes records next
      → MatchResult result (λ found. found ≡ Some next) (λ refusal. refusal ≡ ReadFault)
  record_right (Ok (Some r)) reader left bytes records next h k = ap Some (same_next bytes records r next (read_form reader left bytes records r h) k)
  record_right (Ok None) reader left bytes records next h k = absurd (whole_has_no_next bytes h.1.0 records next h.1.2 k)
  record_right (Err refusal) reader left bytes records next h k =
      or_fault refusal (HasHeader reader.header bytes) (StopsBook Two bytes reader.header records refusal) (λ s. stop_has_no_next reader.header bytes records next refusal s k) h

  pub end_right : (result : Result (Option Record) FormRefusal) (reader : Progress) (left : Option (List ℕ)) (bytes : List ℕ) (head : Head)
      (records : List Record) → AnswersNext result reader left bytes records → HasBookForm Two bytes head records
      → MatchResult result (λ found. found ≡ None) (λ refusal. refusal ≡ ReadFault)
  end_right (Ok (Some r)) reader left bytes head records h k = absurd (whole_has_no_next bytes head records r k (read_form reader left bytes records r h))
  end_right (Ok None) reader left bytes head records h k = refl
  end_right (Err refusal) reader left bytes head records h k =
      or_fault refusal (HasHeader reader.header bytes) (StopsBook Two bytes reader.header records refusal) (λ s. stop_is_not_whole reader.header bytes head records refusal s k) h
