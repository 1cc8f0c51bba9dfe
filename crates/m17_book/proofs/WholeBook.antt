-- A whole book as it was read: its header and its records.
use Rattle.std.proofs.Common.{◌≡◌, ◌⊎◌, ℕ, ◌+◌, ◌-◌, ◌^◌, ◌<◌, List, [], ◌++◌, length, Option, None, Some, Result, Ok, Err, IfErr, IsErr, inl, inr, refl, sym, ap, subst, ◌∙◌, arith, append_assoc, length-append}
use Rattle.std.proofs.lemmas.List.{append-nil}
use Rattle.std.proofs.lemmas.Bool.{false≢true}
use Rattle.m17_book.proofs.Within.{told_more}
use Rattle.m17_book.specs.Answers.{IsOutside}
use Rattle.m17_book.specs.Book.{TellsFlaw, BookHeaderFlaw, IsBook, LacksBookForm, RefusesBook}
use Rattle.m17_book.specs.Flaws.{RecordFlaw}
use Rattle.m17_book.specs.Limits.{told}
use Rattle.m17_book.specs.Records.{SpellsRecord}
use Rattle.m17_book.specs.Steps.{PassesHeader}
use Rattle.m17_book.specs.Walk.{coming, Spot, IsAt, HasPassed, Stops, AddsAll, WrongRecord, ReadsBook, IsCutAt, IsSettled}
use Rattle.m17_book.specs.declared.record.Record.{Record}
use Rattle.m17_book.specs.declared.refusal.FormRefusal.{FormRefusal}
use Rattle.m17_book.specs.declared.refusal.FormRefusal.TheVariants.{Large, ReadFault}
use Rattle.m17_book.proofs.WholeTrace.{cut_at_end, large_is_no_cut, fault_is_outside}
use Rattle.m17_book.specs.declared.head.Head.{Head}
use Rattle.m17_book.specs.Versions.{book_header, header_size, most_book_bytes, header_of, FitsHeader}
use Rattle.m17_book.specs.declared.version.Version.TheVariants.{One, Two}
use Rattle.m17_book.proofs.Headers.{header_long, head_eq}
use Rattle.m17_book.specs.declared.version.Version.{Version}

-- the most bytes of a book are told as they are
most_low : (version : Version) → most_book_bytes version < 2 ^ 64 - 1
most_low One = omega arith
most_low Two = omega arith

-- the header of a book of version 1 says its letter alone
pub header_is : (head : Head) → FitsHeader One head → head ≡ header_of head.module
header_is head fits = head_eq head (header_of head.module) refl fits.1

module _ (version : Version) where
  -- a book whose header is wrong
  pub bad_header : (T : Type 0) (Tells : T → Head → List Record → Type 0) (refusal : FormRefusal) (bytes : List ℕ) (records : List Record) (place : ℕ) (after : Spot)
      → place ≡ 0 → (refusal ≡ ReadFault) ⊎ TellsFlaw (BookHeaderFlaw version) bytes place refusal → IsAt after bytes → after.place ≡ place
      → ReadsBook {T = T} Tells version (Err refusal) bytes records after
  bad_header T Tells refusal bytes records place after zero (inl h) kept there = inl (fault_is_outside refusal h)
  bad_header T Tells refusal bytes records place after zero (inr h) kept there =
      let tells = subst (λ (n : ℕ). TellsFlaw (BookHeaderFlaw version) bytes n refusal) zero h in
      let total : told (length bytes) ≡ told (after.place + length bytes) = omega (arith, there, zero) in
      inr (bytes, kept, total, cut_at_end (BookHeaderFlaw version) bytes 0 (length bytes) refusal (omega arith) tells, inr (None, [], (refl, tells)))

  -- what was passed of a book
  record Passed (head : Head) (bytes front rest : List ℕ) (spot : Spot) : Type 0 where
    split : bytes ≡ (book_header version head ++ front) ++ rest
    place_is : told spot.place ≡ told (header_size version + length front)

  passed : (head : Head) (bytes ahead : List ℕ) (values : List Record) (spot : Spot) (place : ℕ) → bytes ≡ book_header version head ++ ahead → place ≡ told (header_size version)
      → (h : HasPassed (SpellsRecord version) place ahead values spot) → Passed head bytes h.front h.rest spot
  passed head bytes ahead values spot place split size h =
      record {
        split = split ∙ ap (λ xs. book_header version head ++ xs) h.split ∙ sym (append_assoc (book_header version head) h.front h.rest);
        place_is = h.place_is ∙ ap (λ n. told (n + length h.front)) size ∙ told_more (header_size version) (length h.front);
      }

  long_front : (head : Head) (front : List ℕ) → length (book_header version head ++ front) ≡ header_size version + length front
  long_front head front = omega (arith, length-append (book_header version head) front, header_long version head)

  long : (head : Head) (bytes front rest : List ℕ) (spot : Spot) → Passed head bytes front rest spot → length bytes ≡ header_size version + length front + length rest
  long head bytes front rest spot p = omega (arith, ap length p.split, length-append (book_header version head ++ front) rest, long_front head front)

  -- the records of a whole book
  all_read : {T : Type 0} (Tells : T → Head → List Record → Type 0) (value : T) (head : Head) (bytes ahead : List ℕ) (values : List Record) (place : ℕ) (spot : Spot)
      → FitsHeader version head → bytes ≡ book_header version head ++ ahead → place ≡ told (header_size version) → {U : Type 0} (u : U)
      → AddsAll (SpellsRecord version) (WrongRecord version) (most_book_bytes version) (Ok u) (coming place ahead) values spot → Tells value head values
      → ReadsBook Tells version (Ok value) bytes values spot
  all_read Tells value head bytes ahead values place spot good split size u h tells =
      let p = passed head bytes ahead values spot place split size h.0 in
      let total = long head bytes h.0.front h.0.rest spot p in
      let front = book_header version head ++ h.0.front in
      let whole : bytes ≡ front = p.split ∙ ap (λ xs. front ++ xs) h.1 ∙ append-nil front in
      ((head, (omega (arith, total, p.place_is, ap length h.1, h.3, most_low version), (good, h.0.front, h.0.spelled, whole)), tells), h.2)

  -- where a book stops
  stops : (T : Type 0) (Tells : T → Head → List Record → Type 0) (head : Head) (refusal : FormRefusal) (bytes ahead : List ℕ) (values records : List Record) (place : ℕ)
      (spot : Spot) → FitsHeader version head → bytes ≡ book_header version head ++ ahead → place ≡ told (header_size version)
      → Stops (SpellsRecord version) (WrongRecord version) (most_book_bytes version) place ahead values spot refusal → ReadsBook {T = T} Tells version (Err refusal) bytes records spot
  stops T Tells head refusal bytes ahead values records place spot good split size (h, inl far) =
      let p = passed head bytes ahead values spot place split size h in
      let total = long head bytes h.front h.rest spot p in
      inr (
        h.rest,
        h.rest_is,
        omega (arith, total, p.place_is),
        large_is_no_cut (length bytes) (most_book_bytes version) refusal far.1,
        inl (omega (arith, total, p.place_is, far.0, most_low version), far.1),
      )
  stops T Tells head refusal bytes ahead values records place spot good split size (h, inr wrong) =
      let p = passed head bytes ahead values spot place split size h in
      let long_bytes = long head bytes h.front h.rest spot p in
      let total : told (length bytes) ≡ told (spot.place + length h.rest) = omega (arith, long_bytes, p.place_is) in
      let front = book_header version head ++ h.front in
      let there : spot.place ≡ length front = omega (arith, p.place_is, wrong.0, long_front head h.front, most_low version) in
      inr (
        h.rest,
        h.rest_is,
        total,
        cut_at_end (RecordFlaw version) h.rest spot.place (length bytes) refusal total wrong.1,
        inr (Some head, values, (front, h.rest, p.split, (good, h.front, h.spelled, refl), subst (λ (n : ℕ). TellsFlaw (RecordFlaw version) h.rest n refusal) there wrong.1)),
      )

  -- what was read behind the header: all of it, or why not
  pub behind_header : {T : Type 0} (Tells : T → Head → List Record → Type 0) (value : T) (head : Head) (bytes : List ℕ) (records : List Record) (held : List ℕ)
      (left : Option (List ℕ)) (place after : ℕ) (spot : Spot) → place ≡ 0
      → (h : PassesHeader version (Ok head) (coming place bytes) (record { held = held; left = left; place = after })) → {U : Type 0} (u : U)
      → AddsAll (SpellsRecord version) (WrongRecord version) (most_book_bytes version) (Ok u) (coming after h.1) records spot → Tells value head records
      → ReadsBook Tells version (Ok value) bytes records spot
  behind_header Tells value head bytes records held left place after spot zero h u adds tells =
      all_read Tells value head bytes h.1 records after spot h.0 h.2 (omega (arith, h.4, zero)) u adds tells

  pub stops_behind : (T U : Type 0) (Tells : T → Head → List Record → Type 0) (refusal : FormRefusal) (head : Head) (bytes : List ℕ) (records : List Record) (held : List ℕ)
      (left : Option (List ℕ)) (place after : ℕ) (spot : Spot) → place ≡ 0
      → (h : PassesHeader version (Ok head) (coming place bytes) (record { held = held; left = left; place = after }))
      → AddsAll (SpellsRecord version) (WrongRecord version) {T = U} (most_book_bytes version) (Err refusal) (coming after h.1) records spot
      → ReadsBook {T = T} Tells version (Err refusal) bytes records spot
  stops_behind T U Tells refusal head bytes records held left place after spot zero h (inl outside) = inl outside
  stops_behind T U Tells refusal head bytes records held left place after spot zero h (inr adds) =
      stops T Tells head refusal bytes h.1 adds.0 records after spot h.0 h.2 (omega (arith, h.4, zero)) adds.1

  -- what is answered in the end
  settled_in : (bytes : List ℕ) (found refusal : FormRefusal) → (((most_book_bytes version) < length bytes) × (found ≡ Large (most_book_bytes version))) ⊎ LacksBookForm version bytes found
      → IsSettled (most_book_bytes version) (length bytes) found refusal → IsOutside refusal ⊎ RefusesBook version bytes refusal
  settled_in bytes found refusal why (inl h) = inl h
  settled_in bytes found refusal why (inr (inl h)) = inr (inl h)
  settled_in bytes found refusal (inl why) (inr (inr h)) = absurd (omega (arith, why.0, h.0))
  settled_in bytes found refusal (inr why) (inr (inr h)) = inr (inr (h.0, subst (λ (r : FormRefusal). LacksBookForm version bytes r) (sym h.1) why))

  -- what a reader of a whole book answers: the book that was read
  pub is_book : {T : Type 0} (Tells : T → Head → List Record → Type 0) (read : Result T FormRefusal) (value : T) (bytes : List ℕ) (records : List Record) (spot : Spot)
      → read ≡ Ok value → ReadsBook Tells version read bytes records spot
      → ((head : Head) × IsBook version bytes head records × Tells value head records) × (spot.left ≡ Some [])
  is_book {T = T} Tells read value bytes records spot is h = subst (λ (r : Result T FormRefusal). ReadsBook Tells version r bytes records spot) is h

  -- .. or why not, as it was settled
  refusal_of : {T : Type 0} (Tells : T → Head → List Record → Type 0) (read : Result T FormRefusal) (refusal : FormRefusal) (bytes : List ℕ) (records : List Record) (spot : Spot)
      → IsErr read → ReadsBook Tells version read bytes records spot → IfErr read (λ found. IsOutside found → IsOutside refusal)
      → IfErr read (λ found. (total : ℕ) → (ahead : List ℕ) → IsAt spot ahead → told total ≡ told (spot.place + length ahead) → IsCutAt total found
      → IsSettled (most_book_bytes version) total found refusal) → IsOutside refusal ⊎ RefusesBook version bytes refusal
  refusal_of Tells (Ok v) refusal bytes records spot is h outside settled = absurd (false≢true is)
  refusal_of Tells (Err found) refusal bytes records spot is (inl h) outside settled = inl (outside h)
  refusal_of Tells (Err found) refusal bytes records spot is (inr h) outside settled =
      settled_in bytes found refusal h.4 (settled (length bytes) h.0 h.1 h.2 h.3)

  pub is_refused : {T : Type 0} (Tells : T → Head → List Record → Type 0) (read : Result T FormRefusal) (refusal : FormRefusal) (bytes : List ℕ) (records : List Record)
      (spot : Spot) → ReadsBook Tells version read bytes records spot → IsErr read → IfErr read (λ found. IsOutside found → IsOutside refusal)
      → IfErr read (λ found. (total : ℕ) → (ahead : List ℕ) → IsAt spot ahead → told total ≡ told (spot.place + length ahead) → IsCutAt total found
      → IsSettled (most_book_bytes version) total found refusal) → IsOutside refusal ⊎ RefusesBook version bytes refusal
  is_refused Tells read refusal bytes records spot reads is outside settled = refusal_of Tells read refusal bytes records spot is reads outside settled
