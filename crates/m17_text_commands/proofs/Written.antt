-- What stands written while records are written, and once one write failed.
use Rattle.std.proofs.Common.{◌≡◌, ℕ, ◌+◌, ◌<◌, List, [], ◌∷◌, ◌++◌, length, take, drop, get_or, min, All, Option, Some, Result, Ok, Err, OnOk, OnErr, refl, sym, ap, subst, ◌∙◌, append_assoc, append-nil}
use Rattle.std.specs.List.{flat_map}
use Rattle.std.proofs.lemmas.List.{take-append-drop, take_more}
use Rattle.std.proofs.lemmas.List.Concat.{flat_map-append}
use Rattle.std.proofs.lemmas.List.Elements.{All-get_or}
use Rattle.m17_lists.proofs.Parts.{front_goes_into}
use Rattle.m17_io.specs.Sink.{AppendsPrefix}
use Rattle.m17_book.specs.Records.{IsWritable, record_bytes}
use Rattle.m17_book.specs.declared.record.Record.{Record}

-- a write of the middle piece failed
pub part_written : (before a b rest all : List ℕ) (after : Option (List ℕ)) → all ≡ (a ++ b) ++ rest → AppendsPrefix (before ++ a) b after → AppendsPrefix before all after
part_written before a b rest all after whole part = (
  length a + min part.0 (length b),
  part.1 ∙ ap Some (append_assoc before a (take part.0 b)
      ∙ ap (λ (bytes : List ℕ). before ++ bytes) (sym (ap (take (length a + min part.0 (length b))) whole ∙ front_goes_into a b rest part.0))),
)

-- the bytes of the first records, and of one more
abbrev pub bytes_to : List Record → ℕ → List ℕ
bytes_to records n = flat_map record_bytes (take n records)

pub one_more : (records : List Record) (n : ℕ) (one : Record) → n < length records → one ≡ get_or records n one → bytes_to records (n + 1) ≡ bytes_to records n ++ record_bytes one
one_more records n one h is =
    ap (flat_map record_bytes) (take_more records n one h ∙ ap (λ x. take n records ++ x ∷ []) (sym is))
    ∙ flat_map-append record_bytes (take n records) (one ∷ []) ∙ ap (λ xs. bytes_to records n ++ xs) (append-nil (record_bytes one))

-- the bytes of the first records begin those of all
pub begins_all : (records : List Record) (n : ℕ) → flat_map record_bytes records ≡ bytes_to records n ++ flat_map record_bytes (drop n records)
begins_all records n = ap (flat_map record_bytes) (sym (take-append-drop n records)) ∙ flat_map-append record_bytes (take n records) (drop n records)

-- each record can be written
pub one_fits : (records : List Record) (n : ℕ) (one : Record) → All IsWritable records → n < length records → one ≡ get_or records n one → IsWritable one
one_fits records n one all h is = subst IsWritable (sym is) (All-get_or IsWritable records n one h all)

-- the bytes of the first records, of one more, and of the rest
pub begins_with : (records : List Record) (n : ℕ) (one : Record) (bytes : List ℕ) → n < length records → one ≡ get_or records n one → bytes ≡ record_bytes one
    → flat_map record_bytes records ≡ (bytes_to records n ++ bytes) ++ flat_map record_bytes (drop (n + 1) records)
begins_with records n one bytes h is spelled =
    begins_all records (n + 1)
    ∙ ap (λ xs. xs ++ flat_map record_bytes (drop (n + 1) records)) (one_more records n one h is ∙ ap (λ xs. bytes_to records n ++ xs) (sym spelled))

-- a header was written, and then the records, or a part of them
pub then_ok : {T E : Type 0} (result : Result T E) (first mid last : Option (List ℕ)) (header body : List ℕ)
    → ((before : List ℕ) → first ≡ Some before → mid ≡ Some (before ++ header)) → OnOk result ((before : List ℕ) → mid ≡ Some before → last ≡ Some (before ++ body))
    → OnOk result ((before : List ℕ) → first ≡ Some before → last ≡ Some (before ++ (header ++ body)))
then_ok (Ok value) first mid last header body wrote more = λ before told.
    more (before ++ header) (wrote before told) ∙ ap Some (append_assoc before header body)
then_ok (Err error) first mid last header body wrote more = tt

pub then_err : {T E : Type 0} (result : Result T E) (first mid last : Option (List ℕ)) (header body : List ℕ)
    → ((before : List ℕ) → first ≡ Some before → mid ≡ Some (before ++ header)) → OnErr result ((before : List ℕ) → mid ≡ Some before → AppendsPrefix before body last)
    → OnErr result ((before : List ℕ) → first ≡ Some before → AppendsPrefix before (header ++ body) last)
then_err (Ok value) first mid last header body wrote more = tt
then_err (Err error) first mid last header body wrote more = λ before told.
    part_written before header body [] (header ++ body) last (sym (append-nil (header ++ body))) (more (before ++ header) (wrote before told))

-- the header was not written whole
pub header_failed : (first last : Option (List ℕ)) (header body : List ℕ) → ((before : List ℕ) → first ≡ Some before → AppendsPrefix before header last)
    → (before : List ℕ) → first ≡ Some before → AppendsPrefix before (header ++ body) last
header_failed first last header body fails before told =
    part_written before [] header body (header ++ body) last refl
    (subst (λ (xs : List ℕ). AppendsPrefix xs header last) (sym (append-nil before)) (fails before told))
