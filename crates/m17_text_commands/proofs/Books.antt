-- The records of a book of version 1 are those of one book of version 2.
use Rattle.std.proofs.Common.{◌≡◌, ℕ, ◌+◌, List, [], ◌∷◌, ◌++◌, length, inl, sym, ap, ◌∙◌, arith, length-append}
use Rattle.std.specs.List.{flat_map}
use Rattle.m17_book.specs.Book.{IsBook}
use Rattle.m17_book.specs.Laws.{BookKept, BooksAreExact}
use Rattle.m17_book.specs.Limits.{SpellsEach}
use Rattle.m17_book.specs.Records.{FitsRecord, SpellsRecord, record_bytes}
use Rattle.m17_book.specs.Versions.{book_header, header_of}
use Rattle.m17_book.specs.declared.record.Record.{Record}
use Rattle.m17_book.specs.declared.record.Record.TheVariants.{Join, Leave, Packet}
use Rattle.m17_book.specs.declared.version.Version.{Version}
use Rattle.m17_book.specs.declared.version.Version.TheVariants.{One, Two}
use Rattle.m17_text_commands.specs.MigrateLaws.{OneMigratedText}
use Rattle.m17_text_commands.specs.Migrate.{IsMigrated, migrated_text}

-- what fits a book of version 1 fits one of version 2
fits_two : (one : Record) → FitsRecord One one → FitsRecord Two one
fits_two (Join tag moment member listen callsign) f = (f.0, inl f.1)
fits_two (Leave tag moment member why) f = f
fits_two (Packet tag moment member verdict packet) f = (f.0, (omega (arith, f.1.0), f.1.1), f.2)

spells_two : (records : List Record) (body : List ℕ) → SpellsEach (SpellsRecord One) records body → SpellsEach (SpellsRecord Two) records body
spells_two [] body h = h
spells_two (one ∷ records) body h = (h.0, h.1, (fits_two one h.2.0, h.2.1), spells_two records h.1 h.3, h.4)

-- the bytes of records are those of each, one behind the other
bytes_are : (version : Version) (records : List Record) (body : List ℕ) → SpellsEach (SpellsRecord version) records body → body ≡ flat_map record_bytes records
bytes_are version [] body h = h
bytes_are version (one ∷ records) body h =
    h.4 ∙ ap (λ xs. xs ++ h.1) h.2.1 ∙ ap (λ xs. record_bytes one ++ xs) (bytes_are version records h.1 h.3)

-- a book of version 1 and the bytes that are written for it
pub migrated : (letter : ℕ) (records : List Record) (input : List ℕ) → IsBook One input (header_of letter) records → IsMigrated input (migrated_text letter records)
migrated letter records input book =
    let body = book.1.1 in
    let same : body ≡ flat_map record_bytes records = bytes_are One records body book.1.2 in
    let long : length (migrated_text letter records) ≡ 17 + length body = omega (
      arith,
      length-append (book_header Two (header_of letter)) (flat_map record_bytes records),
      ap length same,
    ) in
    let size : length input ≡ 9 + length body = ap length book.1.3 ∙ length-append (book_header One (header_of letter)) body in (
      letter,
      records,
      book,
      (
        omega (arith, long, size, book.0),
        ((book.1.0.0, omega arith), body, spells_two records body book.1.2, ap (λ xs. book_header Two (header_of letter) ++ xs) (sym same)),
      ),
    )

text_is : (letter : ℕ) (records : List Record) (text : List ℕ) → IsBook Two text (header_of letter) records → text ≡ migrated_text letter records
text_is letter records text book = book.1.3 ∙ ap (λ xs. book_header Two (header_of letter) ++ xs) (bytes_are Two records book.1.1 book.1.2)

abbrev kept : ℕ → List Record → BookKept
kept letter records = record { header = header_of letter; records = records }

-- an input has one text
pub one_migrated_text : BooksAreExact → OneMigratedText
one_migrated_text exact input a b (letter, records, old, new) (other, others, old', new') =
    let same = (exact One).one_value input (kept letter records) (kept other others) old old' in
    text_is letter records a new ∙ ap (λ (k : BookKept). book_header Two k.header ++ flat_map record_bytes k.records) same ∙ sym (text_is other others b new')
