-- What a reader of a book has read.
use Rattle.std.specs.Prelude.{◌≡◌, ◌⊎◌, ℕ, ◌≤◌, List, [], ◌∷◌, ◌++◌, length, Option, None, Some, MatchOption, IfSome, Result, Ok, Err}
use Rattle.m17_io.specs.Faults.{HasRisen}
use Rattle.m17_book.specs.Limits.{told}
use Rattle.m17_book.specs.Ahead.{IsAhead}
use Rattle.m17_book.specs.Book.{HasBookForm, StopsBook}
use Rattle.m17_book.specs.Versions.{book_header, FitsHeader}
use Rattle.m17_book.specs.declared.head.Head.{Head}
use Rattle.m17_book.specs.declared.version.Version.TheVariants.{Two}
use Rattle.m17_book.specs.Progress.{Progress}
use Rattle.m17_book.specs.declared.record.Record.{Record}
use Rattle.m17_book.specs.declared.refusal.FormRefusal.{FormRefusal}
use Rattle.m17_book.specs.declared.refusal.FormRefusal.TheVariants.{Cut, Kind, Field, Large, ReadFault, NoMemory}

-- The refusals that a reader gives: it knows no limit, and keeps nothing that takes memory.
abbrev pub IsReadersRefusal : FormRefusal → Type 0
IsReadersRefusal (Cut at) = Unit {0}
IsReadersRefusal (Kind at byte) = Unit {0}
IsReadersRefusal (Field at) = Unit {0}
IsReadersRefusal (Large at) = ⊥
IsReadersRefusal ReadFault = Unit {0}
IsReadersRefusal NoMemory = ⊥

-- The reader, over a source with so much left, has read these records from the front of the bytes: the header that it
-- tells and the records stand there, or nothing was read yet; the rest of the bytes is to come.
abbrev pub HasRead : Progress → Option (List ℕ) → List ℕ → List Record → Type 0
HasRead reader left bytes records = MatchOption reader.header
    (IsAhead reader.unread left bytes × (reader.place ≡ 0) × (records ≡ []))
    (λ header. (front : List ℕ) × (rest : List ℕ)
    × (bytes ≡ front ++ rest) × HasBookForm Two front header records
    × IsAhead reader.unread left rest × (reader.place ≡ told (length front)))

-- a header that was read stands at the beginning of the bytes
abbrev pub HasHeader : Option Head → List ℕ → Type 0
HasHeader header bytes = IfSome header
    (λ head. FitsHeader Two head × (rest : List ℕ) × (bytes ≡ book_header Two head ++ rest))

-- What the reader answers next, where it has read these records of the bytes: one record more; or nothing, and the
-- bytes are a book with these records; or why the bytes are no book, unless the source failed.
abbrev pub AnswersNext : Result (Option Record) FormRefusal → Progress → Option (List ℕ)
    → List ℕ → List Record → Type 0
AnswersNext (Ok (Some record_)) reader left bytes records =
    HasRead reader left bytes (records ++ record_ ∷ [])
AnswersNext (Ok None) reader left bytes records = HasRead reader left bytes records
    × ((head : Head) × (reader.header ≡ Some head) × HasBookForm Two bytes head records)
AnswersNext (Err refusal) reader left bytes records =
    ((refusal ≡ ReadFault) × HasHeader reader.header bytes)
    ⊎ StopsBook Two bytes reader.header records refusal

-- One record more stands behind these.
abbrev pub HasNext : List ℕ → List Record → Record → Type 0
HasNext bytes records next = (header : Head) × (front : List ℕ) × (rest : List ℕ)
    × (bytes ≡ front ++ rest) × HasBookForm Two front header (records ++ next ∷ [])

-- How a call that reads ended, by the count of the source's faults before and after: it rose where the answer is
-- that the source failed, and else it stands.
pub record HasReadCause {T : Type 0} (before after : ℕ)
    (result : Result T FormRefusal) : Type 0 where
  pub counted : before ≤ after
  pub failed : result ≡ Err ReadFault → HasRisen before after
  pub no_fault : (result ≡ Err ReadFault → ⊥) → after ≡ before
