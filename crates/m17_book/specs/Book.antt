-- Traces and books as bytes, and why other bytes are refused.
use Rattle.std.specs.Prelude.{◌≡◌, ◌≢◌, ◌⊎◌, ℕ, ◌+◌, ◌<◌, ◌≤◌, List, [], ◌∷◌, ◌++◌, length, take, codes, slice_index, Option, None, Some}
use Rattle.m17_control.specs.Forms.{IsModule}
use Rattle.m17_values.specs.declared.heard.Heard.{Heard}
use Rattle.m17_values.specs.declared.heard.Heard.TheVariants.{End}
use Rattle.m17_book.specs.Limits.{most_trace_bytes, most_entries, told, SpellsEach}
use Rattle.m17_book.specs.Records.{SpellsRecord}
use Rattle.m17_book.specs.Versions.{book_magic, book_header, header_size, most_book_bytes, FitsHeader}
use Rattle.m17_book.specs.Entries.{SpellsEntry}
use Rattle.m17_book.specs.Flaws.{RecordFlaw, EntryFlaw}
use Rattle.m17_book.specs.declared.head.Head.{Head}
use Rattle.m17_book.specs.declared.version.Version.{Version}
use Rattle.m17_book.specs.declared.record.Record.{Record}
use Rattle.m17_book.specs.declared.refusal.Flaw.{Flaw}
use Rattle.m17_book.specs.declared.refusal.Flaw.TheVariants as flaws
use Rattle.m17_book.specs.declared.refusal.FormRefusal.{FormRefusal}
use Rattle.m17_book.specs.declared.refusal.FormRefusal.TheVariants.{Cut, Kind, Field, Large, ReadFault, NoMemory}

-- what a trace begins with
abbrev pub trace_magic : List ℕ
trace_magic = codes "M17TRACE"

-- The bytes are a book of the version with this header and these records, of whatever size.
abbrev pub HasBookForm : Version → List ℕ → Head → List Record → Type 0
HasBookForm version bytes head records = FitsHeader version head × (body : List ℕ)
    × SpellsEach (SpellsRecord version) records body × (bytes ≡ book_header version head ++ body)

-- the same within the limits: at most 67,108,864 bytes, or 67,108,872 of version 2
abbrev pub IsBook : Version → List ℕ → Head → List Record → Type 0
IsBook version bytes head records =
    (length bytes ≤ most_book_bytes version) × HasBookForm version bytes head records

-- The bytes are a trace with these entries, of whatever size.
abbrev pub HasTraceForm : List ℕ → List Heard → Type 0
HasTraceForm bytes entries = (body : List ℕ) × SpellsEach SpellsEntry entries body
    × (bytes ≡ trace_magic ++ body)

-- The bytes are the trace of a link that heard this: its entries and then the end, within the limits of
-- 67,108,864 bytes and 1,000,000 entries.
abbrev pub IsTrace : List ℕ → List Heard → Type 0
IsTrace bytes heard = (length bytes ≤ most_trace_bytes)
    × (entries : List Heard) × (length entries ≤ most_entries)
    × HasTraceForm bytes entries × (heard ≡ entries ++ End ∷ [])

-- Why bytes do not begin with a magic: they end inside it, or this is the first byte that differs. The magic is one
-- field, which is judged when all its bytes are there.
abbrev pub MagicFlaw : List ℕ → List ℕ → Flaw → Type 0
MagicFlaw magic bytes flaws.Cut = length bytes < 8
MagicFlaw magic bytes (flaws.Kind byte) = ⊥
MagicFlaw magic bytes (flaws.Field place) = (8 ≤ length bytes) × (place < 8)
    × (slice_index bytes place ≢ slice_index magic place)
    × ((k : ℕ) → k < place → slice_index bytes k ≡ slice_index magic k)

-- Why bytes do not go on as a header behind its magic: they end inside it, or its letter is no module's. A limit may
-- have any value.
abbrev pub LetterFlaw : Version → List ℕ → Flaw → Type 0
LetterFlaw version bytes flaws.Cut = (length bytes < header_size version)
    × (9 ≤ length bytes → IsModule (slice_index bytes 8))
LetterFlaw version bytes (flaws.Kind byte) = ⊥
LetterFlaw version bytes (flaws.Field place) = (place ≡ 8) × (9 ≤ length bytes)
    × (IsModule (slice_index bytes 8) → ⊥)

-- why bytes do not begin with a header of the version: its magic, or then what is behind it
abbrev pub BookHeaderFlaw : Version → List ℕ → Flaw → Type 0
BookHeaderFlaw version bytes flaw = MagicFlaw (book_magic version) bytes flaw
    ⊎ ((8 ≤ length bytes) × (take 8 bytes ≡ book_magic version) × LetterFlaw version bytes flaw)

-- How a flaw of the bytes from a place on is told: a cut at the input's length, the others where they are.
abbrev pub TellsFlaw : (List ℕ → Flaw → Type 0) → List ℕ → ℕ → FormRefusal → Type 0
TellsFlaw Flawed rest place (Cut at) = Flawed rest flaws.Cut × (at ≡ told (place + length rest))
TellsFlaw Flawed rest place (Kind at byte) = Flawed rest (flaws.Kind byte) × (at ≡ told place)
TellsFlaw Flawed rest place (Field at) = (k : ℕ) × Flawed rest (flaws.Field k)
    × (at ≡ told (place + k))
TellsFlaw Flawed rest place (Large at) = ⊥
TellsFlaw Flawed rest place ReadFault = ⊥
TellsFlaw Flawed rest place NoMemory = ⊥

-- After these records of a book with this header the bytes are refused, or in the header itself, where none was read.
-- So a reader that gives one record after another has given all that stand before what is wrong.
abbrev pub StopsBook : Version → List ℕ → Option Head → List Record → FormRefusal → Type 0
StopsBook version bytes None records refusal =
    (records ≡ []) × TellsFlaw (BookHeaderFlaw version) bytes 0 refusal
StopsBook version bytes (Some head) records refusal = (front : List ℕ) × (rest : List ℕ)
    × (bytes ≡ front ++ rest) × HasBookForm version front head records
    × TellsFlaw (RecordFlaw version) rest (length front) refusal

-- The bytes are refused as a book of whatever size: in the header, or where after whole records no other
-- begins.
abbrev pub LacksBookForm : Version → List ℕ → FormRefusal → Type 0
LacksBookForm version bytes refusal =
    (head : Option Head) × (records : List Record) × StopsBook version bytes head records refusal

-- The bytes are refused as a book of the version: too many bytes come before all other reasons.
abbrev pub RefusesBook : Version → List ℕ → FormRefusal → Type 0
RefusesBook version bytes refusal =
    ((most_book_bytes version < length bytes) × (refusal ≡ Large (most_book_bytes version)))
    ⊎ ((length bytes ≤ most_book_bytes version) × LacksBookForm version bytes refusal)

-- After 1,000,000 entries there is more: the refusal of the entry that begins there.
abbrev pub HasTooMany : List ℕ → FormRefusal → Type 0
HasTooMany bytes refusal = (entries : List Heard) × (front : List ℕ) × (rest : List ℕ)
    × (bytes ≡ front ++ rest)
    × HasTraceForm front entries × (length entries ≡ most_entries) × (0 < length rest)
    × (refusal ≡ Large (length front))

-- in the header, or where after whole entries, fewer than 1,000,000, no other begins
abbrev pub LacksTraceForm : List ℕ → FormRefusal → Type 0
LacksTraceForm bytes refusal = TellsFlaw (MagicFlaw trace_magic) bytes 0 refusal
    ⊎ ((entries : List Heard) × (front : List ℕ) × (rest : List ℕ) × (bytes ≡ front ++ rest)
    × HasTraceForm front entries × (length entries < most_entries)
    × TellsFlaw EntryFlaw rest (length front) refusal)

-- The bytes are refused as a trace: too many bytes come before all other reasons, and too many entries in
-- their turn.
abbrev pub RefusesTrace : List ℕ → FormRefusal → Type 0
RefusesTrace bytes refusal =
    ((most_trace_bytes < length bytes) × (refusal ≡ Large most_trace_bytes))
    ⊎ ((length bytes ≤ most_trace_bytes) × (HasTooMany bytes refusal ⊎ LacksTraceForm bytes refusal))
