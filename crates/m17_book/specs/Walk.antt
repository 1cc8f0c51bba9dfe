-- A reader that goes through values, one after another, up to the end of its input. No public clause of a function cites
-- this module.
use Rattle.std.specs.Prelude.{◌≡◌, ◌⊎◌, ℕ, Bool, true, false, ◌+◌, ◌<◌, ◌≤◌, List, [], ◌∷◌, ◌++◌, length, Option, Some, Result, Ok, Err}
use Rattle.m17_values.specs.declared.heard.Heard.{Heard}
use Rattle.m17_book.specs.Ahead.{held, IsAhead}
use Rattle.m17_book.specs.Answers.{IsOutside}
use Rattle.m17_book.specs.Book.{TellsFlaw, MagicFlaw, trace_magic, IsTrace, HasTooMany, LacksTraceForm, IsBook, LacksBookForm}
use Rattle.m17_book.specs.Entries.{SpellsEntry}
use Rattle.m17_book.specs.Flaws.{EntryFlaw, RecordFlaw}
use Rattle.m17_book.specs.Limits.{told, most_trace_bytes, most_entries, SpellsEach}
use Rattle.m17_book.specs.Versions.{most_book_bytes}
use Rattle.m17_book.specs.declared.cursor.Cursor.{Cursor}
use Rattle.m17_book.specs.declared.head.Head.{Head}
use Rattle.m17_book.specs.declared.version.Version.{Version}
use Rattle.m17_book.specs.declared.record.Record.{Record}
use Rattle.m17_book.specs.declared.refusal.FormRefusal.{FormRefusal}
use Rattle.m17_book.specs.declared.refusal.FormRefusal.TheVariants.{Cut, Kind, Field, Large, ReadFault, NoMemory}

-- where a cursor is: what it holds, what is left in the source, and how many bytes it passed
pub record Spot : Type 0 where
  pub held : List ℕ
  pub left : Option (List ℕ)
  pub place : ℕ

abbrev pub spot : Cursor → Option (List ℕ) → Spot
spot cursor left = record { held = held cursor; left = left; place = cursor.place }

-- what is to come of the input, and its place there
pub record Coming : Type 0 where
  pub place : ℕ
  pub ahead : List ℕ

abbrev pub coming : ℕ → List ℕ → Coming
coming place ahead = record { place = place; ahead = ahead }

-- this is to come of the input
abbrev pub IsAt : Spot → List ℕ → Type 0
IsAt spot ahead = IsAhead spot.held spot.left ahead

-- what is said after `count` entries, where they end and more is to come: there are too many, or what is wrong
abbrev pub WrongEntry : ℕ → List ℕ → ℕ → FormRefusal → Type 0
WrongEntry count rest place refusal =
    ((count ≡ most_entries) × (0 < length rest) × (refusal ≡ Large place))
    ⊎ ((count < most_entries) × TellsFlaw EntryFlaw rest place refusal)

-- the same of records, of which there may be any number
abbrev pub WrongRecord : Version → ℕ → List ℕ → ℕ → FormRefusal → Type 0
WrongRecord version count rest place refusal = TellsFlaw (RecordFlaw version) rest place refusal

module _ {Value : Type 0} (Spells : Value → List ℕ → Type 0) where
  -- the values were passed: what was to come is their bytes, and then what is to come now
  pub record HasPassed (place : ℕ) (ahead : List ℕ) (values : List Value)
      (spot : Spot) : Type 0 where
    pub front : List ℕ
    pub rest : List ℕ
    pub split : ahead ≡ front ++ rest
    pub spelled : SpellsEach Spells values front
    pub rest_is : IsAt spot rest
    pub place_is : told spot.place ≡ told (place + length front)

module _ {Value : Type 0} (Spells : Value → List ℕ → Type 0)
    (Wrong : ℕ → List ℕ → ℕ → FormRefusal → Type 0) where
  -- one value more was read, or nothing was left, or it stopped, and passed nothing
  abbrev pub AddsOne : Result Bool FormRefusal → Coming → List Value → List Value → Spot → Type 0
  AddsOne (Ok true) next old new spot = (value : Value) × (new ≡ old ++ value ∷ [])
      × HasPassed Spells next.place next.ahead (value ∷ []) spot
  AddsOne (Ok false) next old new spot = (new ≡ old) × (next.ahead ≡ [])
      × IsAt spot [] × (spot.place ≡ next.place)
  AddsOne (Err refusal) next old new spot = IsOutside refusal
      ⊎ ((new ≡ old) × IsAt spot next.ahead × (spot.place ≡ next.place)
      × Wrong (length old) next.ahead next.place refusal)

  -- what stops a reader that has passed these values: more bytes than there may be, or what is wrong with those to come
  abbrev pub Stops : ℕ → ℕ → List ℕ → List Value → Spot → FormRefusal → Type 0
  Stops most place ahead values spot refusal = (passed : HasPassed Spells place ahead values spot)
      × (((most < spot.place) × (refusal ≡ Large most))
      ⊎ ((spot.place ≤ most) × Wrong (length values) passed.rest spot.place refusal))

  -- all was read, within the limit of bytes; or it stopped
  abbrev pub AddsAll : {T : Type 0} → ℕ → Result T FormRefusal → Coming → List Value → Spot
      → Type 0
  AddsAll most (Ok _) next new spot = (passed : HasPassed Spells next.place next.ahead new spot)
      × (passed.rest ≡ []) × (spot.left ≡ Some []) × (spot.place ≤ most)
  AddsAll most (Err refusal) next new spot = IsOutside refusal
      ⊎ ((values : List Value) × Stops most next.place next.ahead values spot refusal)

-- a cut is told at this length of the input
abbrev pub IsCutAt : ℕ → FormRefusal → Type 0
IsCutAt total (Cut at) = at ≡ told total
IsCutAt total (Kind at byte) = Unit {0}
IsCutAt total (Field at) = Unit {0}
IsCutAt total (Large at) = Unit {0}
IsCutAt total ReadFault = Unit {0}
IsCutAt total NoMemory = Unit {0}

-- the magic of a trace was passed, or what is wrong with it is told, and nothing was passed
abbrev pub PassesMagic : {T : Type 0} → Result T FormRefusal → ℕ → List ℕ → Spot → Type 0
PassesMagic (Ok _) place ahead after = (rest : List ℕ) × (ahead ≡ trace_magic ++ rest)
    × IsAt after rest × (after.place ≡ told (place + 8))
PassesMagic (Err refusal) place ahead after = (refusal ≡ ReadFault)
    ⊎ (IsAt after ahead × (after.place ≡ place)
    × TellsFlaw (MagicFlaw trace_magic) ahead place refusal)

-- an entry was taken from what is to come, or what is wrong with it is told
abbrev pub TakesEntry : Result Heard FormRefusal → ℕ → List ℕ → Spot → Type 0
TakesEntry (Ok entry) place ahead after = HasPassed SpellsEntry place ahead (entry ∷ []) after
TakesEntry (Err refusal) place ahead after = TellsFlaw EntryFlaw ahead place refusal

-- The input is a trace with these entries, and nothing is left; or why not, as far as it was read: what was passed and
-- what is to come are as many bytes as the input has.
abbrev pub ReadsTrace : {T : Type 0} → Result T FormRefusal → List ℕ → List Heard → Spot → Type 0
ReadsTrace (Ok _) bytes heard spot = IsTrace bytes heard × (spot.left ≡ Some [])
ReadsTrace (Err refusal) bytes heard spot = IsOutside refusal
    ⊎ ((rest : List ℕ) × IsAt spot rest × (told (length bytes) ≡ told (spot.place + length rest))
    × IsCutAt (length bytes) refusal
    × (((most_trace_bytes < length bytes) × (refusal ≡ Large most_trace_bytes))
    ⊎ (HasTooMany bytes refusal ⊎ LacksTraceForm bytes refusal)))

-- The same of books of a version: what is answered of a book tells this of its header and its records.
module _ {T : Type 0} (Tells : T → Head → List Record → Type 0) (version : Version) where
  abbrev pub ReadsBook : Result T FormRefusal → List ℕ → List Record → Spot → Type 0
  ReadsBook (Ok value) bytes records spot =
      ((header : Head) × IsBook version bytes header records × Tells value header records)
      × (spot.left ≡ Some [])
  ReadsBook (Err refusal) bytes records spot = IsOutside refusal ⊎ ((rest : List ℕ) × IsAt spot rest
      × (told (length bytes) ≡ told (spot.place + length rest))
      × IsCutAt (length bytes) refusal
      × (((most_book_bytes version < length bytes) × (refusal ≡ Large (most_book_bytes version)))
      ⊎ LacksBookForm version bytes refusal))

-- what is answered is the header
abbrev pub IsHeaderOf : Head → Head → List Record → Type 0
IsHeaderOf told header records = told ≡ header

-- what is answered where this refusal was found in an input of `total` bytes: more than there may be come before it
abbrev pub IsSettled : ℕ → ℕ → FormRefusal → FormRefusal → Type 0
IsSettled most total found refusal = IsOutside refusal
    ⊎ ((most < total) × (refusal ≡ Large most))
    ⊎ ((total ≤ most) × (refusal ≡ found))
