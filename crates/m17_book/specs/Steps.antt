-- One step of a reader over a source: a value is taken, nothing is left, or what is wrong is told. No public clause of
-- a function cites this module.
use Rattle.std.specs.Prelude.{◌≡◌, ◌⊎◌, ℕ, ◌+◌, List, [], ◌++◌, length, Option, None, Some, Result, Ok, Err}
use Rattle.m17_book.specs.Limits.{told}
use Rattle.m17_book.specs.Book.{TellsFlaw, BookHeaderFlaw}
use Rattle.m17_book.specs.Versions.{book_header, header_size, FitsHeader}
use Rattle.m17_book.specs.Walk.{Coming, Spot, IsAt}
use Rattle.m17_book.specs.declared.head.Head.{Head}
use Rattle.m17_book.specs.declared.version.Version.{Version}
use Rattle.m17_book.specs.declared.refusal.Flaw.{Flaw}
use Rattle.m17_book.specs.declared.refusal.Flaw.TheVariants as flaws
use Rattle.m17_book.specs.declared.refusal.FormRefusal.{FormRefusal}
use Rattle.m17_book.specs.declared.refusal.FormRefusal.TheVariants.{Cut, Kind, Field, ReadFault}

-- how a flaw of the bytes from a place on is told, where `len` bytes are there
abbrev pub tell : Flaw → ℕ → ℕ → FormRefusal
tell flaws.Cut place len = Cut (told (place + len))
tell (flaws.Kind byte) place len = Kind place byte
tell (flaws.Field k) place len = Field (told (place + k))

-- What the next answer says of what is to come, and where the cursor is after it.
abbrev pub IsNext : {Value : Type 0} → (Value → List ℕ → Type 0) → (List ℕ → Flaw → Type 0)
    → Result (Option Value) FormRefusal → Coming → Spot → Type 0
IsNext Spells Flawed (Ok (Some value)) next spot = (front : List ℕ) × (rest : List ℕ)
    × (next.ahead ≡ front ++ rest) × Spells value front × IsAt spot rest
    × (spot.place ≡ told (next.place + length front))
IsNext Spells Flawed (Ok None) next spot =
    (next.ahead ≡ []) × IsAt spot [] × (spot.place ≡ next.place)
IsNext Spells Flawed (Err refusal) next spot =
    (refusal ≡ ReadFault) ⊎ TellsFlaw Flawed next.ahead next.place refusal

-- The header of a book of the version was passed, or what is wrong with it is told.
abbrev pub PassesHeader : Version → Result Head FormRefusal → Coming → Spot → Type 0
PassesHeader version (Ok head) next spot = FitsHeader version head × (rest : List ℕ)
    × (next.ahead ≡ book_header version head ++ rest) × IsAt spot rest
    × (spot.place ≡ told (next.place + header_size version))
PassesHeader version (Err refusal) next spot =
    (refusal ≡ ReadFault) ⊎ TellsFlaw (BookHeaderFlaw version) next.ahead next.place refusal
