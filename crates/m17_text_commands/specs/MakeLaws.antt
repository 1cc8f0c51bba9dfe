-- What is made is a trace, and how long it is.
use Rattle.std.specs.Prelude.{◌≡◌, ℕ, ◌+◌, ◌≤◌, length}
use Rattle.std.specs.List.{sum_by, range_with_len}
use Rattle.m17_book.specs.Book.{IsTrace}
use Rattle.m17_text_commands.specs.Made.{entry_length}
use Rattle.m17_text_commands.specs.Make.{entry_made, heard_of, make_text}

-- the most entries of an evening
abbrev pub most_entries : ℕ
most_entries = 100000

-- the text is a trace of what the link heard
abbrev pub MakesATrace : Type 0
MakesATrace = (seed count : ℕ) → count ≤ most_entries
    → IsTrace (make_text seed count) (heard_of seed count)

-- The text has the 8 bytes of the header, and for each entry the bytes of its kind.
abbrev pub LengthIsByKinds : Type 0
LengthIsByKinds = (seed count : ℕ) → length (make_text seed count)
    ≡ 8 + sum_by (λ j. entry_length (entry_made seed j)) (range_with_len 0 count)
