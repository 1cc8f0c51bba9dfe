-- The two versions of books, and all that differs between them. This profile's own form: the public specification has
-- no books.
use Rattle.std.specs.Prelude.{◌≡◌, ℕ, ◌<◌, ◌≤◌, ◌^◌, List, [], ◌∷◌, ◌++◌, codes}
use Rattle.m17_fields.specs.Fields.{be_64}
use Rattle.m17_callsign.specs.Callsign.{HasCallsign, end_of_callsigns}
use Rattle.m17_control.specs.Forms.{IsModule}
use Rattle.m17_book.specs.declared.head.Head.{Head}
use Rattle.m17_book.specs.declared.version.Version.{Version}
use Rattle.m17_book.specs.declared.version.Version.TheVariants.{One, Two}

-- the digit of the version
abbrev pub digit_of : Version → ℕ
digit_of One = 49
digit_of Two = 50

-- what a book of the version begins with
abbrev pub book_magic : Version → List ℕ
book_magic version = codes "M17BOOK" ++ digit_of version ∷ []

-- The limit on talking, in milliseconds, as it stands behind the letter of the module; 0 is no limit. Version 1 has
-- none there, and stands for 0.
abbrev pub limit_bytes : Version → ℕ → List ℕ
limit_bytes One limit = []
limit_bytes Two limit = be_64 limit

abbrev pub FitsLimit : Version → ℕ → Type 0
FitsLimit One limit = limit ≡ 0
FitsLimit Two limit = limit < 2 ^ 64

-- how many bytes the header has
abbrev pub header_size : Version → ℕ
header_size One = 9
header_size Two = 17

-- the most bytes of a book
abbrev pub most_book_bytes : Version → ℕ
most_book_bytes One = 67108864
most_book_bytes Two = 67108872

-- the highest byte of a verdict: version 1 doesn't know that of a stream that was timed out
abbrev pub highest_verdict : Version → ℕ
highest_verdict One = 8
highest_verdict Two = 9

-- the addresses that a Join may have: in version 1 those of stations alone, 1 to 40^9 - 1
abbrev pub MayJoin : Version → ℕ → Type 0
MayJoin One address = (0 < address) × (address < end_of_callsigns)
MayJoin Two address = HasCallsign address

-- what a header may say: a letter from A to Z, and a limit that stands there
abbrev pub FitsHeader : Version → Head → Type 0
FitsHeader version head = IsModule head.module × FitsLimit version head.limit

-- The bytes that a book begins with: magic, letter and limit.
abbrev pub book_header : Version → Head → List ℕ
book_header version head = book_magic version ++ head.module ∷ limit_bytes version head.limit

-- what the header of a book of version 1 says: its letter, and no limit
abbrev pub header_of : ℕ → Head
header_of letter = record { «module» = letter; limit = 0 }
