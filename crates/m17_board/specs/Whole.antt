-- Which records stand whole in the bytes of a book, and how far they are read.
use Rattle.std.specs.Prelude.{◌≡◌, ◌⊎◌, ℕ, ◌<◌, List, [], ◌++◌, length}
use Rattle.m17_book.specs.Book.{HasBookForm}
use Rattle.m17_book.specs.Versions.{book_header, FitsHeader}
use Rattle.m17_book.specs.Records.{SpellsRecord}
use Rattle.m17_book.specs.declared.head.Head.{Head}
use Rattle.m17_book.specs.declared.record.Record.{Record}
use Rattle.m17_book.specs.declared.version.Version.TheVariants.{Two}
use Rattle.m17_board.specs.declared.feed.Stage.{Stage}
use Rattle.m17_board.specs.declared.feed.Stage.TheVariants.{Header, Records, Refused}

-- The bytes are a header.
abbrev pub IsHeader : List ℕ → Type 0
IsHeader bytes = (head : Head) × FitsHeader Two head × (bytes ≡ book_header Two head)

-- The bytes begin with no header: they end inside it, or it is refused.
abbrev pub LacksHeader : List ℕ → Type 0
LacksHeader bytes = (front rest : List ℕ) → IsHeader front → bytes ≡ front ++ rest → ⊥

-- The bytes begin with no record: they end inside it, or it is refused.
abbrev pub LacksRecord : List ℕ → Type 0
LacksRecord bytes = (one : Record) (front rest : List ℕ)
    → SpellsRecord Two one front → bytes ≡ front ++ rest → ⊥

-- The records are those that stand whole in the bytes, in order, before the first bytes that are refused: none where the
-- bytes begin with no header, and else all behind it up to where no other begins.
abbrev pub StandWhole : List ℕ → List Record → Type 0
StandWhole bytes records = (LacksHeader bytes × (records ≡ []))
    ⊎ ((head : Head) × (front : List ℕ) × (rest : List ℕ) × (bytes ≡ front ++ rest)
    × HasBookForm Two front head records × LacksRecord rest)

-- what is kept of the bytes: what comes next, and those behind the last whole part
pub record FeedKept : Type 0 where
  pub stage : Stage
  pub held : List ℕ

-- The bytes that were taken are read so far, and these records were posted: they end inside the header; or with the held
-- ones behind a header and these records; or they are refused, and nothing that comes changes what is posted.
abbrev pub HasReadAt : Stage → List ℕ → List ℕ → List Record → Type 0
HasReadAt Header held taken posted = (taken ≡ held) × (length held < 17) × (posted ≡ [])
HasReadAt Records held taken posted = (head : Head) × (front : List ℕ) × (taken ≡ front ++ held)
    × HasBookForm Two front head posted × LacksRecord held
HasReadAt Refused held taken posted = (more : List ℕ) → StandWhole (taken ++ more) posted

abbrev pub HasRead : FeedKept → List ℕ → List Record → Type 0
HasRead feed taken posted = HasReadAt feed.stage feed.held taken posted
