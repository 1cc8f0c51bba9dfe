-- The lines that a watch writes, and what they tell.
use Rattle.std.specs.Prelude.{◌≡◌, ◌≢◌, ◌⊎◌, ℕ, ◌<◌, ◌≤◌, Bool, true, false, List, [], length, All, slice_get, slice_index, Some}
use Rattle.std.specs.List.{AllPairs, Contains, flat_map}
use Rattle.m17_ports.specs.Book.{BookTold, HasText}
use Rattle.m17_control.specs.declared.modules.Modules.{Modules}
use Rattle.m17_board.specs.Ends.{PostEnd, EyeEnd}
use Rattle.m17_board.specs.Glance.{glance_of, IsGlanceWithin}
use Rattle.m17_board.specs.declared.glance.Glance.{Glance}
use Rattle.m17_board.specs.Lines.{glance_line}
use Rattle.m17_board.specs.Shows.{Shown, IsPlaceOf}

-- A line of a board: the letter of its module, the place of the module's eye, and what the line tells.
pub record BoardLine : Type 0 where
  pub letter : ℕ
  pub place : ℕ
  pub glance : Glance

-- the text of these lines
abbrev pub lines_text : List BoardLine → List ℕ
lines_text lines = flat_map (λ line. glance_line line.letter line.glance) lines

-- Where the two lines are of one module, the second has more records.
abbrev pub Rises : BoardLine → BoardLine → Type 0
Rises a b = a.letter ≡ b.letter → a.glance.records < b.glance.records

-- the eye at this place has seen the glance
abbrev pub HasSeen : List EyeEnd → ℕ → Glance → Type 0
HasSeen eyes place glance =
    (eye : EyeEnd) × (slice_get eyes place ≡ Some eye) × Contains eye.seen glance

-- what a module's last line says behind these lines: the number of records of one of them, or what it said before them
abbrev pub IsLastOf : List ℕ → List BoardLine → ℕ → ℕ → Type 0
IsLastOf before lines place number = (number ≡ slice_index before place)
    ⊎ ((line : BoardLine) × Contains lines line × (line.place ≡ place)
    × (number ≡ line.glance.records))

-- What was written between two moments of a watch whose book had not failed at the first: these lines, all of them, or
-- where a write failed a beginning. Each is of a module of the board, and tells what `Tells` says of the module's place. The
-- numbers of a module's lines rise, from above what its last line said before; and its last line says the greatest, unless
-- a write failed, which was that of one of these lines.
pub record WroteBy {B L : Type 0} (Tells : ℕ → Glance → Type 0) (told : B → BookTold L)
    (modules : Modules) (from to : Shown B) (lines : List BoardLine) : Type 0 where
  pub text : HasText (told from.book) (lines_text lines) to.failed (told to.book)
  pub of_modules : All (λ line. IsPlaceOf modules line.letter line.place) lines
  pub tell : All (λ line. Tells line.place line.glance) lines
  pub rise : AllPairs Rises lines
  pub above : All (λ line. slice_index from.last line.place < line.glance.records) lines
  pub greatest : to.failed ≡ false
      → All (λ line. line.glance.records ≤ slice_index to.last line.place) lines
  pub last : (place : ℕ) → IsLastOf from.last lines place (slice_index to.last place)
  pub as_many : length to.last ≡ length from.last
  pub failed_line : to.failed ≡ true → lines ≢ []

-- The same where each line tells what the eye at its place has seen.
abbrev pub Wrote : {B L : Type 0} → (B → BookTold L) → Modules → Shown B → Shown B → List BoardLine
    → Type 0
Wrote told modules from to lines = WroteBy (HasSeen to.eyes) told modules from to lines

-- the glance is what is shown of a first part of what the poster at this place posted
abbrev pub TellsFirstPart : List PostEnd → ℕ → Glance → Type 0
TellsFirstPart posters place glance = (poster : PostEnd)
    × (slice_get posters place ≡ Some poster) × IsGlanceWithin poster.posted glance

-- Each line tells what is shown of a first part of what the poster at its place posted.
abbrev pub TellFirstParts : List PostEnd → List BoardLine → Type 0
TellFirstParts posters lines = All (λ line. TellsFirstPart posters line.place line.glance) lines

-- These lines show all that the posters of a board posted, module by module: their numbers rise, each tells what is shown
-- of a first part, and a module of which something was posted has a line that tells all of it. So that is its last one,
-- and a module of which nothing was posted has none.
pub record ShowPosts (modules : Modules) (posters : List PostEnd) (lines : List BoardLine) : Type 0
  where
    pub of_modules : All (λ line. IsPlaceOf modules line.letter line.place) lines
    pub rise : AllPairs Rises lines
    pub tell : TellFirstParts posters lines
    pub none : (place : ℕ) (poster : PostEnd) → slice_get posters place ≡ Some poster
        → poster.posted ≡ [] → All (λ line. line.place ≢ place) lines
    pub all : (place : ℕ) (poster : PostEnd) → slice_get posters place ≡ Some poster
        → poster.posted ≢ [] → (line : BoardLine) × Contains lines line
        × (line.place ≡ place) × (line.glance ≡ glance_of poster.posted)

-- A beginning of them, where a write failed: none of them tells more than was posted, and a module of which nothing was
-- posted has none.
pub record ShowBegin (modules : Modules) (posters : List PostEnd) (lines : List BoardLine) : Type 0
  where
    pub of_modules : All (λ line. IsPlaceOf modules line.letter line.place) lines
    pub rise : AllPairs Rises lines
    pub tell : TellFirstParts posters lines
    pub none : (place : ℕ) (poster : PostEnd) → slice_get posters place ≡ Some poster
        → poster.posted ≡ [] → All (λ line. line.place ≢ place) lines

-- What the book of an ended board holds beside what it held before: the lines that show all that was posted, or, where a
-- write failed, which was that of a line, a beginning of lines that show first parts of it.
pub record ShowsBoard {L : Type 0} (modules : Modules) (posters : List PostEnd) (failed : Bool)
    (before after : BookTold L) : Type 0 where
  pub lines : List BoardLine
  pub text : HasText before (lines_text lines) failed after
  pub failed_line : failed ≡ true → lines ≢ []
  pub begin : ShowBegin modules posters lines
  pub whole : failed ≡ false → ShowPosts modules posters lines

-- the first line is of a module before the second's, by its letter
abbrev pub IsBefore : BoardLine → BoardLine → Type 0
IsBefore a b = a.letter < b.letter

-- the glance is at all that the poster at this place posted
abbrev pub TellsAll : List PostEnd → ℕ → Glance → Type 0
TellsAll posters place glance = (poster : PostEnd)
    × (slice_get posters place ≡ Some poster) × (glance ≡ glance_of poster.posted)

-- What the end of a board writes behind the lines of its watch: a line of each module of which more was posted than its last
-- line says, in order of letters, each of all that was posted; or, where a write failed, a beginning of such lines.
pub record WritesLast {L : Type 0} (modules : Modules) (posters : List PostEnd) (last : List ℕ)
    (failed : Bool) (before after : BookTold L) : Type 0 where
  pub lines : List BoardLine
  pub text : HasText before (lines_text lines) failed after
  pub in_order : AllPairs IsBefore lines
  pub of_modules : All (λ line. IsPlaceOf modules line.letter line.place) lines
  pub tell : All (λ line. TellsAll posters line.place line.glance) lines
  pub above : All (λ line. slice_index last line.place < line.glance.records) lines
  pub each : failed ≡ false → (place : ℕ) (poster : PostEnd)
      → slice_get posters place ≡ Some poster → slice_index last place < length poster.posted
      → (line : BoardLine) × Contains lines line × (line.place ≡ place)
