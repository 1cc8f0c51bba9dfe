-- What a watch sees and writes, look by look.
use Rattle.std.specs.Prelude.{◌≡◌, ◌≢◌, ◌⊎◌, ℕ, ◌<◌, ◌≤◌, Bool, true, false, List, [], ◌∷◌, ◌++◌, length, All, slice_get, slice_index, slice_set, Some, if◌then◌else◌}
use Rattle.m17_ports.specs.Book.{BookTold, HasText}
use Rattle.m17_control.specs.Modules.{serves, letters_before}
use Rattle.m17_control.specs.declared.modules.Modules.{Modules}
use Rattle.m17_crew.specs.declared.order.Order.{Order}
use Rattle.m17_crew.specs.declared.order.Order.TheVariants.{Quit}
use Rattle.m17_lane.specs.Ends.{PopEnd}
use Rattle.m17_lane.specs.Rows.{pops}
use Rattle.m17_book.specs.declared.record.Record.{Record}
use Rattle.m17_board.specs.Glance.{glance_of}
use Rattle.m17_board.specs.Ends.{EyeEnd, seen_more}
use Rattle.m17_board.specs.declared.glance.Glance.{Glance}
use Rattle.m17_board.specs.Lines.{glance_line}
use Rattle.m17_board.specs.declared.watch.Watch.{Watch}

-- What a watch has seen and shown: its eyes, how many records each module's last line says, its book, and whether a write
-- of it failed.
pub record Shown (B : Type 0) : Type 0 where
  pub eyes : List EyeEnd
  pub last : List ℕ
  pub book : B
  pub failed : Bool

abbrev pub shown_of : {B T : Type 0} → Watch B T → Shown B
shown_of w =
    record { eyes = w.eyes.items; last = w.last.items; book = w.book; failed = w.failed }

-- the module with this letter is one of these, and its eye has this place
abbrev pub IsPlaceOf : Modules → ℕ → ℕ → Type 0
IsPlaceOf modules letter place =
    (serves modules letter ≡ true) × (place ≡ length (letters_before modules letter))

-- The eye at this place has looked, and this is the glance; the other eyes are as they were.
pub record HasLooked (eyes : List EyeEnd) (place : ℕ) (glance : Glance) (eyes' : List EyeEnd)
    : Type 0 where
  pub eye : EyeEnd
  pub there : slice_get eyes place ≡ Some eye
  pub more : List Record
  pub saw : glance ≡ glance_of (eye.known ++ more)
  pub eyes_are : eyes' ≡ slice_set eyes place (seen_more eye more)

-- The line of the glance is written, where it has more records than the module's last line and no write failed before. It
-- is the last line then, unless the write failed: then the book holds a beginning of it.
pub record WritesLine {B L : Type 0} (told : B → BookTold L) (letter place : ℕ) (glance : Glance)
    (old new : Shown B) : Type 0 where
  pub there : place < length old.last
  pub grown : slice_index old.last place < glance.records
  pub going : old.failed ≡ false
  pub text : HasText (told old.book) (glance_line letter glance) new.failed (told new.book)
  pub last : new.last ≡ (if new.failed then old.last else slice_set old.last place glance.records)
  pub eyes : new.eyes ≡ old.eyes

-- Nothing is written, where a write failed before, or the glance has no more records than the module's last line.
pub record WritesNothing {B : Type 0} (place : ℕ) (glance : Glance) (old new : Shown B) : Type 0
  where
    pub why : (old.failed ≡ true) ⊎ (glance.records ≤ slice_index old.last place)
    pub same : new ≡ old

-- One look at the module with this letter, whose eye has this place, and what is written by it.
pub record LookedAt {B L : Type 0} (told : B → BookTold L) (letter place : ℕ) (old new : Shown B)
    : Type 0 where
  pub glance : Glance
  pub eyes : List EyeEnd
  pub looked : HasLooked old.eyes place glance eyes
  pub writes : WritesLine told letter place glance record old { eyes = eyes } new
      ⊎ WritesNothing place glance record old { eyes = eyes } new

-- One look after another at modules of the board, in whatever order.
pub data Watched {B L : Type 0} (told : B → BookTold L) (modules : Modules) (from : Shown B)
    : Shown B → Type 0 where
  not_yet : Watched told modules from from
  one_look : (a b : Shown B) (letter place : ℕ) → Watched told modules from a
      → IsPlaceOf modules letter place → LookedAt told letter place a b
      → Watched told modules from b

-- the same from wherever it was watched before
abbrev pub Looked : {B L : Type 0} → (B → BookTold L) → Modules → Shown B → Shown B → Type 0
Looked {B} told modules a b =
    (from : Shown B) → Watched told modules from a → Watched told modules from b

-- It watches the same modules, and popped no order.
pub record IsSameWatch {B T : Type 0} (old new : Watch B T) : Type 0 where
  pub modules_are : new.modules ≡ old.modules
  pub order : new.order ≡ old.order

-- Orders other than Quit were popped.
pub record HasPassed (before after : PopEnd Order) : Type 0 where
  pub others : List Order
  pub no_quit : All (λ order. order ≢ Quit) others
  pub orders : after ≡ pops before others

-- The order to quit was popped, and before it no other Quit.
pub record HasQuit (before after : PopEnd Order) : Type 0 where
  pub others : List Order
  pub no_quit : All (λ order. order ≢ Quit) others
  pub orders : after ≡ pops before (others ++ Quit ∷ [])

-- What a watch did: it looked, and wrote what it saw, until the first order to quit.
pub record WatchDid {B L T : Type 0} (told : B → BookTold L) (j k : Watch B T) : Type 0 where
  pub modules_are : k.modules ≡ j.modules
  pub watched : Watched told j.modules (shown_of j) (shown_of k)
  pub quit : HasQuit j.order k.order
