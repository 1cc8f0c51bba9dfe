-- What the thread of a book does.
use Rattle.std.specs.Prelude.{◌≡◌, ◌↔◌, ◌++◌, ◌∷◌, ℕ, true, false, List, [], All, Contains, Option, None, Some, IfSome, MatchOption, Result, Ok, Err}
use Rattle.m17_lane.specs.Ends.{PushEnd}
use Rattle.m17_ports.specs.Book.{BookTold, HasText}
use Rattle.m17_disk.specs.Queue.{QueueKept, joined}
use Rattle.m17_disk.specs.declared.settling.Unsettled.{Unsettled}
use Rattle.m17_disk.specs.declared.settling.Unsettled.TheVariants.{Failed}
use Rattle.m17_disk.specs.declared.writer.Writer.{Writer}

-- nothing was taken, no write failed, and the end by which the mark is sent is elsewhere
pub record IsReady {B : Type 0} (j : Writer B) : Type 0 where
  pub nothing : j.slips.popped ≡ []
  pub sound : j.failed ≡ false
  pub unmarked : j.marker ≡ None

-- the job is that of the book's thread: its lane is the book's, which has one producer beside it, that of the mark
pub record IsOfBook {B : Type 0} (book : QueueKept) (j : Writer B) : Type 0 where
  pub lane : book.slips.lane ≡ j.slips.lane
  pub two : j.slips.producers ≡ 2
  pub first : book.slips.number ≡ 0

-- of these the last is a mark: it has no bytes
abbrev pub EndsMarked : List (List ℕ) → Type 0
EndsMarked taken = (writes : List (List ℕ)) × (taken ≡ writes ++ [] ∷ [])

-- the end by which the mark is sent to the thread: it is of the thread's lane, and has sent nothing, or marks alone
pub record IsMarker {B : Type 0} (j : Writer B) (marker : PushEnd (List ℕ)) : Type 0 where
  pub lane : marker.lane ≡ j.slips.lane
  pub second : marker.number ≡ 1
  pub marks : All (λ bytes. bytes ≡ []) marker.pushed

abbrev pub HasMarker : {B : Type 0} → Writer B → Type 0
HasMarker j = MatchOption j.marker ⊥ (IsMarker j)

-- What the thread did: it took writes from its lane, and nothing else of the lane changed; what it took has gone to its
-- book, in order, each once, up to a write that failed. Where none failed, it took the mark behind the last write, and
-- so all that stood in its lane before that. `told` says what its book tells.
pub record WriterDid {B L : Type 0} (told : B → BookTold L) (j k : Writer B) : Type 0 where
  pub slips : k.slips ≡ record j.slips { popped = k.slips.popped }
  pub text : HasText (told j.book) (joined k.slips.popped) k.failed (told k.book)
  pub all : k.failed ≡ false → EndsMarked k.slips.popped

-- What became of a thread that was to come to its end: it ended, and this is its job, done, with the end that sent it the
-- mark; or it did not end in time.
abbrev pub EndsAs : {B L : Type 0} → (B → BookTold L) → Writer B → Option (Writer B) → Type 0
EndsAs told j end = IfSome end (λ k. WriterDid told j k × HasMarker k)

-- It ended, and no write of its book failed: all that stood in its lane before the mark was written.
abbrev pub IsWritten : {B : Type 0} → Option (Writer B) → Type 0
IsWritten None = ⊥
IsWritten (Some k) = k.failed ≡ false

-- It ended, and a write of its book failed.
abbrev pub FailsToWrite : {B : Type 0} → Option (Writer B) → Type 0
FailsToWrite None = ⊥
FailsToWrite (Some k) = k.failed ≡ true

-- What is said of these together: that all is well exactly where each of them ended and no write failed; that one failed
-- exactly where a write of one that ended did; and else that one was late.
pub record SaysOf {B : Type 0} (ended : List (Option (Writer B)))
    (said : Result (Unit {0}) Unsettled) : Type 0 where
  pub well : (said ≡ Ok tt) ↔ All IsWritten ended
  pub failed : (said ≡ Err Failed)
      ↔ ((one : Option (Writer B)) × Contains ended one × FailsToWrite one)
