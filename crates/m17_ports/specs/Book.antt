-- What a book tells, and what became of a text that was to be written.
use Rattle.std.specs.Prelude.{◌≡◌, ◌≤◌, ℕ, Bool, true, false, List, take, Option, None, Some}
use Rattle.m17_io.specs.Faults.{HasRisen}
use Rattle.m17_ports.specs.Told.{told_then, StartsEmpty}
use Rattle.m17_ports.specs.Marks.{Device, IsNumbered}

-- All that a book with labels of this kind tells: the bytes written so far, where it tells them, how often it failed, and
-- which book it is; its mark is its number.
pub record BookTold (L : Type 0) : Type 0 where
  pub written : Option (List ℕ)
  pub faults : ℕ
  pub device : Device ℕ L

-- What a book that may be missing tells: what it tells that is there, or nothing. Its label says whether it is there.
abbrev pub shelf_told : {L : Type 0} → Option (BookTold L) → BookTold (Option L)
shelf_told None = record {
  written = None;
  faults = 0;
  device = record { mark = None; label = None };
}
shelf_told (Some book) = record {
  written = book.written;
  faults = book.faults;
  device = record { mark = book.device.mark; label = Some book.device.label };
}

-- The book was written all of the text; or a write of it failed, its count of faults rose, and then it holds a beginning of
-- the text and was written no more. The count never falls. It is the same book.
pub record HasText {L : Type 0} (before : BookTold L) (text : List ℕ) (failed : Bool)
    (after : BookTold L) : Type 0 where
  pub whole : failed ≡ false →
      (after.written ≡ told_then before.written text) × (after.faults ≡ before.faults)
  pub cut : failed ≡ true → (n : ℕ) × (after.written ≡ told_then before.written (take n text))
      × HasRisen before.faults after.faults
  pub counted : before.faults ≤ after.faults
  pub same_device : after.device ≡ before.device

-- A new book, which the call with this number handed out: nothing is written in it, and nothing failed.
pub record IsNewBook {L : Type 0} (call : ℕ) (book : BookTold L) : Type 0 where
  pub written : StartsEmpty book.written
  pub faults : book.faults ≡ 0
  pub numbered : IsNumbered book.device.mark call
