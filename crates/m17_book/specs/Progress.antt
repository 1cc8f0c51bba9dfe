-- A reader of a book as its callers see it.
use Rattle.std.specs.Prelude.{ℕ, List, Option}
use Rattle.m17_book.specs.declared.cursor.Cursor.{Cursor}
use Rattle.m17_book.specs.declared.head.Head.{Head}
use Rattle.m17_book.specs.declared.refusal.FormRefusal.{FormRefusal}
use Rattle.m17_book.specs.Ahead.{held}

-- The bytes that the reader took from its source and has not passed yet, how many it passed, what the header said, once
-- it is among those, and the refusal that it gave.
pub record Progress : Type 0 where
  pub unread : List ℕ
  pub place : ℕ
  pub header : Option Head
  pub refusal : Option FormRefusal

-- what callers see of a reader's fields
abbrev pub progress : Cursor → Option Head → Option FormRefusal → Progress
progress cursor header refusal = record {
  unread = held cursor;
  place = cursor.place;
  header = header;
  refusal = refusal;
}
