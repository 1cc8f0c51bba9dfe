-- What contracts see of a book that keeps a first part of a write and fails.
use Rattle.std.specs.Prelude.{ℕ, ◌-◌, min, List, [], ◌++◌, length, take, nat_eq, Option}
use Rattle.std.specs.Map.{lookup}
use Rattle.m17_ports.specs.Ports.{next_number}

-- A book of a fixed room: the bytes written, how many it may hold, the number of the next call, which calls are to fail,
-- each with how many of its bytes it appends before, and how often it has failed.
pub record TornKept : Type 0 where
  pub written : List ℕ
  pub room : ℕ
  pub next_call : ℕ
  pub fails : List (ℕ × ℕ)
  pub faults : ℕ

-- a book in which nothing is written
abbrev pub new_book : ℕ → List (ℕ × ℕ) → TornKept
new_book most numbers =
    record { written = []; room = most; next_call = 0; fails = numbers; faults = 0 }

-- How many of its bytes call n appends before it fails, where it is to fail: of two entries with one number the first
-- holds.
abbrev pub torn_at : List (ℕ × ℕ) → ℕ → Option ℕ
torn_at fails n = lookup (λ number. nat_eq number n) fails

-- a book that has failed once more
abbrev pub faulted : TornKept → TornKept
faulted book = record book { faults = next_number book.faults }

-- a book with more bytes written by one call more
abbrev pub writes : TornKept → List ℕ → TornKept
writes book bytes = record book {
  written = book.written ++ bytes;
  next_call = next_number book.next_call;
}

-- a book after a call that failed and appended nothing
abbrev pub fails_to_write : TornKept → TornKept
fails_to_write book = record book {
  next_call = next_number book.next_call;
  faults = next_number book.faults;
}

-- A book after a call that failed and appended the first `most` of its bytes, all where there are fewer, and none past the
-- room.
abbrev pub tears : TornKept → ℕ → List ℕ → TornKept
tears book most bytes = record book {
  written = book.written ++ take (min most (book.room - length book.written)) bytes;
  next_call = next_number book.next_call;
  faults = next_number book.faults;
}
