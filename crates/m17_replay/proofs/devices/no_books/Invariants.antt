use Rattle.std.proofs.Common.{◌≡◌, None, All, vec_len}
use Rattle.m17_replay.proofs.devices.no_books.Given as goal

-- so many books are there
abbrev pub invariant-loop-book : goal.invariant-loop-book
invariant-loop-book l = (vec_len l.all ≡ l._book) × All (λ book. book.inner ≡ None) l.all.items
