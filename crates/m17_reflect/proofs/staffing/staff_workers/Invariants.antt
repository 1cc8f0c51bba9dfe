use Rattle.std.proofs.Common.{◌≡◌, ◌+◌, ◌≤◌, ◌++◌, map, reverse, vec_len, vec_capacity}
use Rattle.m17_reflect.specs.Bare.{bare_worker}
use Rattle.m17_reflect.proofs.staffing.staff_workers.Given as goal

-- the last workers have their books, and these came from the end
abbrev pub invariant-loop-worker : goal.invariant-loop-worker
invariant-loop-worker g l = record {
  bare : map bare_worker l.fn.made.items ≡ map bare_worker l.made.items ++ map bare_worker (reverse l.jobs.items);
  books : l.fn.books.items ≡ l.books.items ++ map (λ w. w.book) (reverse l.jobs.items);
  book_count : vec_len l.books ≡ vec_len l.made;
  count : vec_len l.jobs + vec_len l.made ≡ vec_len l.fn.made;
  room : vec_len l.fn.made ≤ vec_capacity l.jobs;
  book_room : vec_capacity l.books ≡ vec_capacity l.fn.books;
}

abbrev pub decreases-loop-worker : goal.decreases-loop-worker
decreases-loop-worker g l = vec_len l.made
