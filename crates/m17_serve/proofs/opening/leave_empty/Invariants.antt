use Rattle.std.proofs.Common.{◌≡◌, ◌≤◌, All, None, vec_len, vec_capacity}
use Rattle.m17_serve.proofs.opening.leave_empty.Given as goal

abbrev pub invariant-loop-left : goal.invariant-loop-left
invariant-loop-left g l = record {
  few : vec_len l.shelves ≡ l._left;
  room : l.count ≤ vec_capacity l.shelves;
  empty : All (λ shelf. shelf.inner ≡ None) l.shelves.items;
}
