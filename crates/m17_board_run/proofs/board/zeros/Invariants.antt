use Rattle.std.proofs.Common.{◌≡◌, ◌≤◌, replicate, vec_len, vec_capacity}
use Rattle.m17_board_run.proofs.board.zeros.Given as goal

-- so many zeros are put
abbrev pub invariant-loop : goal.invariant-loop
invariant-loop l = record {
  zeros_are : l.zeros.items ≡ replicate l.counter 0;
  as_many : vec_len l.zeros ≡ l.counter;
  room : l.fn.count ≤ vec_capacity l.zeros;
}
