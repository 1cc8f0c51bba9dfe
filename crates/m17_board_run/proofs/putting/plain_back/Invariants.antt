use Rattle.std.proofs.Common.{◌≡◌, ◌+◌, ◌≤◌, ◌++◌, map, reverse, vec_len, vec_capacity}
use Rattle.m17_board_run.specs.Putting.{plain_of}
use Rattle.m17_board_run.proofs.putting.plain_back.Given as goal

-- the shelves of the last ones are out, and these came from the end
abbrev pub invariant-loop-one : goal.invariant-loop-one
invariant-loop-one g l = record {
  out : map plain_of l.fn.kept.items ≡ map plain_of l.kept.items ++ reverse l.shelves.items;
  count : vec_len l.shelves + vec_len l.kept ≡ vec_len l.fn.kept;
  room : vec_len l.fn.kept ≤ vec_capacity l.shelves;
}

abbrev pub decreases-loop-one : goal.decreases-loop-one
decreases-loop-one g l = vec_len l.kept
