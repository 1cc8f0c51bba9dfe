use Rattle.std.proofs.Common.{◌≡◌, ◌+◌, ◌≤◌, ◌++◌, map, reverse, vec_len, vec_capacity}
use Rattle.m17_board_run.specs.Putting.{plain}
use Rattle.m17_board_run.proofs.putting.keep_plain.Given as goal

-- the last shelves are put, and these came from the end
abbrev pub invariant-loop-shelf : goal.invariant-loop-shelf
invariant-loop-shelf g l = record {
  put : map plain l.fn.shelves.items ≡ map plain l.shelves.items ++ reverse l.kept.items;
  count : vec_len l.kept + vec_len l.shelves ≡ vec_len l.fn.shelves;
  room : vec_len l.fn.shelves ≤ vec_capacity l.kept;
}

abbrev pub decreases-loop-shelf : goal.decreases-loop-shelf
decreases-loop-shelf g l = vec_len l.shelves
