use Rattle.std.proofs.Common.{◌≡◌, ◌+◌, ◌≤◌, ◌++◌, All, map, reverse, vec_len, vec_capacity}
use Rattle.std.specs.List.{AllZip}
use Rattle.m17_board_run.specs.Putting.{IsBack, IsPosting, plain_of, posters_of}
use Rattle.m17_board_run.proofs.putting.posting_back.Given as goal

-- the shelves and the posters of the last ones are out, and these came from the end
abbrev pub invariant-loop-one : goal.invariant-loop-one
invariant-loop-one g l = record {
  shelves_out : map plain_of l.fn.kept.items ≡ map plain_of l.kept.items ++ reverse l.shelves.items;
  posters_out : posters_of l.fn.kept.items ≡ posters_of l.kept.items ++ reverse l.posters.items;
  back : AllZip (IsBack g.B.Book.told) (reverse l.shelves.items) (reverse l.posters.items);
  posting : All IsPosting l.kept.items;
  shelf_count : vec_len l.shelves + vec_len l.kept ≡ vec_len l.fn.kept;
  poster_count : vec_len l.posters + vec_len l.kept ≡ vec_len l.fn.kept;
  shelf_room : vec_len l.fn.kept ≤ vec_capacity l.shelves;
  poster_room : vec_len l.fn.kept ≤ vec_capacity l.posters;
}

abbrev pub decreases-loop-one : goal.decreases-loop-one
decreases-loop-one g l = vec_len l.kept
