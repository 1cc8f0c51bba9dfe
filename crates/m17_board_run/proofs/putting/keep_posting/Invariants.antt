use Rattle.std.proofs.Common.{◌≡◌, ◌+◌, ◌≤◌, [], ◌++◌, All, map, reverse, vec_len, vec_capacity}
use Rattle.m17_ports.specs.Told.{StartsEmpty}
use Rattle.m17_board_run.specs.Kept.{told_of_shelf}
use Rattle.m17_board_run.specs.Putting.{IsPosting, plain_of, posters_of}
use Rattle.m17_board_run.proofs.putting.keep_posting.Given as goal

-- books are over the last shelves, by the last posters, and these came from the ends
abbrev pub invariant-loop-shelf : goal.invariant-loop-shelf
invariant-loop-shelf g l = record {
  shelves_put : l.fn.shelves.items ≡ l.shelves.items ++ map plain_of (reverse l.kept.items);
  posters_put : l.fn.posters.items ≡ l.posters.items ++ posters_of (reverse l.kept.items);
  posting : All IsPosting (reverse l.kept.items);
  empty : All (λ shelf. StartsEmpty (told_of_shelf g.B.Book.told shelf).written) l.shelves.items;
  unposted : All (λ poster. poster.posted ≡ []) l.posters.items;
  untaken : All (λ poster. poster.taken ≡ []) l.posters.items;
  each : vec_len l.posters ≡ vec_len l.shelves;
  room : vec_len l.kept + vec_len l.shelves ≤ vec_capacity l.kept;
}

abbrev pub decreases-loop-shelf : goal.decreases-loop-shelf
decreases-loop-shelf g l = vec_len l.shelves
