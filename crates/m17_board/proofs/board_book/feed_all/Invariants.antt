use Rattle.std.proofs.Common.{◌≡◌, ℕ, List, ◌++◌, take}
use Rattle.m17_board.specs.Whole.{HasRead}
use Rattle.m17_board.proofs.board_book.feed_all.Given as goal

-- the bytes so far are read
abbrev pub invariant-loop-byte : goal.invariant-loop-byte
invariant-loop-byte g l = record {
  read : (taken : List ℕ) → HasRead l.initial.feed taken l.initial.poster.posted → HasRead l.feed (taken ++ take l.byte-index l.bytes) l.poster.posted;
  same : l.poster ≡ record l.initial.poster { posted = l.poster.posted };
}
