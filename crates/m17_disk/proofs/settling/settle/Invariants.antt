use Rattle.std.proofs.Common.{◌≡◌, ◌+◌, List, ◌++◌, reverse, vec_len, vec_capacity}
use Rattle.std.specs.List.{AllZip}
use Rattle.m17_disk.specs.declared.writer.Writer.{Writer}
use Rattle.m17_disk.specs.Writing.{EndsAs, SaysOf}
use Rattle.m17_disk.proofs.settling.settle.Given as goal

-- the threads from the last one on came to their end, or were late, and this is said of them
abbrev pub invariant-loop-hand : goal.invariant-loop-hand
invariant-loop-hand g l = record {
  ended : (begun : List (Writer g.row.B.Denot)) × (reverse l.fn.hands.items ≡ begun ++ reverse l.hands.items)
      × AllZip (EndsAs g.B.Book.told) begun l.ended.items;
  said : SaysOf l.ended.items l.said;
  number : vec_len l.ended + vec_len l.hands ≡ vec_len l.fn.ended + vec_len l.fn.hands;
  room : vec_capacity l.ended ≡ vec_capacity l.fn.ended;
}

abbrev pub decreases-loop-hand : goal.decreases-loop-hand
decreases-loop-hand g l = vec_len l.hands
