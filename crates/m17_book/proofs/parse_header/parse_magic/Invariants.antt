use Rattle.std.proofs.Common.{◌≡◌, ℕ, ◌<◌, get_or}
use Rattle.m17_book.proofs.parse_header.parse_magic.Given as goal

-- the bytes before this place are those of the magic
abbrev pub invariant-loop-place : goal.invariant-loop-place
invariant-loop-place l = (k : ℕ) → k < l.place → get_or l.b k 0 ≡ get_or l.magic k 0
