use Rattle.std.proofs.Common.{◌<◌, take, length}
use Rattle.std.specs.Io.KnownBytes.{Appends}
use Rattle.m17_net.specs.Files.{IsGoingOn}
use Rattle.m17_net.proofs.Tries.{HasTried}
use Rattle.m17_net.proofs.file_book.append.Given as goal

-- the bytes before this place have been appended, and some are left; each call took some or was interrupted
abbrev pub invariant-loop : goal.invariant-loop
invariant-loop g l = record {
  within : l.at < length l.bytes;
  appended : Appends (g.F.BookFile.held l.fn.file) (g.F.BookFile.held l.file) (take l.at l.bytes);
  answered : HasTried IsGoingOn l.counter (g.F.BookFile.answered l.fn.file) (g.F.BookFile.answered l.file);
}
