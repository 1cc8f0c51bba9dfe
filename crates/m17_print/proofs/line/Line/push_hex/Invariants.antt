use Rattle.std.proofs.Common.{◌≡◌, ◌+◌, ◌*◌, ◌++◌, length, take}
use Rattle.m17_print.specs.Line.{hex_of}
use Rattle.m17_print.proofs.line.Line.push_hex.Given as goal

abbrev pub invariant-loop-byte : goal.invariant-loop-byte
invariant-loop-byte l = record {
  digits : l.self ≡ l.fn.self ++ hex_of (take l.byte-index l.bytes);
  count : length l.self ≡ length l.fn.self + 2 * l.byte-index;
}
