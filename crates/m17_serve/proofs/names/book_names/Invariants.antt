use Rattle.std.proofs.Common.{◌≡◌, ◌≤◌, length, map, take, string_bytes, vec_len, vec_capacity}
use Rattle.m17_serve.specs.Asked.{book_name}
use Rattle.m17_serve.proofs.names.book_names.Given as goal

abbrev pub invariant-loop-letter : goal.invariant-loop-letter
invariant-loop-letter l = record {
  names : map string_bytes l.names.items ≡ map (book_name l.folder) (take l.letter-index l.letters);
  few : vec_len l.names ≡ l.letter-index;
  room : length l.letters ≤ vec_capacity l.names;
}
