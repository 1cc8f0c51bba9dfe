use Rattle.std.proofs.Common.{◌≡◌, ◌≤◌, map, string_bytes, vec_len, vec_capacity}
use Rattle.std.specs.List.{range_with_len}
use Rattle.m17_serve.specs.Asked.{trace_name}
use Rattle.m17_serve.proofs.names.trace_names.Given as goal

abbrev pub invariant-loop-number : goal.invariant-loop-number
invariant-loop-number l = record {
  names : map string_bytes l.names.items ≡ map (trace_name l.folder) (range_with_len 0 l.number);
  few : vec_len l.names ≡ l.number;
  room : l.links ≤ vec_capacity l.names;
}
