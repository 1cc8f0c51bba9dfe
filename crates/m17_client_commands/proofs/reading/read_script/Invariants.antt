use Rattle.std.proofs.Common.{◌≡◌, ℕ, List, length, Some}
use Rattle.m17_client.specs.Talk.{IsInOrder}
use Rattle.m17_client_commands.specs.Script.{last_moment}
use Rattle.m17_client_commands.proofs.Records.{IsAfter}
use Rattle.m17_client_commands.proofs.reading.read_script.Given as goal

-- so many records were read, and no device failed
abbrev pub invariant-loop-index : goal.invariant-loop-index
invariant-loop-index g l = record {
  after : (bytes : List ℕ) → (g.S.Input.told l.fn.input).left ≡ Some bytes → IsAfter bytes l.script.items (g.S.Input.told l.input).left;
  in_order : IsInOrder l.script.items;
  last_is : l.last ≡ last_moment l.script.items;
  count : length l.script.items ≡ l.index;
  size : length l.bytes ≡ 62;
  reads : (g.S.Input.told l.input).faults ≡ (g.S.Input.told l.fn.input).faults;
  writes : (g.K.Sink.told l.out).faults ≡ (g.K.Sink.told l.fn.out).faults;
  written : (g.K.Sink.told l.out).written ≡ (g.K.Sink.told l.fn.out).written;
}
