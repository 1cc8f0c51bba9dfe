use Rattle.std.proofs.Common.{◌≡◌, ℕ, ◌+◌, ◌<◌, ◌≤◌, Some}
use Rattle.std.specs.List.{slice_get}
use Rattle.m17_stream.specs.declared.packet.StreamPacket.{StreamPacket}
use Rattle.m17_client.proofs.script.is_in_order.Given as goal

abbrev pub invariant-loop-i : goal.invariant-loop-i
invariant-loop-i l = (n : ℕ) (a b : ℕ × StreamPacket) → n + 1 < l.i
    → slice_get l.script n ≡ Some a → slice_get l.script (n + 1) ≡ Some b → a.0 ≤ b.0
