-- Which of the packets that both clients of a bridge keep pass to the other side. This profile's
-- rule.
use Rattle.std.specs.Prelude.{◌≡◌, ◌↔◌, ◌⊎◌, ℕ, Bool, true, ◌+◌, ◌≤◌, List, length, take, Option, None, Some, IsTrue}
use Rattle.std.specs.List.{items_where_true, last_or, slice_get}
use Rattle.m17_stream.specs.declared.packet.StreamPacket.{StreamPacket}
use Rattle.m17_client.specs.declared.side.Side.{Side}

-- A packet that the client of a side kept: the side, the bridge's moment, whether the client of the
-- other side is connected at it, and the packet.
pub record Kept : Type 0 where
  pub side : Side
  pub at : ℕ
  pub connected : Bool
  pub packet : StreamPacket

-- The way is a side's for 1,600 milliseconds after a packet of it that passed.
abbrev pub way_timeout_ms : ℕ
way_timeout_ms = 1600

-- A packet finds the way free behind the last one that passed: there is none, or it is of the same
-- side, or it ended its stream, or it is 1,600 milliseconds ago or more.
abbrev pub FindsWay : Option Kept → Kept → Type 0
FindsWay None kept = Unit {0}
FindsWay (Some before) kept = (before.side ≡ kept.side)
    ⊎ ((before.packet.last ≡ true) ⊎ (before.at + way_timeout_ms ≤ kept.at))

-- A packet passes behind the last one that passed: the other client is connected, and it finds the
-- way free.
pub record Passes (before : Option Kept) (kept : Kept) : Type 0 where
  pub connected : IsTrue kept.connected
  pub way : FindsWay before kept

-- the last one that passed of the first n, by which of them did
abbrev pub passed_before : List Kept → List Bool → ℕ → Option Kept
passed_before kept passes n = last_or None (items_where_true (take n passes) (take n kept))

-- The rule: of each of these packets, in the order of the steps, it is told whether it passes. That
-- at a position does where it passes behind the last one below the position that does.
pub record Crosses (kept : List Kept) (passes : List Bool) : Type 0 where
  pub each_told : length passes ≡ length kept
  pub rule : (n : ℕ) (it : Kept) → slice_get kept n ≡ Some it
      → (slice_get passes n ≡ Some true) ↔ Passes (passed_before kept passes n) it
